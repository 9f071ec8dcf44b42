-- `acknowledgment::set_block::is_closed_well` meets its contract.
use mathlib.Core.Path.{◌∙◌}
use Rattle.acknowledgment.proofs.set_block.is_closed_well.Goals as goal

pub returns : goal.returns
returns c = c.closes.ensures ∙ rw c.part-trailer.ensures
