-- `acknowledgment::set_block::put_accepted` meets its contract: AK2 and AK5, with ST01 and ST02 of the header.
use mathlib.Core.Path.{◌∙◌, sym}
use Rattle.acknowledgment.proofs.Blocks.{acceptance_written}
use Rattle.acknowledgment.proofs.Looks.{kind_here}
use Rattle.acknowledgment.proofs.set_block.put_accepted.Goals as goal

pub returns : goal.returns
returns c =
    acceptance_written _ (c.fields_of.ensures ∙ rw (kind_here c.requires.0, sym c.requires.1.control)) c.put_acceptance.ensures
