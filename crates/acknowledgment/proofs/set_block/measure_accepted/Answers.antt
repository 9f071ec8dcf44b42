-- `acknowledgment::set_block::measure_accepted` meets its contract.
use Rattle.acknowledgment.proofs.set_block.measure_accepted.Goals as goal

pub returns : goal.returns
returns c = rw c.saturating_add.ensures
