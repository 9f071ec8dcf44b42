-- `acknowledgment::set_block::odd_set` meets its contract.
use Rattle.acknowledgment.proofs.set_block.odd_set.Goals as goal

pub returns : goal.returns
returns c = rw c.next_set.ensures
