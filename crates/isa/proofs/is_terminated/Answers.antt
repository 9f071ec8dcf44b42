-- `isa::is_terminated` meets its contract.
use Rattle.isa.proofs.is_terminated.Goals as goal

pub returns : goal.returns
returns c = rw (← c.last_byte.ensures)
