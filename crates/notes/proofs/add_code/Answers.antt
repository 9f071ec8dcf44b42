-- `notes::add_code` meets its contract.
use Rattle.rules.specs.Response.{fields_out}
use Rattle.writing.proofs.Laws.{none}
use native.Mathlib.Omega.{arith}
use Rattle.notes.proofs.add_code.Goals as goal

pub returns-in-None : goal.returns-in-None
unfolding fields_out
returns-in-None c = rw c.in-None.is (none _ _ (omega arith) (omega arith))
