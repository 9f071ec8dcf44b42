-- `envelope::start_after` meets its contract.
use native.Mathlib.Omega.{arith}
use Rattle.text.proofs.Search.{find_end}
use Rattle.envelope.proofs.start_after.Goals as goal

pub overflow_add-result : goal.overflow_add-result
overflow_add-result c = omega (arith, find_end _ _ _ _ c.requires c.if-at-i.true)
