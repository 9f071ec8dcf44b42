-- `envelope::is_of_envelope` meets its contract.
use native.Mathlib.Omega.{arith}
use Rattle.rules.specs.Base.{any}
use Rattle.envelope.proofs.is_of_envelope.Goals as goal

pub returns-then-is_named-3 : goal.returns-then-is_named-3
unfolding any
returns-then-is_named-3 c = grind arith

pub returns-else-is_named-3 : goal.returns-else-is_named-3
unfolding any
returns-else-is_named-3 c = grind arith
