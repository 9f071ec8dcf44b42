-- `envelope::group_ending` meets its contract.
use mathlib.Core.Path.{sym, ◌∙◌}
use native.Mathlib.Omega.{arith}
use Rattle.envelope.specs.Places.{group_ending}
use Rattle.envelope.proofs.Places.{trailer_within}
use Rattle.envelope.proofs.group_ending.Goals as goal

pub overflow_add-result : goal.overflow_add-result
overflow_add-result c = omega (arith, trailer_within _ _ _ (sym c.trailer_at-ge.ensures ∙ c.in-Some.is))

pub returns-in-Some : goal.returns-in-Some
unfolding group_ending
returns-in-Some c = grind arith

pub returns-in-None : goal.returns-in-None
unfolding group_ending
returns-in-None c = grind arith
