-- `findings::stands` meets its contract.
use Rattle.std.proofs.Common.{arith}
use Rattle.std.proofs.lemmas.Bool.Decides.{nat_tests}
use Rattle.findings.specs.Steps as steps
use Rattle.findings.proofs.stands.Goals as goal

pub returns-then-not-is_known : goal.returns-then-not-is_known
unfolding steps.stands
returns-then-not-is_known c = grind (arith, nat_tests)

pub returns-then-guide-row : goal.returns-then-guide-row
unfolding steps.stands
returns-then-guide-row c = grind (arith, nat_tests)

pub returns-in-Less : goal.returns-in-Less
unfolding steps.stands
returns-in-Less c = grind (arith, nat_tests)

pub returns-in-Equal : goal.returns-in-Equal
unfolding steps.stands
returns-in-Equal c = grind (arith, nat_tests)

pub returns-in-Greater : goal.returns-in-Greater
unfolding steps.stands
returns-in-Greater c = grind (arith, nat_tests)
