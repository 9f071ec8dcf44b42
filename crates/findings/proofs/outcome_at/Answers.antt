-- `findings::outcome_at` meets its contract.
use Rattle.std.proofs.Common.{arith}
use Rattle.std.proofs.lemmas.Bool.Decides.{nat_tests}
use Rattle.findings.specs.Steps as steps
use Rattle.findings.proofs.outcome_at.Goals as goal

pub returns-then-w-eq0 : goal.returns-then-w-eq0
unfolding steps.outcome_at
returns-then-w-eq0 c = grind (arith, nat_tests)

pub returns : goal.returns
unfolding steps.outcome_at
returns c = grind (arith, nat_tests)
