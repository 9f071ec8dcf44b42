-- `findings::outcome_of` meets its contract.
use Rattle.std.proofs.Common.{arith}
use Rattle.std.proofs.lemmas.Bool.Decides.{nat_tests}
use Rattle.findings.specs.Steps as steps
use Rattle.findings.proofs.outcome_of.Goals as goal

pub returns-in-Unknown : goal.returns-in-Unknown
unfolding steps.outcome
returns-in-Unknown c = grind (arith, nat_tests)

pub returns-in-Unlisted : goal.returns-in-Unlisted
unfolding steps.outcome
returns-in-Unlisted c = grind (arith, nat_tests)

pub returns-in-Before : goal.returns-in-Before
unfolding steps.outcome
returns-in-Before c = grind (arith, nat_tests)

pub returns-in-Later : goal.returns-in-Later
unfolding steps.outcome
returns-in-Later c = grind (arith, nat_tests)
