-- `findings::repeated` meets its contract.
use Rattle.std.proofs.Common.{arith}
use Rattle.std.proofs.lemmas.Bool.Decides.{nat_tests}
use Rattle.findings.specs.Steps as steps
use Rattle.findings.proofs.repeated.Goals as goal

pub returns : goal.returns
unfolding steps.outcome
returns c = grind (arith, nat_tests)
