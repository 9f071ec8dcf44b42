-- `findings::missing_trailer` meets its contract.
use Rattle.std.proofs.Common.{arith}
use Rattle.std.proofs.lemmas.Bool.Decides.{nat_tests}
use Rattle.findings.specs.Steps as steps
use Rattle.findings.proofs.missing_trailer.Goals as goal

pub returns-in_default : goal.returns-in_default
unfolding steps.trailer_step
returns-in_default c = grind (arith, nat_tests)

pub returns : goal.returns
unfolding steps.trailer_step
returns c = grind (arith, nat_tests)
