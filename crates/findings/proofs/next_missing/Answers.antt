-- `findings::next_missing` meets its contract.
use Rattle.std.proofs.Common.{arith}
use Rattle.std.proofs.lemmas.Bool.Decides.{nat_tests}
use Rattle.findings.specs.Steps as steps
use Rattle.findings.proofs.next_missing.Goals as goal

pub returns : goal.returns
unfolding steps.next_missing
returns c = grind (arith, nat_tests)
