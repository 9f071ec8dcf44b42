-- `findings::segment` meets its contract.
use Rattle.std.proofs.Common.{arith}
use Rattle.std.proofs.lemmas.Bool.Decides.{nat_tests}
use Rattle.findings.specs.Steps as steps
use Rattle.findings.proofs.segment.Goals as goal

pub returns : goal.returns
unfolding steps.segment_by
returns c = grind (arith, nat_tests)
