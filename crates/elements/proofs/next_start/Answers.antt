-- `elements::next_start` meets its contract.
use Rattle.std.proofs.Common.{arith}
use Rattle.std.proofs.lemmas.Bool.Decides.{nat_tests}
use Rattle.elements.specs.Checks.{next_start}
use Rattle.elements.proofs.next_start.Goals as goal

pub returns : goal.returns
unfolding next_start
returns c = grind (arith, nat_tests)
