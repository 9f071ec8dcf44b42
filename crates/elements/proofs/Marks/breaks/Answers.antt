-- `elements::Marks::breaks` meets its contract.
use Rattle.std.proofs.Common.{arith}
use Rattle.std.proofs.lemmas.Grind.{common_steps}
use Rattle.rules.specs.Base.{all}
use Rattle.text.proofs.Loops.{and_false}
use Rattle.elements.proofs.Marks.breaks.Goals as goal

pub returns-else-is_some_and : goal.returns-else-is_some_and
unfolding all
returns-else-is_some_and c = rw c.in-C.is (grind (arith, common_steps, and_false))
