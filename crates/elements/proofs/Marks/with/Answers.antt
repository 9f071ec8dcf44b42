-- `elements::Marks::with` meets its contract.
use Rattle.std.proofs.Common.{arith}
use Rattle.elements.specs.Marks.{marked_with}
use Rattle.elements.proofs.Marks.with.Goals as goal

pub returns : goal.returns
unfolding marked_with
returns c = grind arith
