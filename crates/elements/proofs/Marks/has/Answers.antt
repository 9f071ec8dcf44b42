-- `elements::Marks::has` meets its contract.
use Rattle.std.proofs.lemmas.Nat.{and_mask}
use Rattle.elements.specs.Marks.{marked}
use Rattle.elements.proofs.Marks.has.Goals as goal

pub returns : goal.returns
unfolding marked
returns c = rw (and_mask _ 1)
