-- `elements::lacks_pair` meets its contract.
use Rattle.std.proofs.Common.{arith}
use Rattle.elements.proofs.Notes.{member-is}
use Rattle.elements.proofs.lacks_pair.Goals as goal

pub returns-then-not-is_present : goal.returns-then-not-is_present
returns-then-not-is_present c = let a = c.args in grind (arith, member-is a.n a.places.now)

pub returns-else-not-is_present : goal.returns-else-not-is_present
returns-else-not-is_present c = let a = c.args in grind (arith, member-is a.n a.places.now)
