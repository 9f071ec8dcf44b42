-- `elements::lacks_other` meets its contract.
use Rattle.std.proofs.Common.{drop, arith}
use Rattle.elements.proofs.Notes.{member-is, rest}
use Rattle.elements.proofs.lacks_other.Goals as goal

pub returns-then-not-is_present : goal.returns-then-not-is_present
returns-then-not-is_present c =
    let a = c.args in
    let ps = a.places.now in
    grind (arith, member-is a.n (drop 1 ps), rest ps 1)

pub returns-else-not-is_present : goal.returns-else-not-is_present
returns-else-not-is_present c =
    let a = c.args in
    let ps = a.places.now in
    grind (arith, member-is a.n (drop 1 ps), rest ps 1)
