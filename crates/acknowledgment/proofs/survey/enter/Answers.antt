-- `acknowledgment::survey::enter` meets its contract: the search finds what is among the sets before, or the slot to enter the set at.
use native.Mathlib.Omega.{arith}
use Rattle.acknowledgment.proofs.Surveys.{slot_inside, entered_so}
use Rattle.acknowledgment.proofs.survey.enter.Goals as goal

pub offset_bounds-links-slot : goal.offset_bounds-links-slot
offset_bounds-links-slot c = omega (arith, (let entry = c.requires in slot_inside entry.0 entry.1.0 entry.1.1 c.search.ensures c.in-Some.is))

pub bounds-links-slot : goal.bounds-links-slot
bounds-links-slot c =
    let entry = c.requires in
    slot_inside entry.0 entry.1.0 entry.1.1 c.search.ensures c.in-Some.is

pub returns-in-None : goal.returns-in-None
returns-in-None c =
    let entry = c.requires in
    rw c.in-None.is at (entered_so entry.0 entry.1.0 entry.1.1 c.search.ensures)

pub returns-in-Some : goal.returns-in-Some
returns-in-Some c =
    let entry = c.requires in
    rw c.in-Some.is at (entered_so entry.0 entry.1.0 entry.1.1 c.search.ensures)
