-- `elements::first_found` meets its contract.
use Rattle.elements.specs.Checks as checks
use Rattle.elements.proofs.first_found.Goals as goal

pub returns : goal.returns
unfolding checks.start
returns c = rw (c.next_found.ensures, c.find_near.ensures, c.first_note.ensures, c.below-row.ensures)
