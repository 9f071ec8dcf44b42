-- `elements::field_after` meets its contract.
use Rattle.elements.specs.Checks.{field_after}
use Rattle.elements.proofs.field_after.Goals as goal

pub returns : goal.returns
unfolding field_after
returns c = rw (c.find_near.ensures, c.next_start-start.ensures)
