-- `look::turn_on` meets its contract.
use Rattle.look.specs.Looking.{turn_on}
use Rattle.look.proofs.turn_on.Goals as goal

pub returns-in-Some : goal.returns-in-Some
unfolding turn_on
returns-in-Some c = rw (← c.next_due.ensures, c.in-Some.is)

pub returns-in-None : goal.returns-in-None
unfolding turn_on
returns-in-None c = rw (← c.next_due.ensures, c.in-None.is, ← c.is_entry.ensures, c.if-is_entry.true) c.again.ensures

pub returns-in-None-2 : goal.returns-in-None-2
unfolding turn_on
returns-in-None-2 c = rw (← c.next_due.ensures, c.in-None-2.is, ← c.is_entry.ensures, c.if-is_entry.false)
