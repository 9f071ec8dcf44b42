-- `caller::is_date` meets its contract.
use borrow.Author.Tests.{le-leb, lt-leb}
use Rattle.caller.proofs.is_date.Goals as goal

pub returns-then-date-le99991231 : goal.returns-then-date-le99991231
returns-then-date-le99991231 c = rw (le-leb _ _ c.if-date-le99991231.true) c.is_day.ensures

pub returns-else-date-le99991231 : goal.returns-else-date-le99991231
returns-else-date-le99991231 c = rw (lt-leb _ _ c.if-date-le99991231.false)
