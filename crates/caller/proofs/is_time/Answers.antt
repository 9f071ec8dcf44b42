-- `caller::is_time` meets its contract.
use borrow.Author.Tests.{le-leb, lt-leb}
use Rattle.caller.proofs.is_time.Goals as goal

pub returns-then-time-le23 : goal.returns-then-time-le23
returns-then-time-le23 c = rw (le-leb _ _ c.if-time-le23.true)

pub returns-else-time-le23 : goal.returns-else-time-le23
returns-else-time-le23 c = rw (lt-leb _ _ c.if-time-le23.false)
