-- `look::segment::start_after` meets its contract.
use Rattle.std.proofs.Common.{rules, tests}
use Rattle.look.specs.Passing.{start_after}
use Rattle.look.proofs.segment.start_after.Goals as goal

pub returns-then-is_some_and : goal.returns-then-is_some_and
unfolding start_after
returns-then-is_some_and c = search (rules, tests)

pub returns-else-is_some_and : goal.returns-else-is_some_and
unfolding start_after
returns-else-is_some_and c = search (rules, tests)
