-- `look::segment::is_over` meets its contract.
use Rattle.std.proofs.Common.{rules, tests}
use Rattle.look.specs.Passing.{is_over}
use Rattle.look.proofs.segment.is_over.Goals as goal

pub returns : goal.returns
unfolding is_over
returns c = search (rules, tests)
