-- `elements::is_second` meets its contract.
use Rattle.std.proofs.Common.{arith}
use Rattle.elements.proofs.Notes.{member-is}
use Rattle.elements.proofs.is_second.Goals as goal

pub returns-then-is_present : goal.returns-then-is_present
returns-then-is_present c = grind (arith, member-is c.args.n c.after_present.result.now)
