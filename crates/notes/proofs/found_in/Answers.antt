-- `notes::found_in` meets its contract.
use Rattle.std.proofs.Common.{arith}
use Rattle.notes.specs.Lines.{found_by}
use Rattle.notes.proofs.found_in.Goals as goal

pub returns-then-is_checked : goal.returns-then-is_checked
unfolding found_by
returns-then-is_checked c = grind arith

pub returns-else-is_checked : goal.returns-else-is_checked
unfolding found_by
returns-else-is_checked c = grind arith
