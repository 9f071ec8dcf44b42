-- `writing::add` meets its contract: the rest is lent to a piece.
use native.Mathlib.Omega.{arith}
use Rattle.writing.proofs.Laws.{lend}
use Rattle.writing.proofs.add.Goals as goal

pub returns : goal.returns
returns g c = lend c.min-at.ensures c.put-m.ensures c.saturating_add.ensures (omega arith)
