-- `acknowledgment::transaction::add_ending` meets its contract: two segments.
use Rattle.acknowledgment.specs.Writers.{ending}
use Rattle.acknowledgment.proofs.Transactions.{two}
use Rattle.acknowledgment.proofs.transaction.add_ending.Goals as goal

pub returns : goal.returns
unfolding ending
returns c =
    two _ _ _ c.add_ak9-n.ensures (rw c.saturating_add.ensures at c.add_se.ensures)
