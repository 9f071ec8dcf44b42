-- `acknowledgment::transaction::add_beginning` meets its contract: two segments.
use Rattle.acknowledgment.specs.Writers.{beginning}
use Rattle.acknowledgment.proofs.Transactions.{two}
use Rattle.acknowledgment.proofs.transaction.add_beginning.Goals as goal

pub returns : goal.returns
unfolding beginning
returns c =
    two _ _ _ c.add_st-n.ensures c.add_ak1.ensures
