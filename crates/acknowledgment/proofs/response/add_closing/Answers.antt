-- `acknowledgment::response::add_closing` meets its contract: two segments.
use Rattle.acknowledgment.specs.Writers.{closing}
use Rattle.acknowledgment.proofs.Transactions.{two}
use Rattle.acknowledgment.proofs.response.add_closing.Goals as goal

pub returns : goal.returns
unfolding closing
returns c =
    two _ _ _ c.add_ge-n.ensures c.add_iea.ensures
