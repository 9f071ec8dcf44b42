-- `acknowledgment::response::put_opening` meets its contract: two segments.
use Rattle.acknowledgment.specs.Writers.{opening}
use Rattle.acknowledgment.proofs.Transactions.{two}
use Rattle.acknowledgment.proofs.response.put_opening.Goals as goal

pub returns : goal.returns
unfolding opening
returns c =
    two _ _ _ c.add_isa-n.ensures c.add_gs.ensures
