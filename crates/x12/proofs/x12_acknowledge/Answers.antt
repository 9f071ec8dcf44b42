-- `x12::x12_acknowledge` meets its contract.
use Rattle.rules.proofs.Facts.{functional_numbered}
use Rattle.x12.proofs.Delivered.{delivered}
use Rattle.x12.proofs.x12_acknowledge.Goals as goal

pub returns : goal.returns
returns c = delivered _ _ _ (functional_numbered _ _) c.acknowledge.ensures c.tell.ensures
