-- `x12::x12_acknowledge_interchange` meets its contract.
use Rattle.rules.proofs.Facts.{interchange_numbered}
use Rattle.x12.proofs.Delivered.{delivered}
use Rattle.x12.proofs.x12_acknowledge_interchange.Goals as goal

pub returns : goal.returns
returns c = delivered _ _ _ (interchange_numbered _ _) c.acknowledge_interchange.ensures c.tell.ensures
