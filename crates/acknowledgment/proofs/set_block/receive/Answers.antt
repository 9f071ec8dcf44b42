-- `acknowledgment::set_block::receive` meets its contract.
use Rattle.acknowledgment.proofs.set_block.receive.Goals as goal

pub returns : goal.returns
returns c = rw (c.table_of.ensures, c.field-kind.ensures, c.part-header.ensures)
