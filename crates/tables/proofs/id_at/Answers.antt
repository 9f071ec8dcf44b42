-- `tables::id_at` meets its contract.
use Rattle.tables.specs.Reading.{id_at}
use Rattle.tables.proofs.id_at.Goals as goal

pub returns : goal.returns
unfolding id_at
returns c = rw (c.low_byte-3.ensures, c.number-3.ensures, c.low_byte-2.ensures, c.number-2.ensures, c.low_byte.ensures, c.number.ensures)
