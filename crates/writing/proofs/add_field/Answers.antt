-- `writing::add_field` meets its contract: a separator and its content.
use Rattle.writing.proofs.Segments.{field}
use Rattle.writing.proofs.add_field.Goals as goal

pub returns : goal.returns
returns g c = field _ c.add-n.ensures c.add.ensures
