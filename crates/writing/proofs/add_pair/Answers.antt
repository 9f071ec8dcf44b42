-- `writing::add_pair` meets its contract: a segment's row of pieces.
use Rattle.writing.proofs.Segments.{begin, more, end}
use Rattle.writing.proofs.add_pair.Goals as goal

pub returns : goal.returns
returns c =
    end (more (more (begin _ c.add-n.ensures) _ c.add_field-n.ensures) _ c.add_field-n-2.ensures) c.add.ensures
