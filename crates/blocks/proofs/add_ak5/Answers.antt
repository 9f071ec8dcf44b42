-- `blocks::add_ak5` meets its contract: a segment's row of pieces.
use Rattle.writing.proofs.Segments.{begin, more, end}
use Rattle.blocks.proofs.add_ak5.Goals as goal

pub returns : goal.returns
returns c =
    end (more (more (begin _ c.add-n.ensures) _ (rw c.verdict_of.ensures at c.add_field-n.ensures)) _ c.add_codes-n.ensures) c.add.ensures
