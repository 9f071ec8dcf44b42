-- `blocks::add_ak9` meets its contract: a segment's row of pieces.
use Rattle.writing.proofs.Segments.{begin, more, end}
use Rattle.blocks.proofs.add_ak9.Goals as goal

pub returns : goal.returns
returns c =
    end (more (more (more (more (more (begin _ c.add-n.ensures) _ c.add_field-n.ensures) _ c.add_field-n-2.ensures) _ c.add_field-n-3.ensures) _ c.add_field-n-4.ensures) _ c.add_codes-n.ensures) c.add.ensures
