-- `notes::add_ak4` meets its contract: a segment's row of pieces.
use Rattle.rules.specs.Response.{ak4}
use Rattle.writing.proofs.Segments.{begin, more, end}
use Rattle.notes.proofs.add_ak4.Goals as goal

pub returns : goal.returns
unfolding ak4
returns c = end (more (more (more (more (begin _ c.add-n.ensures) _ c.add_field-n.ensures) _ c.add_optional-n.ensures) _ c.add_field-n-2.ensures) _ (rw c.part-echo.ensures at c.add_trailing-n.ensures)) c.add.ensures
