-- `interchange_acknowledgment::add_ta1` meets its contract: a segment's row of pieces.
use Rattle.rules.specs.InterchangeAcknowledgment.{ta1}
use Rattle.writing.proofs.Segments.{begin, more, end}
use Rattle.interchange_acknowledgment.proofs.add_ta1.Goals as goal

pub returns : goal.returns
unfolding ta1
returns c =
    end (more (more (more (more (more (begin _ c.add-n.ensures) _ (rw c.isa_field.ensures at c.add_field-n.ensures)) _ (rw c.isa_field-2.ensures at c.add_field-n-2.ensures)) _ (rw c.isa_field-3.ensures at c.add_field-n-3.ensures)) _ (rw c.verdict.ensures at c.add_field-n-4.ensures)) _ (rw c.number.ensures at c.add_field-n-5.ensures)) c.add.ensures
