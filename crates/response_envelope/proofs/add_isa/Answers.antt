-- `response_envelope::add_isa` meets its contract: a segment's row of pieces.
use Rattle.rules.specs.Response.{isa_out}
use Rattle.writing.proofs.Segments.{begin, more, end}
use Rattle.response_envelope.proofs.add_isa.Goals as goal

pub returns : goal.returns
unfolding isa_out
returns c =
    end (more (more (more (more (more (more (more (begin _ c.add-n.ensures) _ c.add_no_information-n.ensures) _ c.add_no_information-n-2.ensures) _ c.add_isa_parties-n.ensures) _ c.add_isa_stamp-n.ensures) _ c.add_field-n.ensures) _ (rw c.isa_field.ensures at c.add_field-n-2.ensures)) _ c.add_field-n-3.ensures) c.add.ensures
