-- `response_envelope::add_isa_parties` meets its contract: a row of elements.
use Rattle.writing.proofs.Segments.{also}
use Rattle.response_envelope.proofs.add_isa_parties.Goals as goal

pub returns : goal.returns
returns c =
    also _ _ _ (also _ _ _ (also _ _ _ (rw c.isa_field.ensures at c.add_field-n.ensures) (rw c.isa_field-2.ensures at c.add_field-n-2.ensures)) (rw c.isa_field-3.ensures at c.add_field-n-3.ensures)) (rw c.isa_field-4.ensures at c.add_field.ensures)
