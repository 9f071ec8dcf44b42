-- `response_envelope::add_isa_stamp` meets its contract: a row of elements.
use Rattle.writing.proofs.Segments.{also}
use Rattle.response_envelope.proofs.add_isa_stamp.Goals as goal

pub returns : goal.returns
returns c =
    also _ _ _ (also _ _ _ (also _ _ _ (also _ _ _ c.add_field-n.ensures c.add_field-n-2.ensures) c.add_field-n-3.ensures) c.add_field-n-4.ensures) c.add_field.ensures
