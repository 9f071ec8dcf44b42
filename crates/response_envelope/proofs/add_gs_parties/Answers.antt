-- `response_envelope::add_gs_parties` meets its contract: a row of elements.
use Rattle.writing.proofs.Segments.{also}
use Rattle.response_envelope.proofs.add_gs_parties.Goals as goal

pub returns : goal.returns
returns c =
    also _ _ _ (also _ _ _ c.add_field-n.ensures (rw c.field.ensures at c.add_field-n-2.ensures)) (rw c.field-2.ensures at c.add_field.ensures)
