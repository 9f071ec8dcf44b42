-- `response_envelope::add_no_information` meets its contract: a row of elements.
use Rattle.writing.proofs.Segments.{also}
use Rattle.response_envelope.proofs.add_no_information.Goals as goal

pub returns : goal.returns
returns c =
    also _ _ _ c.add_field-n.ensures c.add_field.ensures
