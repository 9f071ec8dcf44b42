-- `response_envelope::add_ge` meets its contract: a segment's row of pieces.
use Rattle.rules.specs.Response.{ge_out}
use Rattle.writing.proofs.Segments.{begin, more, end}
use Rattle.response_envelope.proofs.add_ge.Goals as goal

pub returns : goal.returns
unfolding ge_out
returns c =
    end (more (more (begin _ c.add-n.ensures) _ c.add_field-n.ensures) _ c.add_field-n-2.ensures) c.add.ensures
