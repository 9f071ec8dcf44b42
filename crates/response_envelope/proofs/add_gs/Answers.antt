-- `response_envelope::add_gs` meets its contract: a segment's row of pieces.
use Rattle.rules.specs.Response.{gs_out}
use Rattle.writing.proofs.Segments.{begin, more, end}
use Rattle.response_envelope.proofs.add_gs.Goals as goal

pub returns : goal.returns
unfolding gs_out
returns c =
    end (more (more (begin _ c.add-n.ensures) _ c.add_gs_parties-n.ensures) _ c.add_gs_stamp-n.ensures) c.add.ensures
