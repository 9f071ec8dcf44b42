-- `blocks::add_se` meets its contract: a segment's row of pieces.
use Rattle.rules.specs.Response.{se_out}
use Rattle.writing.proofs.Segments.{begin, more, end}
use Rattle.blocks.proofs.add_se.Goals as goal

pub returns : goal.returns
unfolding se_out
returns c =
    end (more (more (begin _ c.add-n.ensures) _ c.add_field-n.ensures) _ c.add_field-n-2.ensures) c.add.ensures
