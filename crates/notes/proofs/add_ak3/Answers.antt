-- `notes::add_ak3` meets its contract: a segment's row of pieces.
use Rattle.notes.proofs.Laws.{codes_two}
use Rattle.writing.proofs.Segments.{begin, more, end}
use Rattle.notes.proofs.add_ak3.Goals as goal

pub returns : goal.returns
returns c =
    let l = c.args.l in
    let faulty = rw c.then_some.ensures at c.add_code-n-2.ensures in
    rw (codes_two l.own l.faulty) (end (more (more (more (more (more (begin _ c.add-n.ensures) _ c.add_id-n.ensures) _ c.add_field-n.ensures) _ c.add_optional-n.ensures) _ c.add_code-n.ensures) _ faulty) c.add.ensures)
