-- `notes::add_segment_line` meets its contract.
use mathlib.Core.Path.{ap, ◌∙◌}
use Rattle.tables.specs.Reading.{id_bytes}
use Rattle.rules.specs.Cutting.{split, field}
use Rattle.rules.specs.Segments.{echoed}
use Rattle.std.proofs.lemmas.Bool.Decides.{nat_tests}
use Rattle.notes.proofs.Laws.{echoed_id_law, lined_none, lined_some}
use Rattle.notes.proofs.Sofar.{adds_none}
use native.Mathlib.Omega.{arith}
use Rattle.notes.proofs.add_segment_line.Goals as goal

pub returns-then-not-faulty : goal.returns-then-not-faulty
returns-then-not-faulty c =
    let a = c.args in
    rw (lined_none (echoed (field (split a.d.element a.s.now) 0)) a.taken.passed.position a.taken.own a.faulty (grind (arith, nat_tests))) (adds_none _ _ _ (omega arith) (omega arith) (omega arith))

pub returns : goal.returns
returns c =
    let a = c.args in
    rw (lined_some (echoed (field (split a.d.element a.s.now) 0)) a.taken.passed.position a.taken.own a.faulty (grind (arith, nat_tests)))
    (rw (ap id_bytes c.echoed_id.ensures ∙ echoed_id_law c.id.result.now ∙ ap echoed c.id.ensures) at c.add_line.ensures)
