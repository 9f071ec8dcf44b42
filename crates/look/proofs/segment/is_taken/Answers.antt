-- `look::segment::is_taken` meets its contract.
use mathlib.Core.Path.{sym, ◌∙◌}
use native.Mathlib.Omega.{arith}
use borrow.Author.Tests.{ltb-true}
use Rattle.tables.specs.Reading.{row_at}
use Rattle.look.proofs.Reading.{taken_by}
use Rattle.look.proofs.segment.is_taken.Goals as goal
use Rattle.look.proofs.segment.is_taken.Goals.{then-start-end, else-start-end}

pub returns-then-takes_length : goal.returns-then-takes_length
returns-then-takes_length c =
    let a = c.args in
    let taken = c.if-takes_length.true in
    elim c.if-start-end.branch [
      | then-start-end w ↦ taken ∙ sym (taken_by (row_at a.guide.now a.k) a.rest.now a.start a.end w.if-start-end.true c.requires.1 (sym w.takes_length.ensures ∙ sym w.value-is ∙ taken))
      | else-start-end w ↦ absurd (omega (arith, ltb-true _ _ (sym w.value-is ∙ taken)))
    ]
