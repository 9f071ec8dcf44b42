-- `elements::next_found` meets its contract.
use Rattle.std.proofs.Common.{sym, ◌∙◌, arith}
use Rattle.elements.proofs.Checks.{value_is, found_end, found_stop, found_over, found_here, found_later}
use Rattle.elements.proofs.next_found.Goals as goal
use Rattle.elements.proofs.next_found.Goals.{else-loop-row-test, then-loop-row-test+then-is_segment, else-is_element, then-is_element+else-is_coded}

pub loop-row-preserved : goal.loop-row-preserved
loop-row-preserved c =
    let a = c.args in
    let l = c.loop-row in
    let row = l.invariant.1 in
    elim c.if-is_element.branch [
      | then-is_element+else-is_coded w ↦ (
        l.invariant.0
            ∙ found_later a.d a.s.now a.guide.now l.c (omega arith) (rw row (sym c.is_segment.ensures ∙ c.if-is_segment.false)) (rw row (sym c.is_element.ensures ∙ w.if-is_element.true))
            (rw (← w.codes_at-codes.ensures) (sym w.is_coded.ensures ∙ w.if-is_coded.false))
            ∙ rw (w.c-is, w.saturating_add.ensures, w.codes_at-codes.ensures, value_is a.d a.s.now a.guide.now l.c, row),
        rw w.c-is,
      )
      | else-is_element w ↦ (
        l.invariant.0
            ∙ found_over a.d a.s.now a.guide.now l.c (omega arith) (rw row (sym c.is_segment.ensures ∙ c.if-is_segment.false)) (rw row (sym c.is_element.ensures ∙ w.if-is_element.false))
            ∙ rw (w.c-is, row),
        rw w.c-is,
      )
    ]

pub returns-then-is_coded : goal.returns-then-is_coded
returns-then-is_coded c =
    let a = c.args in
    let l = c.loop-row in
    let row = l.invariant.1 in
    sym (l.invariant.0
    ∙ found_here a.d a.s.now a.guide.now l.c (omega arith) (rw row (sym c.is_segment.ensures ∙ c.if-is_segment.false)) (rw row (sym c.is_element.ensures ∙ c.if-is_element.true))
    (rw (← c.codes_at-codes.ensures) (sym c.is_coded.ensures ∙ c.if-is_coded.true))
    ∙ rw (c.saturating_add.ensures, c.codes_at-codes.ensures, value_is a.d a.s.now a.guide.now l.c, row))

pub returns : goal.returns
returns c =
    let a = c.args in
    let v = c.loop-row.c in
    let row = c.loop-row.invariant.1 in
    c.surplus.ensures
    ∙ sym (c.loop-row.invariant.0
    ∙ elim c.loop-row-test.branch [
      | then-loop-row-test+then-is_segment w ↦ found_stop a.d a.s.now a.guide.now v (omega arith) (rw row (sym w.is_segment.ensures ∙ w.if-is_segment.true))
      | else-loop-row-test w ↦ found_end a.d a.s.now a.guide.now v (omega arith)
    ])
