-- `sets::end_of_set` meets its contract: each turn goes on through the set, or finds its end.
use mathlib.Core.Path.{sym}
use native.Mathlib.Omega.{arith}
use Rattle.text.proofs.Search.{find_end}
use Rattle.sets.proofs.Walks.{through_past, through_enveloped, through_closed, through_unclosed, through_other, through_plain}
use Rattle.sets.proofs.end_of_set.Goals.{then-is_named-2-via-then-is_named-2, then-is_named-2-via-else-is_named-2+then-is_of_envelope, then-first+else-is_named+else-is_named-2+else-is_of_envelope, else-first+else-first-2+else-first-3}
use Rattle.sets.proofs.end_of_set.Goals as goal

pub slice_bounds-segment-end : goal.slice_bounds-segment-end
slice_bounds-segment-end c = find_end _ _ _ _ c.find-end.ensures c.loop-next-test.true

pub returns-then-is_named : goal.returns-then-is_named
returns-then-is_named c = through_closed c.loop-next.invariant c.loop-next-test.true c.find-end.ensures (sym c.if-is_named.ensures)

pub returns-then-is_named-2 : goal.returns-then-is_named-2
returns-then-is_named-2 c =
    elim c.then-is_named-2.branch [
      | then-is_named-2-via-then-is_named-2 w ↦ through_unclosed c.loop-next.invariant c.loop-next-test.true c.find-end.ensures (sym w.if-is_named-2.ensures)
      | then-is_named-2-via-else-is_named-2+then-is_of_envelope w ↦ through_enveloped c.loop-next.invariant c.loop-next-test.true c.find-end.ensures (sym w.if-is_of_envelope.ensures)
    ]

pub overflow_add-next : goal.overflow_add-next
overflow_add-next c = omega (arith, find_end _ _ _ _ c.find-end.ensures c.loop-next-test.true)

pub loop-next-preserved : goal.loop-next-preserved
loop-next-preserved c =
    elim c.if-first.branch [
      | then-first+else-is_named+else-is_named-2+else-is_of_envelope w ↦
          through_other c.loop-next.invariant c.loop-next-test.true c.find-end.ensures (sym w.if-is_named.ensures) (sym w.if-is_named-2.ensures) (sym w.if-is_of_envelope.ensures)
      | else-first+else-first-2+else-first-3 w ↦
          through_plain c.loop-next.invariant c.loop-next-test.true c.find-end.ensures w.if-first.false w.if-first-2.false w.if-first-3.false
    ]

pub returns : goal.returns
returns c = through_past c.loop-next.invariant c.loop-next-test.false
