-- `look::segment::pass` meets its contract.
use mathlib.Core.Path.{sym, ◌∙◌}
use native.Mathlib.Omega.{arith}
use Rattle.look.proofs.Reading.{ended_segment, ended_past, past, field_ends, read_over, read_broken, read_taken, read_refused, read_ended}
use Rattle.look.proofs.segment.pass.Goals as goal
use Rattle.look.proofs.segment.pass.Goals.{then-is_element+else-not-is_taken, else-is_element+else-breaks_note, else-loop-k-test, then-loop-k-test+then-is_segment}

pub is_taken-requires : goal.is_taken-requires
is_taken-requires c =
    (omega (arith, c.find_invalid-end.ensures), field_ends c.loop-k.invariant.0 c.start_after-start.ensures c.find_invalid-end.ensures)

pub returns-then-not-is_taken : goal.returns-then-not-is_taken
returns-then-not-is_taken c =
    sym
    (read_refused c.loop-k.invariant.0 c.start_after-start.ensures c.find_invalid-end.ensures c.loop-k-test.true
    (sym c.is_segment.ensures ∙ c.if-is_segment.false) (sym c.is_element.ensures ∙ c.if-is_element.true)
    c.is_taken.ensures c.if-not-is_taken.true)

pub returns-then-breaks_note : goal.returns-then-breaks_note
returns-then-breaks_note c =
    sym
    (read_broken c.loop-k.invariant.0 c.loop-k-test.true
    (sym c.is_segment.ensures ∙ c.if-is_segment.false) (sym c.is_element.ensures ∙ c.if-is_element.false)
    c.breaks_note.ensures c.if-breaks_note.true)

pub loop-k-preserved : goal.loop-k-preserved
loop-k-preserved c =
    let other = sym c.is_segment.ensures ∙ c.if-is_segment.false in (
      elim c.if-is_element.branch [
        | then-is_element+else-not-is_taken w ↦ rw w.end-is (read_taken c.loop-k.invariant.0 w.start_after-start.ensures w.find_invalid-end.ensures c.loop-k-test.true other (sym c.is_element.ensures ∙ w.if-is_element.true) w.is_taken.ensures w.if-not-is_taken.false (w.marks-is ∙ w.with-marks.ensures))
        | else-is_element+else-breaks_note w ↦ rw (w.end-is, w.marks-is) (read_over c.loop-k.invariant.0 c.loop-k-test.true other (sym c.is_element.ensures ∙ w.if-is_element.false) w.breaks_note.ensures w.if-breaks_note.false)
      ],
      c.loop-k.invariant.1,
    )

pub returns : goal.returns
returns c =
    let r = c.loop-k.invariant.0 in
    c.then_some.ensures ∙ elim c.loop-k-test.branch [
      | else-loop-k-test w ↦ sym (read_ended r (ended_past _ _ w.loop-k-test.false) (w.next-is ∙ c.loop-k.invariant.1 ∙ past r w.loop-k-test.false) c.is_over.ensures)
      | then-loop-k-test+then-is_segment w ↦ sym (read_ended r (ended_segment _ _ (sym w.is_segment.ensures ∙ w.if-is_segment.true)) w.next-is c.is_over.ensures)
    ]
