-- `elements::breaks_notes` meets its contract.
use Rattle.std.proofs.Common.{true, false, sym, ◌∙◌}
use Rattle.elements.proofs.Notes.{notes_step, notes_over, notes_past}
use Rattle.elements.proofs.breaks_notes.Goals as goal

pub returns-then-is_segment : goal.returns-then-is_segment
returns-then-is_segment c = sym (c.loop-k.invariant ∙ notes_over _ c.args.guide.now c.loop-k.k (sym c.is_segment.ensures ∙ c.if-is_segment.true))

pub returns-then-breaks_note : goal.returns-then-breaks_note
returns-then-breaks_note c =
    sym (c.loop-k.invariant
    ∙ notes_step _ c.args.guide.now c.loop-k.k true
    (sym c.is_segment.ensures ∙ c.if-is_segment.false)
    (sym c.if-breaks_note.true ∙ c.breaks_note.ensures))

pub loop-k-preserved : goal.loop-k-preserved
loop-k-preserved c =
    c.loop-k.invariant
    ∙ notes_step _ c.args.guide.now c.loop-k.k false
    (sym c.is_segment.ensures ∙ c.if-is_segment.false)
    (sym c.if-breaks_note.false ∙ c.breaks_note.ensures)

pub returns : goal.returns
returns c = sym (c.loop-k.invariant ∙ notes_past _ _ _ c.loop-k-test.false)
