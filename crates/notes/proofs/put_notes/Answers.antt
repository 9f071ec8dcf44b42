-- `notes::put_notes` meets its contract.
use mathlib.Core.Path.{refl, sym, ap, ◌∙◌}
use mathlib.Core.List.{map, map-append, append-nil}
use Rattle.findings.specs.Events.{written}
use Rattle.findings.specs.Remaining.{taken_events}
use Rattle.findings.proofs.Told.{step_segment, step_fewer, step_trailer, step_done}
use Rattle.notes.proofs.Sofar.{onward, ends, tells}
use Rattle.notes.proofs.put_notes.Goals as goal

pub loop-taken-smaller : goal.loop-taken-smaller
loop-taken-smaller c =
    let a = c.args in
    step_fewer a.set.now a.d a.directory.now a.guide.now a.closed c.loop-taken.w (sym c.next.ensures ∙ c.in-Segment.is)

pub loop-taken-preserved : goal.loop-taken-preserved
loop-taken-preserved c =
    let a = c.args in
    let told = step_segment a.set.now a.d a.directory.now a.guide.now a.closed c.loop-taken.w (sym c.next.ensures ∙ c.in-Segment.is) in
    onward c.loop-taken.invariant (ap (map written) told ∙ map-append written (taken_events a.d a.guide.now a.set.now c.in-Segment.taken) _) c.add_segment-told.ensures

pub returns-in-Trailer : goal.returns-in-Trailer
returns-in-Trailer c =
    let a = c.args in
    let told = step_trailer a.set.now a.d a.directory.now a.guide.now a.closed c.loop-taken.w (sym c.next.ensures ∙ c.in-Trailer.is) in
    tells (ends (onward c.loop-taken.invariant (ap (map written) told ∙ sym (append-nil _)) c.add_missing.ensures) refl)

pub returns-in-Done : goal.returns-in-Done
returns-in-Done c =
    let a = c.args in
    tells (ends c.loop-taken.invariant (ap (map written) (step_done a.set.now a.d a.directory.now a.guide.now a.closed c.loop-taken.w (sym c.next.ensures ∙ c.in-Done.is))))
