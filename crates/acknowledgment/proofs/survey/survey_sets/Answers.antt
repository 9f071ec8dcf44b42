-- `acknowledgment::survey::survey_sets` meets its contract: what holds of the sets so far.
use mathlib.Core.Path.{refl, ◌∙◌}
use Prim.Native.Nat.{◌+◌, ◌<◌}
use native.Mathlib.Omega.{arith}
use lib.ListN as lists
use Rattle.sets.specs.Places.{set_at}
use Rattle.sets.proofs.Sets.{SetIs}
use Rattle.acknowledgment.proofs.Surveys.{seeing_start, seeing_set, seeing_headed, seeing_room, seeing_enter, seeing_marked, seeing_used, seeing_measured, seeing_turn, seeing_end}
use Rattle.acknowledgment.proofs.Turns.{sofar_start}
use borrow.Author.Rules.{rules}
use Rattle.acknowledgment.proofs.survey.survey_sets.Goals as goal
use Rattle.acknowledgment.proofs.survey.survey_sets.Goals.{In-loop-at, then-is_accepted, else-is_accepted}

set : (c : In-loop-at) → (let a = c.args in SetIs a.reading.delimiters a.body.now c.loop-at.at (set_at a.reading.delimiters a.body.now c.loop-at.at))
set c = seeing_set c.loop-at.invariant.0 c.loop-at-test.true refl

room : (c : In-loop-at) → (let l = c.loop-at in let a = c.args in (a.first + l.received < 65534) × ((l.received < lists.length l.starts) × (l.received < lists.length l.marks)))
room c = seeing_room c.loop-at.invariant.0 (set c)

pub loop-at-init : goal.loop-at-init
loop-at-init c =
    (seeing_start _ c.requires.0 c.requires.1.1, sofar_start _ _ _ (omega arith), refl, refl, refl)

pub control_of-control-requires : goal.control_of-control-requires
control_of-control-requires c = seeing_headed c.loop-at.invariant.0 c.loop-at-test.true

pub enter-repeated-requires : goal.enter-repeated-requires
enter-repeated-requires c =
    let ready = seeing_enter c.loop-at.invariant.0 c.loop-at-test.true c.requires.0.short in
    (ready.0, (ready.1, c.control_of-control.ensures))

pub survey_set-set-requires : goal.survey_set-set-requires
survey_set-set-requires c =
    let pre = c.requires in (
      record {
        headed = seeing_headed c.loop-at.invariant.0 c.loop-at-test.true;
        is = set (goal.at.survey_set-set-requires c).In-loop-at;
        numbered = c.control_of-control.ensures;
        bytes = pre.0.bytes;
        apart = pre.0.apart;
        tables = pre.0.tables;
        short = pre.0.short;
        ids = _;
        ordered = pre.1.0;
      },
      pre.1.0,
    )

pub bounds-marks-received : goal.bounds-marks-received
bounds-marks-received c = omega (arith, (room (goal.at.bounds-marks-received c).In-loop-at).1.1)

pub overflow_add-accepted : goal.overflow_add-accepted
overflow_add-accepted c = omega (arith, (room (goal.at.overflow_add-accepted c).In-loop-at).0, c.loop-at.invariant.0.among)

pub overflow_add-received : goal.overflow_add-received
overflow_add-received c = omega (arith, (room (goal.at.overflow_add-received c).In-loop-at).0)

pub loop-at-smaller : goal.loop-at-smaller
loop-at-smaller c =
    omega (arith, c.survey_set-set.ensures.ends, (set (goal.at.loop-at-smaller c).In-loop-at).onward)

pub loop-at-preserved : goal.loop-at-preserved
loop-at-preserved c =
    let sofar = c.loop-at.invariant in
    let inside = c.loop-at-test.true in
    let enters = c.enter-repeated.ensures in
    let is = c.survey_set-set.ensures in (
      rw is.ends
          (seeing_turn sofar.0 inside enters is.marked
          (elim c.if-is_accepted.branch [ then-is_accepted w ↦ rw (← c.is_accepted.ensures, w.if-is_accepted.true) w.accepted-is | else-is_accepted w ↦ rw (← c.is_accepted.ensures, w.if-is_accepted.false) w.accepted-is ]) (search rules)),
      seeing_measured sofar.0 inside (seeing_marked sofar.0 inside enters is.marked) (is.measured _ (seeing_used sofar.0 inside enters))
          c.saturating_add-length.ensures c.saturating_add-segments.ensures sofar.1,
      search rules ∙ sofar.2,
      search rules ∙ sofar.3,
      search rules ∙ sofar.4,
    )

pub returns : goal.returns
returns c = seeing_end c.loop-at.invariant.0 c.loop-at-test.false c.loop-at.invariant.1
