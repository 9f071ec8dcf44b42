-- `sets::check_sets` meets its contract: what is left of the body and whether every header so far is good decide.
use mathlib.Core.Path.{sym, ◌∙◌}
use Rattle.text.proofs.Search.{find_end}
use Rattle.sets.proofs.Refused.{decides_past, decides_enveloped, decides_stray, decides_set}
use Rattle.sets.proofs.check_sets.Goals.{else-loop-next-test, then-loop-next-test+then-not-is_named+then-is_of_envelope}
use Rattle.sets.proofs.check_sets.Goals as goal

pub slice_bounds-segment-end : goal.slice_bounds-segment-end
slice_bounds-segment-end c = find_end _ _ _ _ c.find-end.ensures c.loop-next-test.true

pub returns-then-not-is_named : goal.returns-then-not-is_named
returns-then-not-is_named c =
    decides_stray c.loop-next.invariant c.loop-next-test.true c.find-end.ensures (sym c.if-not-is_named.ensures) (sym c.if-is_of_envelope.ensures)

pub loop-next-preserved : goal.loop-next-preserved
loop-next-preserved c =
    rw c.is_good_header-good.ensures
    (decides_set c.loop-next.invariant c.loop-next-test.true c.find-end.ensures (sym c.if-not-is_named.ensures) c.end_of_set-next.ensures)

pub returns : goal.returns
returns c =
    c.sets_between.ensures
    ∙ elim c.loop-next-test.branch [
      | else-loop-next-test w ↦ decides_past c.loop-next.invariant w.loop-next-test.false
      | then-loop-next-test+then-not-is_named+then-is_of_envelope w ↦
          decides_enveloped c.loop-next.invariant w.loop-next-test.true w.find-end.ensures (sym w.if-is_of_envelope.ensures)
    ]
