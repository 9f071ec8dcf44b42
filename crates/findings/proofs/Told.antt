-- What those who follow a walk use: each step's outcome as events, and the events as the segments of a response.
use mathlib.Core.Path.{◌≡◌, refl, ap, ◌∙◌}
use mathlib.Core.Bool.{Bool}
use mathlib.Core.List.{List, [], ◌∷◌, ◌++◌, map, map-append, append-nil}
use Prim.Native.Nat.{ℕ, ◌<◌}
use native.Mathlib.Omega.{arith}
use lib.ListN.{length}
use Rattle.rules.specs.Base.{Bytes, null}
use Rattle.rules.specs.Cutting.{Segment}
use Rattle.rules.specs.Elements.{Finding}
use Rattle.rules.specs.Segments.{Note}
use Rattle.rules.specs.Response.{ak3, ak3s, ak4}
use Rattle.rules.specs.declared.Delimiters.{Delimiters}
use Rattle.tables.specs.Reading.{Guide}
use Rattle.findings.specs.Events.{Event, Element, flat, written}
use Rattle.findings.specs.Steps.{step}
use Rattle.findings.specs.Remaining.{events, passed_events, taken_events, remaining, said}
use Rattle.findings.specs.declared.Passed.{Passed}
use Rattle.findings.specs.declared.Taken.{Taken}
use Rattle.findings.specs.declared.Walk.{Walk}
use Rattle.findings.specs.declared.Step.{Step}
use Rattle.findings.specs.declared.Step.TheVariants as tell
use Rattle.findings.proofs.Stepped.{step_law}

-- 1. What is told by a step.
module _ (set : Bytes) (d : Delimiters) (ids : List (List ℕ)) (rows : Guide) (closed : Bool) (w : Walk) where
  abbrev left : Walk → List Event
  left v = events (remaining set d ids rows closed v)

  slots : {s : Step} → step set d ids rows closed w ≡ s → remaining set d ids rows closed w ≡ said set d ids rows closed s
  slots e = step_law set d ids rows closed w ∙ ap (said set d ids rows closed) e

  pub step_segment : {t : Taken} {v : Walk} → step set d ids rows closed w ≡ tell.Segment t v → left w ≡ taken_events d rows set t ++ left v
  unfolding events
  step_segment e = ap events (slots e)

  pub step_fewer : {t : Taken} {v : Walk} → step set d ids rows closed w ≡ tell.Segment t v
      → length (remaining set d ids rows closed v) < length (remaining set d ids rows closed w)
  step_fewer e = omega (arith, ap length (slots e))

  pub step_trailer : {p : Passed} → step set d ids rows closed w ≡ tell.Trailer p → left w ≡ passed_events rows p
  unfolding events
  step_trailer {p} e = ap events (slots e) ∙ append-nil (passed_events rows p)

  pub step_done : step set d ids rows closed w ≡ tell.Done → left w ≡ []
  unfolding events
  step_done e = ap events (slots e)

-- 2. The events as segments.
pub elements_written : (fs : List Finding) → map written (map Element fs) ≡ map ak4 fs
elements_written [] = refl
elements_written (f ∷ fs) = ap (λ (l : List Segment). ak4 f ∷ l) (elements_written fs)

pub written_flat : (ns : List Note) → map written (flat ns) ≡ ak3s ns
unfolding flat ak3s ak3
written_flat [] = refl
written_flat (n ∷ ns) =
    rw (map-append written (map Element n.findings) (flat ns), elements_written n.findings, written_flat ns)

pub null_flat : (ns : List Note) → null (flat ns) ≡ null ns
unfolding flat
null_flat [] = refl
null_flat (n ∷ ns) = refl
