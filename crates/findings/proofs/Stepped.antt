-- The law of a step: what a walk has left is what the step says and what is left after it, whatever the cursor.
use Rattle.std.specs.Prelude.{if◌then◌else◌}
use mathlib.Core.Path.{◌≡◌, refl}
use mathlib.Core.Bool.{Bool, true, false, ◌||◌}
use mathlib.Core.List.{List, []}
use Prim.Native.Nat.{ℕ, ◌+◌}
use native.Mathlib.Omega.{arith}
use borrow.Author.Tests.{ltb-true, ltb-false, ne_eqb}
use lib.Dec.{ltb, eqb}
use lib.ListN.{length, drop}
use Rattle.rules.specs.Base.{Bytes, ascii}
use Rattle.rules.specs.Cutting.{field, split}
use Rattle.rules.specs.declared.Delimiters.{Delimiters}
use Rattle.text.specs.Text.{index_of, part}
use Rattle.segments.proofs.Pieces.{segments_at, segments_none}
use Rattle.tables.specs.Reading.{Guide}
use Rattle.findings.specs.Steps.{stands, outcome, outcome_at, segment_by, trailer_by, trailer_step, step}
use Rattle.findings.specs.Remaining.{trailer_slots, walk_slots, set_slots, remaining, said}
use Rattle.findings.specs.declared.Walk.{Walk}
use Rattle.findings.specs.declared.Standing.{Standing}
use Rattle.findings.specs.declared.Standing.TheVariants.{Unknown, Unlisted, Before, Again, Later}
use Rattle.findings.specs.declared.Step.TheVariants as tell

module _ (set : Bytes) (d : Delimiters) (ids : List (List ℕ)) (rows : Guide) (closed : Bool) (w : Walk) where
  abbrev end : ℕ
  end = w.at + index_of d.terminator (drop w.at set)

  abbrev id : Bytes
  id = field (split d.element (part set w.at end)) 0

  segment_law : ltb w.at (length set) ≡ true
      → remaining set d ids rows closed w ≡ said set d ids rows closed (segment_by w end (outcome_at ids rows w id))
  unfolding remaining set_slots walk_slots outcome outcome_at segment_by
  segment_law h = go (eqb w.at 0) refl
    where
      go : (b : Bool) → eqb w.at 0 ≡ b
          → remaining set d ids rows closed w ≡ said set d ids rows closed (segment_by w end (outcome_at ids rows w id))
      go true e = rw (e, segments_at d set w.at end (ltb-true w.at (length set) h) refl, ne_eqb (end + 1) 0 (λ (q : end + 1 ≡ 0). omega arith))
      go false e = rw (e, segments_at d set w.at end (ltb-true w.at (length set) h) refl, ne_eqb (end + 1) 0 (λ (q : end + 1 ≡ 0). omega arith))

  trailer_law : trailer_slots d ids rows closed w.present w.position (stands ids rows w.present.row (ascii "SE"))
      ≡ said set d ids rows closed (trailer_step ids rows w)
  unfolding trailer_step
  trailer_law = go (stands ids rows w.present.row (ascii "SE"))
    where
      go : (st : Standing) → trailer_slots d ids rows closed w.present w.position st ≡ said set d ids rows closed (trailer_by w st)
      go Unknown = refl
      go Unlisted = refl
      go (Before k) = refl
      go Again = refl
      go (Later k) = refl

  end_law : ltb w.at (length set) ≡ false
      → remaining set d ids rows closed w ≡ said set d ids rows closed (if closed || eqb w.at 0 then tell.Done else trailer_step ids rows w)
  unfolding remaining set_slots walk_slots
  end_law h = rw (segments_none d set w.at (ltb-false w.at (length set) h)) (go closed (eqb w.at 0))
    where
      go : (c b : Bool)
          → (if b then [] else (if c then [] else trailer_slots d ids rows closed w.present w.position (stands ids rows w.present.row (ascii "SE"))))
          ≡ said set d ids rows closed (if c || b then tell.Done else trailer_step ids rows w)
      go true true = refl
      go true false = refl
      go false true = refl
      go false false = trailer_law

  pub step_law : remaining set d ids rows closed w ≡ said set d ids rows closed (step set d ids rows closed w)
  unfolding step
  step_law = go (ltb w.at (length set)) refl
    where
      go : (b : Bool) → ltb w.at (length set) ≡ b
          → remaining set d ids rows closed w
          ≡ said set d ids rows closed (if b then segment_by w end (outcome_at ids rows w id) else (if closed || eqb w.at 0 then tell.Done else trailer_step ids rows w))
      go true h = segment_law h
      go false h = end_law h
