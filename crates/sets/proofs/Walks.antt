-- The walk over the body of a group, segment by segment, from a place up to the first segment of the envelope.
use mathlib.Core.Path.{◌≡◌, refl, sym, ap, ◌∙◌}
use mathlib.Core.Bool.{Bool, true, false}
use mathlib.Core.List.{[], ◌∷◌, ◌++◌, map, append-nil}
use Prim.Native.Nat.{ℕ, ◌+◌, ◌-◌, ◌<◌, ◌≤◌}
use native.Mathlib.Nat.{add-zero, sub_self}
use native.Mathlib.Omega.{arith}
use borrow.Author.Tests.{not-true, ltb-true, ltb-false, eq-eqb, ne_eqb}
use lib.Dec.{eqb, ltb}
use lib.ListN.{length, drop, get_or, length-take}
use lib.Seq.{take-add, get_or-take, get_or-drop}
use Rattle.rules.specs.Base.{Bytes, null, ascii}
use Rattle.rules.specs.Cutting.{Segment, split, pieces, segments}
use Rattle.rules.specs.Sets.{is_st, is_se, sets_of, outside}
use Rattle.rules.specs.Refusals.{is_envelope}
use Rattle.rules.specs.declared.Delimiters.{Delimiters}
use Rattle.rules.proofs.SetLaws.{se_st, st_se, outer_st, outer_se}
use Rattle.text.specs.Text.{index_of, part}
use Rattle.segments.proofs.Cursor.{drop_within}
use Rattle.segments.proofs.Fields.{named_other}
use Rattle.segments.proofs.Pieces.{whole_empty, whole_next, pieces_new}
use Rattle.envelope.specs.Places.{body_end}
use Rattle.envelope.proofs.Places.{part_past, envelope_other, until_here, until_later, until_none}
use Rattle.sets.specs.Places.{body_from, ThroughSet}

-- 1. A part that goes on past the first piece: that piece, and the pieces of the rest.
module _ (t : ℕ) (i : Bytes) (at end to : ℕ) (h : at < length i) (q : end ≡ at + index_of t (drop at i)) (l : end + 1 ≤ to) where
  part_cut : part i at to ≡ part i at (end + 1) ++ part i (end + 1) to
  part_cut =
      let p : to - at ≡ end + 1 - at + (to - (end + 1)) = omega arith in
      rw (p, take-add, drop_within i at (end + 1) (omega arith))

  pieces_first : pieces t (part i at to) ≡ part i at end ∷ pieces t (part i (end + 1) to)
  unfolding pieces
  pieces_first = go (ltb (length i) (end + 1)) refl
    where
      go : (c : Bool) → ltb (length i) (end + 1) ≡ c → pieces t (part i at to) ≡ part i at end ∷ pieces t (part i (end + 1) to)
      go true k =
          let past : length i < end + 1 = ltb-true (length i) (end + 1) k in
          rw (part_cut, part_past i (end + 1) to (omega arith), append-nil) (pieces_new t i at end h q)
      go false k =
          ap (pieces t) part_cut
          ∙ (whole_next whole_empty h q).whole (ltb-false (length i) (end + 1) k) (part i (end + 1) to)
          ∙ rw (pieces_new t i at end h q)

-- 2. The segments of the body from a place on.
module _ (d : Delimiters) (i : Bytes) (at : ℕ) where
  -- there is none past the end
  pub body_none : length i ≤ at → body_from d i at ≡ []
  unfolding segments pieces
  body_none h = rw (part_past i at (body_end d i at) h)

  module _ (end : ℕ) (h : at < length i) (q : end ≡ at + index_of d.terminator (drop at i)) where
    -- nor where a segment of the envelope stands
    pub body_stops : is_envelope (split d.element (part i at end)) ≡ true → body_from d i at ≡ []
    unfolding segments pieces
    body_stops g = rw (until_here d.element d.terminator i at end h q g, sub_self)

    -- any other segment is the first, and those after it follow
    pub body_goes : is_envelope (split d.element (part i at end)) ≡ false
        → body_from d i at ≡ split d.element (part i at end) ∷ body_from d i (end + 1)
    unfolding segments
    body_goes g =
        rw (until_later d.element d.terminator i at end h q g)
        (ap (map (split d.element)) (pieces_first d.terminator i at end (body_end d i (end + 1)) h q (omega arith)))

  -- there is none just where the body ends at once
  pub body_null : null (body_from d i at) ≡ eqb (body_end d i at) at
  body_null = go (ltb at (length i)) refl
    where
      end : ℕ
      end = at + index_of d.terminator (drop at i)

      here : at < length i → (c : Bool) → is_envelope (split d.element (part i at end)) ≡ c → null (body_from d i at) ≡ eqb (body_end d i at) at
      here h true g = rw (body_stops end h refl g) (sym (eq-eqb (body_end d i at) at (until_here d.element d.terminator i at end h refl g)))
      here h false g =
          rw (body_goes end h refl g)
          (sym (ne_eqb (body_end d i at) at (λ p. omega (arith, until_later d.element d.terminator i at end h refl g))))

      go : (c : Bool) → ltb at (length i) ≡ c → null (body_from d i at) ≡ eqb (body_end d i at) at
      go true k = here (ltb-true at (length i) k) (is_envelope (split d.element (part i at end))) refl
      go false k =
          let past = ltb-false at (length i) k in
          rw (body_none past) (sym (eq-eqb (body_end d i at) at (until_none d.element d.terminator i at past)))

-- 3. The way through an open set.
module _ {d : Delimiters} {i : Bytes} {from at : ℕ} (w : ThroughSet d i from true at) where
  through_stops : body_from d i at ≡ [] → ThroughSet d i from false at
  unfolding outside
  through_stops p = record { onward = w.onward; ends = w.ends; sets = w.sets; strays = w.strays ∙ rw p }

  -- the body ends with the bytes
  pub through_past : length i ≤ at → ThroughSet d i from false at
  through_past h = through_stops (body_none d i at h)

  module _ {end : ℕ} (h : at < length i) (q : end ≡ at + index_of d.terminator (drop at i)) where
    abbrev segment : Segment
    segment = split d.element (part i at end)

    -- or at a segment of the envelope
    pub through_enveloped : is_envelope segment ≡ true → ThroughSet d i from false at
    through_enveloped g = through_stops (body_stops d i at end h q g)

    -- the set ends after its SE
    pub through_closed : is_se segment ≡ true → ThroughSet d i from false (end + 1)
    unfolding sets_of outside
    through_closed p =
        let outer = not-true (is_envelope segment) (outer_se segment p) in
        record {
          onward = omega (arith, w.onward);
          ends = w.ends ∙ until_later d.element d.terminator i at end h q outer;
          sets = w.sets ∙ rw (body_goes d i at end h q outer, se_st segment p);
          strays = w.strays ∙ rw (body_goes d i at end h q outer, p);
        }

    -- or before the next ST
    pub through_unclosed : is_st segment ≡ true → ThroughSet d i from false at
    unfolding outside
    through_unclosed p =
        let outer = not-true (is_envelope segment) (outer_st segment p) in
        record {
          onward = w.onward;
          ends = w.ends;
          sets = w.sets;
          strays = w.strays ∙ rw (body_goes d i at end h q outer, st_se segment p, p);
        }

    -- any other segment is the set's own
    pub through_other : is_se segment ≡ false → is_st segment ≡ false → is_envelope segment ≡ false → ThroughSet d i from true (end + 1)
    unfolding sets_of outside
    through_other se st outer = record {
      onward = omega (arith, w.onward);
      ends = w.ends ∙ until_later d.element d.terminator i at end h q outer;
      sets = w.sets ∙ rw (body_goes d i at end h q outer, st);
      strays = w.strays ∙ rw (body_goes d i at end h q outer, se);
    }

    -- the same by the first byte of the segment, or by the terminator of an empty one
    pub through_plain : (get_or i at 0 ≡ get_or (ascii "SE") 0 0 → ⊥) → (get_or i at 0 ≡ get_or (ascii "ISA") 0 0 → ⊥) → (get_or i at 0 ≡ get_or (ascii "GS") 0 0 → ⊥)
        → ThroughSet d i from true (end + 1)
    through_plain s x g =
        through_other
        (named_other d.element (part i at end) (ascii "SE") (omega arith) (λ l p. s (sym (starts l) ∙ p)))
        (named_other d.element (part i at end) (ascii "ST") (omega arith) (λ l p. s (sym (starts l) ∙ p)))
        (envelope_other d.element (part i at end) (λ l p. x (sym (starts l) ∙ p)) (λ l p. g (sym (starts l) ∙ p)))
      where
        starts : 0 < length (part i at end) → get_or (part i at end) 0 0 ≡ get_or i at 0
        starts l =
            let some : 0 < end - at = omega (arith, length-take (end - at) (drop at i)) in
            rw (get_or-take (end - at) (drop at i) 0 0 some, get_or-drop, add-zero)
