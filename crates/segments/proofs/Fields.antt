-- The fields of a segment at a cursor: what a walk that goes through the elements once needs at each turn.
use Rattle.std.specs.Prelude.{if◌then◌else◌}
use mathlib.Core.Path.{◌≡◌, refl, sym, ap, ◌∙◌}
use mathlib.Core.Bool.{Bool, true, false, not, false≢true}
use mathlib.Core.List.{[], ◌∷◌}
use Prim.Native.Nat.{ℕ, suc, ◌+◌, ◌-◌, ◌<◌, ◌≤◌}
use native.Mathlib.Nat.{add-zero, zero-lt-suc, le_trans, not-suc-le-zero}
use native.Mathlib.Omega.{arith}
use borrow.Author.Tests.{ne_eqb, lt-ltb, le-ltb, ltb-true, ltb-false}
use lib.Dec.{ltb}
use lib.ListN.{length, get_or, take, drop, length-drop, drop_of_length-le, get_or-eq_default}
use lib.Seq.{drop-drop, get_or-drop, take-nil}
use Rattle.rules.specs.Base.{Bytes, null}
use Rattle.rules.specs.Cutting.{Segment, split, field, is_named}
use Rattle.rules.proofs.Cuts.{split_step, split_end, split_some}
use Rattle.text.specs.Text.{index_of}
use Rattle.segments.proofs.Cursor.{found_free, found_cut, found_none}
use Rattle.segments.proofs.Library.{named-is}

-- 1. The field at the cursor, with the end that `find` gave, and the fields after it.
module _ (e : ℕ) (s : Bytes) (at end : ℕ) (q : end ≡ at + index_of e (drop at s)) where
  pub split_more : end < length s → split e (drop at s) ≡ take (end - at) (drop at s) ∷ split e (drop (end + 1) s)
  split_more k =
      ap (split e) (found_cut e s at end q k)
      ∙ split_step e (take (end - at) (drop at s)) (drop (end + 1) s) (found_free e s at end q)

  pub split_last : length s ≤ end → split e (drop at s) ≡ take (end - at) (drop at s) ∷ []
  split_last k =
      ap (split e) (sym (found_none e s at end q k))
      ∙ split_end e (take (end - at) (drop at s)) (found_free e s at end q)

-- the fields that are left at the cursor: one past the end there are none
unfoldable pub fields_from : ℕ → Bytes → ℕ → Segment
fields_from e s at = if ltb (length s) at then [] else split e (drop at s)

pub fields_left : (e : ℕ) (s : Bytes) (at : ℕ) → at ≤ length s → fields_from e s at ≡ split e (drop at s)
unfolding fields_from
fields_left e s at h = rw (le-ltb (length s) at h)

pub fields_none : (e : ℕ) (s : Bytes) (at : ℕ) → length s < at → fields_from e s at ≡ []
unfolding fields_from
fields_none e s at h = rw (lt-ltb (length s) at h)

pub fields_at : (e : ℕ) (s : Bytes) (at end : ℕ) → at ≤ length s → end ≡ at + index_of e (drop at s)
    → fields_from e s at ≡ take (end - at) (drop at s) ∷ fields_from e s (end + 1)
fields_at e s at end h q = fields_left e s at h ∙ go (ltb end (length s)) refl
  where
    go : (c : Bool) → ltb end (length s) ≡ c → split e (drop at s) ≡ take (end - at) (drop at s) ∷ fields_from e s (end + 1)
    go true k =
        let l : end < length s = ltb-true end (length s) k in
        rw (fields_left e s (end + 1) (omega arith)) (split_more e s at end q l)
    go false k =
        let l : length s ≤ end = ltb-false end (length s) k in
        rw (fields_none e s (end + 1) (omega arith)) (split_last e s at end q l)

-- 2. Field n starts at the cursor; where the cursor is past the end, there is no field n.
pub record FieldAt (e : ℕ) (s : Bytes) (n at : ℕ) : Type 0 where
  pub left : drop n (split e s) ≡ fields_from e s at

pub field_first : {e : ℕ} {s : Bytes} → FieldAt e s 0 0
field_first {e} {s} = record { left = sym (fields_left e s 0 (omega arith)) }

pub field_at : {e : ℕ} {s : Bytes} {n at end : ℕ} → FieldAt e s n at → end ≡ at + index_of e (drop at s)
    → field (split e s) n ≡ take (end - at) (drop at s)
field_at {e} {s} {n} {at} {end} f q = zeroth ∙ ap (λ (l : Segment). get_or l 0 []) f.left ∙ go (ltb (length s) at) refl
  where
    zeroth : get_or (split e s) n [] ≡ get_or (drop n (split e s)) 0 []
    zeroth = rw (get_or-drop, add-zero)

    go : (c : Bool) → ltb (length s) at ≡ c → get_or (fields_from e s at) 0 [] ≡ take (end - at) (drop at s)
    go true k =
        let l : length s < at = ltb-true (length s) at k in
        rw (fields_none e s at l, drop_of_length-le s {i = at} (omega arith)) (sym (take-nil (end - at)))
    go false k = rw (fields_at e s at end (ltb-false (length s) at k) q)

pub field_next : {e : ℕ} {s : Bytes} {n at end : ℕ} → FieldAt e s n at → end ≡ at + index_of e (drop at s) → FieldAt e s (n + 1) (end + 1)
field_next {e} {s} {n} {at} {end} f q =
    record { left = sym (drop-drop 1 n (split e s)) ∙ ap (λ (l : Segment). drop 1 l) f.left ∙ go (ltb (length s) at) refl }
  where
    go : (c : Bool) → ltb (length s) at ≡ c → drop 1 (fields_from e s at) ≡ fields_from e s (end + 1)
    go true k =
        let l : length s < at = ltb-true (length s) at k in
        rw (fields_none e s at l, fields_none e s (end + 1) (omega arith))
    go false k = rw (fields_at e s at end (ltb-false (length s) at k) q)

some_length : (ps : Segment) → null ps ≡ false → 0 < length ps
some_length [] h = absurd (false≢true (sym h))
some_length (p ∷ ps) h = zero-lt-suc (length ps)

-- whether there is a field n
pub field_some : {e : ℕ} {s : Bytes} {n at : ℕ} → FieldAt e s n at → at ≤ length s → n < length (split e s)
field_some {e} {s} {n} {at} f h =
    omega (
      arith,
      length-drop n (split e s),
      ap length (f.left ∙ fields_left e s at h),
      some_length (split e (drop at s)) (split_some e (drop at s)),
    )

pub field_none : {e : ℕ} {s : Bytes} {n at : ℕ} → FieldAt e s n at → length s < at → length (split e s) ≤ n
field_none {e} {s} {n} {at} f h = omega (arith, length-drop n (split e s), ap length (f.left ∙ fields_none e s at h))

pub field_past : {e : ℕ} {s : Bytes} {n at : ℕ} → FieldAt e s n at → length s < at → (m : ℕ) → n ≤ m → field (split e s) m ≡ []
field_past {e} {s} {n} {at} f h m k = get_or-eq_default (split e s) [] (le_trans (field_none f h) k)

-- a cursor past the end may stay there
pub field_stay : {e : ℕ} {s : Bytes} {n at : ℕ} → FieldAt e s n at → length s < at → FieldAt e s (n + 1) at
field_stay {e} {s} {n} {at} f h =
    let l = field_none f h in
    record { left = drop_of_length-le (split e s) {i = n + 1} (omega arith) ∙ sym (fields_none e s at h) }

-- 3. The id.
-- a segment that does not start with the name's first byte
pub named_other : (e : ℕ) (s name : Bytes) → 0 < length name → (0 < length s → get_or s 0 0 ≡ get_or name 0 0 → ⊥) → is_named name (split e s) ≡ false
named_other e s [] k n = absurd (not-suc-le-zero k)
named_other e [] (x ∷ name) k n = rw named-is
named_other e (b ∷ s) (x ∷ name) k n = rw (named-is, ne_eqb x b (λ q. n (zero-lt-suc (length s)) (sym q)))

pub present_length : (l : Bytes) → not (null l) ≡ ltb 0 (length l)
present_length [] = refl
present_length (x ∷ l) = sym (lt-ltb 0 (suc (length l)) (zero-lt-suc (length l)))
