-- Pieces and segments at a cursor: those left, those before it, and those of a part that ends there.
use mathlib.Core.Path.{◌≡◌, refl, sym, ap, ◌∙◌}
use mathlib.Core.Bool.{Bool, true, false, not}
use mathlib.Core.List.{List, [], ◌∷◌, ◌++◌, map, map-append, append-nil, append_assoc}
use Prim.Native.Nat.{ℕ, ◌+◌, ◌-◌, ◌<◌, ◌≤◌}
use native.Mathlib.Nat.{not-suc-le-zero, zero-lt-suc, sub_self}
use native.Mathlib.Omega.{arith}
use borrow.Author.Tests.{not-true, ltb-true, ltb-false}
use lib.Dec.{eqb, ltb}
use lib.ListN.{length, take, drop, length-drop, drop_of_length-le, take-append-drop}
use lib.Seq.{take-add, take_all}
use Rattle.rules.specs.Base.{Bytes}
use Rattle.rules.specs.Cutting.{pieces, split, segments}
use Rattle.rules.specs.Damage.{free}
use Rattle.rules.specs.declared.Delimiters.{Delimiters}
use Rattle.rules.proofs.Logic.{all_head, all_tail}
use Rattle.rules.proofs.Cuts.{pieces_step}
use Rattle.text.specs.Text.{index_of}
use Rattle.segments.proofs.Cursor.{found_free, found_cut, found_ended, found_none, drop_within}

pieces_end : (t : ℕ) (xs : Bytes) → 0 < length xs → free t xs ≡ true → pieces t xs ≡ xs ∷ []
unfolding pieces
pieces_end t [] h e = absurd (not-suc-le-zero h)
pieces_end t (x ∷ []) h e = rw (not-true (eqb x t) (all_head (λ b. not (eqb b t)) x [] e))
pieces_end t (x ∷ (y ∷ ys)) h e =
    rw (
      not-true (eqb x t) (all_head (λ b. not (eqb b t)) x (y ∷ ys) e),
      pieces_end t (y ∷ ys) (zero-lt-suc (length ys)) (all_tail (λ b. not (eqb b t)) x (y ∷ ys) e),
    )

-- 1. The pieces left at the cursor, with the end that `find` gave.
module _ (t : ℕ) (s : Bytes) (at end : ℕ) (h : at < length s) (q : end ≡ at + index_of t (drop at s)) where
  last_piece : length s ≤ end → pieces t (drop at s) ≡ take (end - at) (drop at s) ∷ []
  last_piece k =
      let whole = found_none t s at end q k in
      rw whole (pieces_end t (drop at s) (omega (arith, length-drop at s)) (rw whole at (found_free t s at end q)))

  pub pieces_at : pieces t (drop at s) ≡ take (end - at) (drop at s) ∷ pieces t (drop (end + 1) s)
  unfolding pieces
  pieces_at = go (ltb end (length s)) refl
    where
      go : (c : Bool) → ltb end (length s) ≡ c → pieces t (drop at s) ≡ take (end - at) (drop at s) ∷ pieces t (drop (end + 1) s)
      go true k =
          ap (pieces t) (found_cut t s at end q (ltb-true end (length s) k))
          ∙ pieces_step t (take (end - at) (drop at s)) (drop (end + 1) s) (found_free t s at end q)
      go false k =
          let l : length s ≤ end = ltb-false end (length s) k in
          rw (drop_of_length-le s {i = end + 1} (omega arith)) (last_piece l)

  -- a part that begins at the cursor
  pub pieces_new : pieces t (take (end + 1 - at) (drop at s)) ≡ take (end - at) (drop at s) ∷ []
  unfolding pieces
  pieces_new = go (ltb end (length s)) refl
    where
      go : (c : Bool) → ltb end (length s) ≡ c → pieces t (take (end + 1 - at) (drop at s)) ≡ take (end - at) (drop at s) ∷ []
      go true k =
          ap (pieces t) (found_ended t s at end q (ltb-true end (length s) k))
          ∙ pieces_step t (take (end - at) (drop at s)) [] (found_free t s at end q)
      go false k =
          let l : length s ≤ end = ltb-false end (length s) k in
          rw (take_all (end + 1 - at) (drop at s) (omega (arith, length-drop at s))) (last_piece l)

pub pieces_none : (t : ℕ) (s : Bytes) (at : ℕ) → length s ≤ at → pieces t (drop at s) ≡ []
unfolding pieces
pieces_none t s at h = rw (drop_of_length-le s {i = at} h)

-- 2. What ends where a piece ends: cutting goes on after it as from the start.
abbrev pub Whole : ℕ → Bytes → Type 0
Whole t p = (r : Bytes) → pieces t (p ++ r) ≡ pieces t p ++ pieces t r

whole_append : (t : ℕ) (p r : Bytes) → Whole t p → Whole t r → Whole t (p ++ r)
whole_append t p r hp hr x =
    ap (pieces t) (append_assoc p r x)
    ∙ hp (r ++ x)
    ∙ ap (λ (l : List Bytes). pieces t p ++ l) (hr x)
    ∙ sym (append_assoc (pieces t p) (pieces t r) (pieces t x))
    ∙ ap (λ (l : List Bytes). l ++ pieces t x) (sym (hp r))

-- a piece with its terminator
whole_ended : (t : ℕ) (xs : Bytes) → free t xs ≡ true → Whole t (xs ++ t ∷ [])
unfolding pieces
whole_ended t xs f r = rw (append_assoc xs (t ∷ []) r, pieces_step t xs r f, pieces_step t xs [] f)

-- The part from start to the cursor is whole pieces, unless the cursor is past the end: the last piece may have no terminator.
pub record WholePart (t : ℕ) (s : Bytes) (start at : ℕ) : Type 0 where
  pub ordered : start ≤ at
  pub whole : at ≤ length s → Whole t (take (at - start) (drop start s))

pub whole_empty : {t : ℕ} {s : Bytes} {at : ℕ} → WholePart t s at at
unfolding pieces
whole_empty {at = at} = record { ordered = omega arith; whole = λ h. rw sub_self (λ r. refl) }

module _ {t : ℕ} {s : Bytes} {start at : ℕ} (w : WholePart t s start at) where
  pub pieces_rest : pieces t (drop start s) ≡ pieces t (take (at - start) (drop start s)) ++ pieces t (drop at s)
  pieces_rest = go (ltb (length s) at) refl
    where
      go : (c : Bool) → ltb (length s) at ≡ c → pieces t (drop start s) ≡ pieces t (take (at - start) (drop start s)) ++ pieces t (drop at s)
      go true k =
          let l : length s < at = ltb-true (length s) at k in
          rw (pieces_none t s at (omega arith), take_all (at - start) (drop start s) (omega (arith, length-drop start s)))
          (sym (append-nil (pieces t (drop start s))))
      go false k =
          ap (pieces t) (sym (take-append-drop (at - start) (drop start s)))
          ∙ w.whole (ltb-false (length s) at k) (drop (at - start) (drop start s))
          ∙ rw (drop_within s start at w.ordered)

  module _ {end : ℕ} (h : at < length s) (q : end ≡ at + index_of t (drop at s)) where
    longer : take (end + 1 - start) (drop start s) ≡ take (at - start) (drop start s) ++ take (end + 1 - at) (drop at s)
    longer =
        let p : end + 1 - start ≡ at - start + (end + 1 - at) = omega arith in
        rw (p, take-add, drop_within s start at w.ordered)

    pub pieces_part : pieces t (take (end + 1 - start) (drop start s))
        ≡ pieces t (take (at - start) (drop start s)) ++ (take (end - at) (drop at s) ∷ [])
    pieces_part = rw (longer, w.whole (omega arith) (take (end + 1 - at) (drop at s)), pieces_new t s at end h q)

    pub whole_next : WholePart t s start (end + 1)
    whole_next =
        let ended = whole_ended t (take (end - at) (drop at s)) (found_free t s at end q) in
        record {
          ordered = omega arith;
          whole = λ k. rw (longer, found_ended t s at end q (omega arith)) (whole_append t _ _ (w.whole (omega arith)) ended);
        }

-- 3. The same for segments.
module _ (d : Delimiters) (s : Bytes) (at end : ℕ) (h : at < length s) (q : end ≡ at + index_of d.terminator (drop at s)) where
  pub segments_at : segments d (drop at s) ≡ split d.element (take (end - at) (drop at s)) ∷ segments d (drop (end + 1) s)
  unfolding segments
  segments_at = ap (map (split d.element)) (pieces_at d.terminator s at end h q)

  pub segments_new : segments d (take (end + 1 - at) (drop at s)) ≡ split d.element (take (end - at) (drop at s)) ∷ []
  unfolding segments
  segments_new = ap (map (split d.element)) (pieces_new d.terminator s at end h q)

pub segments_none : (d : Delimiters) (s : Bytes) (at : ℕ) → length s ≤ at → segments d (drop at s) ≡ []
unfolding segments
segments_none d s at h = ap (map (split d.element)) (pieces_none d.terminator s at h)

module _ (d : Delimiters) {s : Bytes} {start at : ℕ} (w : WholePart d.terminator s start at) where
  pub segments_rest : segments d (drop start s) ≡ segments d (take (at - start) (drop start s)) ++ segments d (drop at s)
  unfolding segments
  segments_rest = rw (pieces_rest w, map-append)

  pub segments_part : {end : ℕ} → at < length s → end ≡ at + index_of d.terminator (drop at s)
      → segments d (take (end + 1 - start) (drop start s))
      ≡ segments d (take (at - start) (drop start s)) ++ (split d.element (take (end - at) (drop at s)) ∷ [])
  unfolding segments
  segments_part h q = rw (pieces_part w h q, map-append)
