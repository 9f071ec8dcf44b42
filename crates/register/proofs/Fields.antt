-- A field of the segment at a place, byte by byte: where the next one starts, where it ends, and whether it is a given one.
use Rattle.std.specs.Prelude.{if◌then◌else◌}
use mathlib.Core.Path.{◌≡◌, refl, sym, ap, ◌∙◌}
use mathlib.Core.Bool.{Bool, true, false, true≢false, ◌||◌}
use mathlib.Core.List.{List, [], ◌∷◌, map}
use Prim.Native.Nat.{ℕ, zero, suc, ◌+◌, ◌-◌, ◌<◌, ◌≤◌}
use native.Mathlib.Nat.{not-suc-le-zero, add-zero, sub-zero}
use native.Mathlib.Omega.{arith}
use borrow.Author.Tests.{ne_eqb, eqb-true, eqb-false}
use lib.Dec.{eqb}
use lib.ListN.{length, get_or, take, drop, length-take, length-drop, drop_of_length-le}
use lib.Seq.{get_or-take, get_or-drop, drop-drop, drop-length}
use Rattle.std.proofs.lemmas.Bool.{false_from_ne_true}
use Rattle.rules.specs.Base.{Bytes, same}
use Rattle.rules.specs.Cutting.{Segment, field, cut_at, split, pieces, segments}
use Rattle.rules.specs.declared.Delimiters.{Delimiters}
use Rattle.rules.proofs.Logic.{same→eq}
use Rattle.rules.proofs.Accepting.{same_refl}
use Rattle.text.proofs.Loops.{left_cons, same_lengths}
use Rattle.sets.specs.Places.{control_at}
use Rattle.register.specs.Fields.{field_in}

-- 1. Byte by byte it is the field that cutting gives.
no_field : (n : ℕ) → field ([] ∷ []) n ≡ []
no_field zero = refl
no_field (suc n) = refl

first_piece : (c : Bool) (b : ℕ) (ps : List Bytes) → get_or (cut_at c b ps) 0 [] ≡ (if c then [] else b ∷ get_or ps 0 [])
first_piece true b ps = refl
first_piece false b [] = refl
first_piece false b (p ∷ ps) = refl

first_field : (c : Bool) (b : ℕ) (fs : Segment) → field (cut_at c b fs) 0 ≡ (if c then [] else b ∷ field fs 0)
first_field true b fs = refl
first_field false b [] = refl
first_field false b (f ∷ fs) = refl

later_field : (c : Bool) (b n : ℕ) (fs : Segment) → field (cut_at c b fs) (suc n) ≡ (if c then field fs n else field fs (suc n))
later_field true b n fs = refl
later_field false b n [] = refl
later_field false b n (f ∷ fs) = refl

first_segment : (e n : ℕ) (ps : List Bytes) → field (get_or (map (split e) ps) 0 []) n ≡ field (split e (get_or ps 0 [])) n
unfolding split
first_segment e n [] = sym (no_field n)
first_segment e n (p ∷ ps) = refl

pub piece_field : (d : Delimiters) (n : ℕ) (bs : Bytes) → field_in d n bs ≡ field (split d.element (get_or (pieces d.terminator bs) 0 [])) n
unfolding field_in pieces split
piece_field d n [] = sym (no_field n)
piece_field d zero (b ∷ bs) =
    rw first_piece (go (eqb b d.terminator) (get_or (pieces d.terminator bs) 0 []) (piece_field d zero bs))
  where
    go : (c : Bool) (p : Bytes) → field_in d zero bs ≡ field (split d.element p) 0
        → (if c then [] else (if eqb b d.element then [] else b ∷ field_in d zero bs)) ≡ field (split d.element (if c then [] else b ∷ p)) 0
    go true p h = refl
    go false p h = rw h (sym (first_field (eqb b d.element) b (split d.element p)))
piece_field d (suc n) (b ∷ bs) =
    rw first_piece (go (eqb b d.terminator) (get_or (pieces d.terminator bs) 0 []) (piece_field d n bs) (piece_field d (suc n) bs))
  where
    go : (c : Bool) (p : Bytes) → field_in d n bs ≡ field (split d.element p) n → field_in d (suc n) bs ≡ field (split d.element p) (suc n)
        → (if c then [] else (if eqb b d.element then field_in d n bs else field_in d (suc n) bs))
        ≡ field (split d.element (if c then [] else b ∷ p)) (suc n)
    go true p h k = refl
    go false p h k = rw (h, k) (sym (later_field (eqb b d.element) b n (split d.element p)))

pub control_field : (d : Delimiters) (body : Bytes) (at : ℕ) → control_at d body at ≡ field_in d 2 (drop at body)
unfolding control_at segments
control_field d body at =
    first_segment d.element 2 (pieces d.terminator (drop at body)) ∙ sym (piece_field d 2 (drop at body))

-- 2. Where the first field ends, and the fields after it.
module _ (d : Delimiters) where
  -- where it ends at a separator, the others start after that: r is field n + 1 where f is the first
  abbrev Follows : ℕ → Bytes → Bytes → Bytes → Type 0
  Follows n f bs r = length f < length bs → (get_or bs (length f) 0 ≡ d.terminator → ⊥) → r ≡ field_in d n (drop (suc (length f)) bs)

  pub field_next : (n : ℕ) (bs : Bytes) → Follows n (field_in d 0 bs) bs (field_in d (suc n) bs)
  unfolding field_in
  field_next n [] h t = absurd (omega arith)
  field_next n (b ∷ bs) h t = go _ (eqb b d.element) refl (field_next n bs) h t
    where
      go : (c q : Bool) → eqb b d.terminator ≡ c → Follows n (field_in d 0 bs) bs (field_in d (suc n) bs)
          → Follows n (if c then [] else (if q then [] else b ∷ field_in d 0 bs)) (b ∷ bs) (if c then [] else (if q then field_in d n bs else field_in d (suc n) bs))
      go true q e r h t = absurd (t (eqb-true b d.terminator e))
      go false true e r h t = refl
      go false false e r h t = r (omega arith) t

  -- elsewhere there is no other
  abbrev Ends : Bytes → Bytes → Bytes → Type 0
  Ends f bs r = (length f < length bs → get_or bs (length f) 0 ≡ d.terminator) → r ≡ []

  pub field_none : (n : ℕ) (bs : Bytes) → Ends (field_in d 0 bs) bs (field_in d (suc n) bs)
  unfolding field_in
  field_none n [] h = refl
  field_none n (b ∷ bs) h = go _ (eqb b d.element) refl (field_none n bs) h
    where
      go : (c q : Bool) → eqb b d.terminator ≡ c → Ends (field_in d 0 bs) bs (field_in d (suc n) bs)
          → Ends (if c then [] else (if q then [] else b ∷ field_in d 0 bs)) (b ∷ bs) (if c then [] else (if q then field_in d n bs else field_in d (suc n) bs))
      go true q e r h = refl
      go false true e r h = absurd (eqb-false b d.terminator e (h (omega arith)))
      go false false e r h = r (λ l. h (omega arith))

-- at a cursor, where that field ends
module _ (d : Delimiters) (s : Bytes) (at : ℕ) {end : ℕ} (e : end ≡ at + length (field_in d 0 (drop at s))) (n : ℕ) where
  left : length (drop at s) ≡ length s - at
  left = length-drop at s

  read : get_or (drop at s) (length (field_in d 0 (drop at s))) 0 ≡ get_or s end 0
  read = rw e (get_or-drop at s (length (field_in d 0 (drop at s))) 0)

  pub field_after : end < length s → (get_or s end 0 ≡ d.terminator → ⊥) → field_in d (suc n) (drop at s) ≡ field_in d n (drop (end + 1) s)
  field_after h t =
      let on : at + suc (length (field_in d 0 (drop at s))) ≡ end + 1 = omega arith in
      rw (field_next d n (drop at s) (omega (arith, left)) (rw read t), drop-drop (suc (length (field_in d 0 (drop at s)))) at s, on)

  pub field_last : (end < length s → get_or s end 0 ≡ d.terminator) → field_in d (suc n) (drop at s) ≡ field_in d n (drop (length s) s)
  unfolding field_in
  field_last t = rw (field_none d n (drop at s) (λ h. rw read (t (omega (arith, left)))), drop-length s)

-- what is left of the first field at a cursor
module _ (d : Delimiters) (s : Bytes) (i : ℕ) where
  pub field_past : length s ≤ i → field_in d 0 (drop i s) ≡ []
  unfolding field_in
  field_past h = rw (drop_of_length-le s {i = i} h)

  module _ (h : i < length s) where
    pub field_cut : (eqb (get_or s i 0) d.terminator || eqb (get_or s i 0) d.element) ≡ true → field_in d 0 (drop i s) ≡ []
    unfolding field_in
    field_cut p = rw (left_cons s i h) (go (eqb (get_or s i 0) d.terminator) (eqb (get_or s i 0) d.element) p)
      where
        go : (c q : Bool) → c || q ≡ true → (if c then [] else (if q then [] else get_or s i 0 ∷ field_in d 0 (drop (i + 1) s))) ≡ []
        go true q p = refl
        go false true p = refl
        go false false p = absurd (true≢false (sym p))

    pub field_kept : (get_or s i 0 ≡ d.terminator → ⊥) → (get_or s i 0 ≡ d.element → ⊥) → field_in d 0 (drop i s) ≡ get_or s i 0 ∷ field_in d 0 (drop (i + 1) s)
    unfolding field_in
    field_kept t p = rw (left_cons s i h, ne_eqb (get_or s i 0) d.terminator t, ne_eqb (get_or s i 0) d.element p)

-- 3. Against a value.
field_begins : (d : Delimiters) (bs : Bytes) → field_in d 0 bs ≡ take (length (field_in d 0 bs)) bs
unfolding field_in
field_begins d [] = refl
field_begins d (b ∷ bs) = go (eqb b d.terminator) (eqb b d.element) (field_begins d bs)
  where
    go : (c q : Bool) → field_in d 0 bs ≡ take (length (field_in d 0 bs)) bs
        → (if c then [] else (if q then [] else b ∷ field_in d 0 bs))
        ≡ take (length (if c then [] else (if q then [] else b ∷ field_in d 0 bs))) (b ∷ bs)
    go true q h = refl
    go false true h = refl
    go false false h = ap (λ (l : Bytes). b ∷ l) h

field_within : (d : Delimiters) (bs : Bytes) → length (field_in d 0 bs) ≤ length bs
field_within d bs =
    let l = ap length (field_begins d bs) in
    omega (arith, length-take (length (field_in d 0 bs)) bs)

module _ (d : Delimiters) (s : Bytes) (at : ℕ) (value : Bytes) where
  -- the field ends before the value does
  pub value_longer : length s - at < length value → same value (field_in d 0 (drop at s)) ≡ false
  value_longer h = same_lengths _ _ (λ e. omega (arith, e, field_within d (drop at s), length-drop at s))

  -- a byte of the value is another
  pub value_differs : (k : ℕ) → k < length value → (get_or s (at + k) 0 ≡ get_or value k 0 → ⊥) → same value (field_in d 0 (drop at s)) ≡ false
  value_differs k h differs = false_from_ne_true _ (λ e.
      let q = same→eq value (field_in d 0 (drop at s)) e in
      let begins : value ≡ take (length value) (drop at s) = rw q (field_begins d (drop at s)) in
      differs (sym (get_or-drop at s k 0) ∙ sym (get_or-take (length value) (drop at s) k 0 h) ∙ ap (λ (l : Bytes). get_or l k 0) (sym begins)))

  -- one turn from the value's end to its start: the bytes from k on are those of the value
  pub value_turn : (k j : ℕ) → k ≡ j + 1 → k ≤ length value → length value ≤ length s - at → get_or s (at + j) 0 ≡ get_or value j 0
      → drop k value ≡ take (length value - k) (drop (at + k) s) → drop j value ≡ take (length value - j) (drop (at + j) s)
  value_turn k j e h l b r =
      let left : length value - j ≡ suc (length value - (j + 1)) = omega arith in
      let next : at + (j + 1) ≡ at + j + 1 = omega arith in
      rw (left, left_cons value j (omega arith), left_cons s (at + j) (omega arith), b) (ap (λ (x : Bytes). get_or value j 0 ∷ x) (rw (e, next) at r))

  -- all of them are
  pub value_ends : (k : ℕ) → k ≤ 0 → drop k value ≡ take (length value - k) (drop (at + k) s)
      → same value (field_in d 0 (drop at s)) ≡ eqb (at + length (field_in d 0 (drop at s))) (at + length value)
  value_ends zero h r = go (eqb (at + length (field_in d 0 (drop at s))) (at + length value)) refl
    where
      go : (c : Bool) → eqb (at + length (field_in d 0 (drop at s))) (at + length value) ≡ c → same value (field_in d 0 (drop at s)) ≡ c
      go true e =
          let size : length (field_in d 0 (drop at s)) ≡ length value = omega (arith, eqb-true (at + length (field_in d 0 (drop at s))) (at + length value) e) in
          let whole : field_in d 0 (drop at s) ≡ value = field_begins d (drop at s) ∙ ap (λ (n : ℕ). take n (drop at s)) size ∙ sym (rw (sub-zero, add-zero) at r) in
          rw whole (same_refl value)
      go false e = same_lengths value (field_in d 0 (drop at s)) (λ q. eqb-false _ _ e (ap (λ (n : ℕ). at + n) (sym q)))
  value_ends (suc k) h r = absurd (not-suc-le-zero h)
