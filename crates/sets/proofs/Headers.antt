-- The header of a set: its id has two bytes, so ST01 starts three bytes on; where ST01 has three too, ST02 starts seven bytes on.
use mathlib.Core.Path.{◌≡◌, refl, ap}
use mathlib.Core.Bool.{Bool, true, false, ◌&&◌}
use Prim.Native.Nat.{ℕ, ◌+◌, ◌-◌, ◌<◌, ◌≤◌}
use native.Mathlib.Nat.{le_refl, not-suc-le-zero}
use native.Mathlib.Omega.{arith}
use borrow.Author.Tests.{ltb-true, ltb-false}
use lib.Dec.{ltb}
use lib.ListN.{length, take, drop, length-take, length-drop}
use Rattle.rules.specs.Base.{Bytes, ascii, between, all}
use Rattle.rules.specs.Cutting.{field, split, valid, text}
use Rattle.rules.specs.Numbers.{digits}
use Rattle.rules.specs.Sets.{is_st}
use Rattle.rules.specs.Refusals.{good_st}
use Rattle.rules.specs.declared.Delimiters.{Delimiters}
use Rattle.rules.proofs.Logic.{and_left, and_right, same→eq}
use Rattle.text.specs.Text.{index_of}
use Rattle.text.proofs.Digits.{between_true, digits_length}
use Rattle.text.proofs.Search.{find_le}
use Rattle.segments.proofs.Fields.{FieldAt, field_first, field_at, field_next, field_past}

module _ {e : ℕ} {s : Bytes} {n start : ℕ} (f : FieldAt e s n start) where
  -- where a field ends, by where it starts and how long it is
  pub field_ends : start ≤ length s → start + length (field (split e s) n) ≡ start + index_of e (drop start s)
  field_ends k =
      let end = start + index_of e (drop start s) in
      let l = find_le e s start k in
      omega (arith, ap length (field_at f refl), length-take (end - start) (drop start s), length-drop start s)

  -- a field that is not empty starts within the segment
  field_within : 0 < length (field (split e s) n) → start ≤ length s
  field_within k = go (ltb (length s) start) refl
    where
      go : (b : Bool) → ltb (length s) start ≡ b → start ≤ length s
      go true l = let past = field_past f (ltb-true (length s) start l) n (le_refl n) in absurd (not-suc-le-zero (rw past at k))
      go false l = ltb-false (length s) start l

module _ (d : Delimiters) (s : Bytes) (named : is_st (split d.element s) ≡ true) where
  abbrev e : ℕ
  e = d.element

  pub id_ends : 2 ≡ 0 + index_of e (drop 0 s)
  id_ends =
      let two = ap length (same→eq (field (split e s) 0) (ascii "ST") named) in
      omega (arith, field_ends (field_first {e = e} {s = s}) (omega arith), two)

  pub kind_at : FieldAt e s 1 3
  kind_at = field_next (field_first {e = e} {s = s}) id_ends

  -- a header that can be answered
  module _ (good : good_st d (split e s) ≡ true) where
    pub kind_length : length (field (split e s) 1) ≡ 3
    unfolding good_st
    kind_length = let l = digits_length 3 3 (field (split e s) 1) (and_left (digits 3 3 (field (split e s) 1)) _ good) in omega arith

    number_length : 4 ≤ length (field (split e s) 2)
    unfolding good_st text
    number_length =
        let sized = and_right (digits 3 3 (field (split e s) 1)) (between 4 9 (length (field (split e s) 2)) && all (valid d) (field (split e s) 2)) good in
        (between_true 4 9 (length (field (split e s) 2)) (and_left (between 4 9 (length (field (split e s) 2))) (all (valid d) (field (split e s) 2)) sized)).0

    pub kind_ends : 3 + index_of e (drop 3 s) ≡ 6
    kind_ends = omega (arith, field_ends kind_at (field_within kind_at (omega (arith, kind_length))), kind_length)

    pub number_at : FieldAt e s 2 7
    number_at = let p : 6 ≡ 3 + index_of e (drop 3 s) = omega (arith, kind_ends) in field_next kind_at p

    pub header_long : 11 ≤ length s
    header_long =
        let k = field_within number_at (omega (arith, number_length)) in
        omega (arith, field_ends number_at k, number_length, find_le e s 7 k)

  -- a header that is too short, or whose ST01 has another length, cannot
  bad : (good_st d (split e s) ≡ true → ⊥) → good_st d (split e s) ≡ false
  bad h = go (good_st d (split e s)) refl
    where
      go : (b : Bool) → good_st d (split e s) ≡ b → b ≡ false
      go true g = absurd (h g)
      go false g = refl

  pub bad_short : length s < 11 → good_st d (split e s) ≡ false
  bad_short h = bad (λ g. omega (arith, header_long g))

  pub bad_kind : (3 + index_of e (drop 3 s) ≡ 6 → ⊥) → good_st d (split e s) ≡ false
  bad_kind h = bad (λ g. h (kind_ends g))

  -- else by its elements at their places, the end of ST02 as found
  pub good_by : (end : ℕ) → 6 ≡ 3 + index_of e (drop 3 s) → end ≡ 7 + index_of e (drop 7 s)
      → good_st d (split e s) ≡ digits 3 3 (take 3 (drop 3 s)) && text d 4 9 (take (end - 7) (drop 7 s))
  unfolding good_st
  good_by end p q = rw (field_at kind_at p, field_at (field_next kind_at p) q)
