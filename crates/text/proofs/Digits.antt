-- Digits and the number that they stand for.
use Rattle.std.specs.Prelude.{if◌then◌else◌, unwrap_or, None, Some}
use Prim.Native.Nat.{ℕ, suc, ◌+◌, ◌-◌, ◌*◌, ◌^◌, ◌<◌, ◌≤◌}
use mathlib.Core.Path.{◌≡◌, refl, ◌∙◌}
use mathlib.Core.Bool.{Bool, true, false, ◌&&◌}
use mathlib.Core.List.{[], ◌∷◌}
use native.Mathlib.Nat.{add-zero, pow-suc, pow-le-pow_right, lt_of_lt_of_le}
use native.Mathlib.Numerals.{add-one}
use native.Mathlib.Omega.{arith}
use borrow.Author.Tests.{leb-true, le-leb}
use lib.Dec.{leb, lit<}
use lib.ListN.{length, get_or, drop, drop_of_length-le}
use Rattle.rules.specs.Base.{Bytes, between, is_digit, all}
use Rattle.rules.specs.Numbers.{digits, value_from, value, count_in}
use Rattle.rules.proofs.Logic.{and_left, and_right, all_head, all_tail}
use Rattle.text.specs.Text.{up_to_ten}
use Rattle.text.proofs.Loops.{left_cons, all_step, all_end}

pub between_true : (lo hi n : ℕ) → between lo hi n ≡ true → (lo ≤ n) × (n ≤ hi)
between_true lo hi n e =
    (leb-true lo n (and_left (leb lo n) (leb n hi) e), leb-true n hi (and_right (leb lo n) (leb n hi) e))

-- the byte at i is a digit
pub record DigitAt (s : Bytes) (i : ℕ) : Type 0 where
  pub low : 48 ≤ get_or s i 0
  pub high : get_or s i 0 ≤ 57

pub digit_at : (s : Bytes) (i : ℕ) → is_digit (get_or s i 0) ≡ true → DigitAt s i
digit_at s i e = let b = between_true 48 57 (get_or s i 0) e in record { low = b.0; high = b.1 }

module _ (lo hi : ℕ) (s : Bytes) (e : digits lo hi s ≡ true) where
  pub digits_length : (lo ≤ length s) × (length s ≤ hi)
  unfolding digits
  digits_length = between_true lo hi (length s) (and_left (between lo hi (length s)) (all is_digit s) e)

  pub digits_all : all is_digit s ≡ true
  unfolding digits
  digits_all = and_right (between lo hi (length s)) (all is_digit s) e

-- one turn of reading a number, and its end
pub value_step : (n : ℕ) (s : Bytes) (i : ℕ) → i < length s → value_from n (drop i s) ≡ value_from (n * 10 + (get_or s i 0 - 48)) (drop (i + 1) s)
unfolding value_from
value_step n s i h = rw (left_cons s i h)

pub value_end : (n : ℕ) (s : Bytes) (i : ℕ) → length s ≤ i → value_from n (drop i s) ≡ n
unfolding value_from
value_end n s i h = rw (drop_of_length-le s {i = i} h)

-- a number of i digits and one digit more
pub below_more : (n x i : ℕ) → n < 10 ^ i → x ≤ 9 → n * 10 + x < 10 ^ (i + 1)
below_more n x i h k = rw (add-one, pow-suc) (omega arith)

pub below_ten : (n i : ℕ) → n < 10 ^ i → i ≤ 10 → n < 10000000000
below_ten n i h k = lt_of_lt_of_le h (pow-le-pow_right {n = 10} (lit< tt) {i = i} {j = 10} k)

below_from : (n i : ℕ) (s : Bytes) → n < 10 ^ i → all is_digit s ≡ true → value_from n s < 10 ^ (i + length s)
unfolding value_from
below_from n i [] h e = rw add-zero h
below_from n i (b ∷ bs) h e =
    let d = between_true 48 57 b (all_head is_digit b bs e) in
    let r = below_from (n * 10 + (b - 48)) (i + 1) bs (below_more n (b - 48) i h (omega arith)) (all_tail is_digit b bs e) in
    let l : i + suc (length bs) ≡ i + 1 + length bs = omega arith in
    rw l r

-- the value of at most hi digits
pub value_below : (lo hi : ℕ) (s : Bytes) → digits lo hi s ≡ true → value s < 10 ^ hi
unfolding value
value_below lo hi s e =
    let l = digits_length lo hi s e in
    lt_of_lt_of_le
    (below_from 0 0 s (lit< tt) (digits_all lo hi s e))
    (pow-le-pow_right {n = 10} (lit< tt) {i = 0 + length s} {j = hi} (omega arith))

-- The first i of at most ten bytes are digits and stand for n; the rest decides.
pub record ReadTo (s : Bytes) (i n : ℕ) : Type 0 where
  pub few : length s ≤ 10
  pub below : n < 10 ^ i
  pub digits : all is_digit s ≡ all is_digit (drop i s)
  pub rest : value s ≡ value_from n (drop i s)

pub read_none : (s : Bytes) → length s ≤ 10 → ReadTo s 0 0
unfolding value
read_none s h = record { few = h; below = lit< tt; digits = refl; rest = refl }

module _ {s : Bytes} {i n : ℕ} (r : ReadTo s i n) where
  pub read_low : i < length s → n < 10000000000
  read_low h = below_ten n i r.below (omega (arith, r.few))

  pub read_more : i < length s → is_digit (get_or s i 0) ≡ true → ReadTo s (i + 1) (n * 10 + (get_or s i 0 - 48))
  read_more h e =
      let d = digit_at s i e in
      record {
        few = r.few;
        below = below_more n (get_or s i 0 - 48) i r.below (omega arith);
        digits = r.digits ∙ all_step is_digit s 0 i true h e;
        rest = r.rest ∙ value_step n s i h;
      }

  pub read_other : i < length s → is_digit (get_or s i 0) ≡ false → all is_digit s ≡ false
  read_other h e = r.digits ∙ all_step is_digit s 0 i false h e

  pub read_all : length s ≤ i → (all is_digit s ≡ true) × (value s ≡ n)
  read_all h = (r.digits ∙ all_end is_digit s i h, r.rest ∙ value_end n s i h)

-- the number is that count, and 0 where there is none: no digits stand for 0, too
pub value_counted : (s : Bytes) → up_to_ten s ≡ unwrap_or (count_in 10 s) 0
unfolding up_to_ten count_in digits value value_from all
value_counted [] = refl
value_counted (b ∷ bs) =
    rw (le-leb 0 (suc (length bs)) (omega arith), le-leb 1 (suc (length bs)) (omega arith))
    (go (leb (suc (length bs)) 10 && all is_digit (b ∷ bs)) (value (b ∷ bs)))
  where
    go : (q : Bool) (n : ℕ) → (if q then n else 0) ≡ unwrap_or (if q then Some n else None) 0
    go true n = refl
    go false n = refl

-- the number, where it is known whether all are digits
pub value_by : (s : Bytes) (q : Bool) → length s ≤ 10 → all is_digit s ≡ q → up_to_ten s ≡ if q then value s else 0
unfolding up_to_ten digits
value_by s q h e = rw (le-leb 0 (length s) (omega arith), le-leb (length s) 10 h, e)

pub value_of : (lo hi : ℕ) (s : Bytes) → digits lo hi s ≡ true → hi ≤ 10 → up_to_ten s ≡ value s
value_of lo hi s e h = let l = digits_length lo hi s e in value_by s true (omega arith) (digits_all lo hi s e)
