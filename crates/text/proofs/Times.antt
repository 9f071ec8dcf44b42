-- Rule TM: how long a time is, and its pairs as values.
use Prim.Native.Nat.{ℕ, ◌≤◌}
use mathlib.Core.Path.{◌≡◌, refl}
use mathlib.Core.Bool.{Bool, true, false, ◌&&◌, ◌||◌}
use native.Mathlib.Omega.{arith}
use lib.Dec.{leb}
use lib.ListN.{length, take, drop, drop_of_length-le, length-take}
use Rattle.rules.specs.Base.{Bytes, is_digit, all}
use Rattle.rules.specs.Numbers.{digits, value, value_from, two, is_time}
use Rattle.rules.proofs.Logic.{all_take, all_drop}
use Rattle.text.specs.Text.{part, up_to_ten}
use Rattle.text.proofs.Digits.{digits_length, digits_all, value_by}

pub record TimeDigits (s : Bytes) : Type 0 where
  pub only : all is_digit s ≡ true
  pub minutes : 4 ≤ length s
  pub seconds : (length s ≡ 4 → ⊥) → 6 ≤ length s

pub time_digits : (s : Bytes) → (digits 4 4 s || digits 6 8 s) ≡ true → TimeDigits s
time_digits s = go (digits 4 4 s) refl
  where
    go : (q : Bool) → digits 4 4 s ≡ q → (q || digits 6 8 s) ≡ true → TimeDigits s
    go true p e =
        let l = digits_length 4 4 s p in
        record { only = digits_all 4 4 s p; minutes = l.0; seconds = λ h. absurd (h (omega arith)) }
    go false p e =
        let l = digits_length 6 8 s e in
        record { only = digits_all 6 8 s e; minutes = omega arith; seconds = λ h. l.0 }

two_value : (i : ℕ) (s : Bytes) → all is_digit s ≡ true → up_to_ten (take 2 (drop i s)) ≡ two i s
unfolding two
two_value i s e =
    value_by (take 2 (drop i s)) true (simp length-take (omega arith)) (all_take is_digit 2 (drop i s) (all_drop is_digit i s e))

-- the rule, with the pairs as `value` reads them
pub time_is : (s : Bytes) → is_time s
    ≡ ((digits 4 4 s || digits 6 8 s) && leb (up_to_ten (part s 0 2)) 23 && leb (up_to_ten (part s 2 4)) 59 && leb (up_to_ten (part s 4 6)) 59)
unfolding is_time
time_is s = go (digits 4 4 s || digits 6 8 s) refl
  where
    go : (q : Bool) → (digits 4 4 s || digits 6 8 s) ≡ q
        → (q && leb (two 0 s) 23 && leb (two 2 s) 59 && leb (two 4 s) 59)
        ≡ (q && leb (up_to_ten (part s 0 2)) 23 && leb (up_to_ten (part s 2 4)) 59 && leb (up_to_ten (part s 4 6)) 59)
    go true e = let d = (time_digits s e).only in rw (two_value 0 s d, two_value 2 s d, two_value 4 s d)
    go false e = refl

-- no seconds are the value 0
pub time_short : (s : Bytes) → length s ≡ 4 → up_to_ten (part s 4 6) ≡ 0
unfolding up_to_ten digits value value_from all
time_short s h = rw (drop_of_length-le s {i = 4} (omega arith))
