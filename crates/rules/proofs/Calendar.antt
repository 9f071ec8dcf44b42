-- Rule DT: days either side of the line, what a day is, and that nothing is taken which was refused while every month had 31 days.
use Prim.Native.Nat.{ℕ, ◌/◌, ◌%◌, ◌≤◌}
use mathlib.Core.Path.{◌≡◌, refl, sym, ◌∙◌}
use mathlib.Core.Bool.{Bool, true, false, ◌&&◌, false≢true}
use mathlib.Core.List.{List, [], ◌∷◌}
use native.Mathlib.Omega.{arith}
use borrow.Author.Tests.{leb-true, le-leb}
use lib.Dec.{leb}
use Rattle.rules.specs.Base.{Bytes, between, all, any}
use Rattle.rules.specs.Numbers.{digits, value, month_length, is_day, is_date}
use Rattle.rules.proofs.Open.{everything}
use Rattle.rules.proofs.Logic.{and_left, and_right, first_low}

-- 1. Either side of the line.
-- days: the last of each month of 2023, and of February in other years
pub days : List ℕ
days =
    20230131 ∷ 20230228 ∷ 20230331 ∷ 20230430 ∷ 20230531 ∷ 20230630 ∷
    20230731 ∷ 20230831 ∷ 20230930 ∷ 20231031 ∷ 20231130 ∷ 20231231 ∷
    20240229 ∷ 19000228 ∷ 20000229 ∷ 00000229 ∷ []

-- no days: the numbers after those, and 29 or 30 February in years without it
pub no_days : List ℕ
no_days =
    20230132 ∷ 20230229 ∷ 20230332 ∷ 20230431 ∷ 20230532 ∷ 20230631 ∷
    20230732 ∷ 20230832 ∷ 20230931 ∷ 20231032 ∷ 20231131 ∷ 20231232 ∷
    20240230 ∷ 19000229 ∷ 20000230 ∷ 00000230 ∷ 20230230 ∷ 21000229 ∷ 01000229 ∷ []

-- Shut out: a month that is a day too long or too short; the rule of 4, of 100 or of 400 left out; a year 0 that is no leap year.
pub either_side : (all is_day days ≡ true) × (any is_day no_days ≡ false)
unfolding everything days no_days
either_side = (refl, refl)

-- 2. What a day is.
pub within : (lo hi n : ℕ) → between lo hi n ≡ true → (lo ≤ n) × (n ≤ hi)
within lo hi n e = (leb-true lo n (and_left (leb lo n) (leb n hi) e), leb-true n hi (and_right (leb lo n) (leb n hi) e))

-- the number CCYYMMDD has a month 1 to 12 and a day 1 to the length of that month in that year
pub record InCalendar (n : ℕ) : Type 0 where
  pub month_from : 1 ≤ n / 100 % 100
  pub month_to : n / 100 % 100 ≤ 12
  pub day_from : 1 ≤ n % 100
  pub day_to : n % 100 ≤ month_length (n / 10000) (n / 100 % 100)

-- Shut out: a program that takes 20230230.
pub in_calendar : (n : ℕ) → is_day n ≡ true → InCalendar n
unfolding is_day
in_calendar n e =
    let length = month_length (n / 10000) (n / 100 % 100) in
    let m = within 1 12 (n / 100 % 100) (and_left (between 1 12 (n / 100 % 100)) (between 1 length (n % 100)) e) in
    let d = within 1 length (n % 100) (and_right (between 1 12 (n / 100 % 100)) (between 1 length (n % 100)) e) in
    record { month_from = m.0; month_to = m.1; day_from = d.0; day_to = d.1 }

-- 3. The rule as it was: day 1 to 31 in every month.
abbrev pub was_day : ℕ → Bool
was_day n = between 1 12 (n / 100 % 100) && between 1 31 (n % 100)

longest : (year month : ℕ) → month_length year month ≤ 31
unfolding month_length
longest year month = first_low 28 31 _ refl

-- Shut out: a program that takes month 13 or day 32 in some year.
pub was_day_lem : (n : ℕ) → is_day n ≡ true → was_day n ≡ true
was_day_lem n e =
    let c = in_calendar n e in
    let most : n % 100 ≤ 31 = omega (arith, longest (n / 10000) (n / 100 % 100)) in
    rw (le-leb _ _ c.month_from, le-leb _ _ c.month_to, le-leb _ _ c.day_from, le-leb _ _ most)

-- What was refused is refused: a number, and bytes. Shut out: a program that takes a date which it did not take before.
pub number_still_refused : (n : ℕ) → was_day n ≡ false → is_day n ≡ false
number_still_refused n e = go (is_day n) refl
  where
    go : (b : Bool) → is_day n ≡ b → is_day n ≡ false
    go true d = absurd (false≢true (sym e ∙ was_day_lem n d))
    go false d = d

pub date_still_refused : (bs : Bytes) → digits 8 8 bs && was_day (value bs) ≡ false → is_date bs ≡ false
unfolding is_date
date_still_refused bs e = go (digits 8 8 bs) refl
  where
    go : (b : Bool) → digits 8 8 bs ≡ b → is_date bs ≡ false
    go true d = rw d (number_still_refused (value bs) (rw d at e))
    go false d = rw d
