-- Digits and numbers, the declared counts, and the rules DT and TM.
use Rattle.std.specs.Prelude.{ℕ, zero, suc, ◌+◌, ◌-◌, ◌*◌, ◌/◌, ◌%◌, Bool, ◌&&◌, ◌||◌, not, [], ◌∷◌, ◌++◌, leb, ltb, eqb, length, take, drop, if◌then◌else◌, Option, None, Some}
use Rattle.rules.specs.Base.{Bytes, ◌⇒◌, first, between, is_digit, all, any, holds}

-- lo to hi digits and nothing else
unfoldable pub digits : ℕ → ℕ → Bytes → Bool
digits lo hi bs = between lo hi (length bs) && all is_digit bs

-- the number that digits stand for, after the number n to their left
unfoldable pub value_from : ℕ → Bytes → ℕ
value_from n [] = n
value_from n (b ∷ bs) = value_from (n * 10 + (b - 48)) bs

unfoldable pub value : Bytes → ℕ
value = value_from 0

-- the count that one to hi digits stand for
unfoldable pub count_in : ℕ → Bytes → Option ℕ
count_in hi bs = if digits 1 hi bs then Some (value bs) else None

-- SE01, GE01 or IEA01 declares the count n
abbrev pub declares : ℕ → Bytes → ℕ → Bool
declares hi bs n = holds (eqb n) (count_in hi bs)

-- the last w digits of n
unfoldable pub padded : ℕ → ℕ → Bytes
padded zero n = []
padded (suc w) n = padded w (n / 10) ++ (48 + n % 10) ∷ []

-- the digits of n without leading zeros, at most f + 1 of them
unfoldable pub digits_of : ℕ → ℕ → Bytes
digits_of zero n = (48 + n % 10) ∷ []
digits_of (suc f) n = let left = digits_of f (n / 10) in if ltb n 10 then (48 + n) ∷ [] else left ++ (48 + n % 10) ∷ []

-- n without leading zeros, for n below 10^20: 64 bits have at most twenty digits
unfoldable pub decimal : ℕ → Bytes
decimal = digits_of 19

-- a year with a 29 February: divisible by 4, and not by 100 unless by 400
unfoldable pub leap : ℕ → Bool
leap year = eqb (year % 4) 0 && (not (eqb (year % 100) 0) || eqb (year % 400) 0)

-- how many days a month of a year has; what is no month has none
unfoldable pub month_length : ℕ → ℕ → ℕ
month_length year month =
    first (
    (any (eqb month) (1 ∷ 3 ∷ 5 ∷ 7 ∷ 8 ∷ 10 ∷ 12 ∷ []) ⇒ 31) ∷
    (any (eqb month) (4 ∷ 6 ∷ 9 ∷ 11 ∷ []) ⇒ 30) ∷
    (eqb month 2 && leap year ⇒ 29) ∷
    (eqb month 2 ⇒ 28) ∷
    [])

-- the number CCYYMMDD is a day of the Gregorian calendar: month 1 to 12, day 1 to the length of the month
unfoldable pub is_day : ℕ → Bool
is_day n =
    let year = n / 10000 in
    let month = n / 100 % 100 in
    let day = n % 100 in
    between 1 12 month && between 1 (month_length year month) day

-- rule DT: eight digits that are a day
unfoldable pub is_date : Bytes → Bool
is_date bs = digits 8 8 bs && is_day (value bs)

-- the two digits at i, as a number; 0 past the end
unfoldable pub two : ℕ → Bytes → ℕ
two i bs = value (take 2 (drop i bs))

-- rule TM: HHMM, HHMMSS, and one or two digits more
unfoldable pub is_time : Bytes → Bool
is_time bs =
    (digits 4 4 bs || digits 6 8 bs) && leb (two 0 bs) 23 && leb (two 2 bs) 59 && leb (two 4 bs) 59
