-- Months: a test of each of them, and what a leap year changes.
use mathlib.Core.Path.{◌≡◌, refl, subst}
use mathlib.Core.Logic.{⊎_elim}
use mathlib.Core.Bool.{Bool, true, false, ◌&&◌, ◌||◌, beq}
use Prim.Native.Nat.{ℕ, zero, suc, ◌+◌, ◌≤◌, ◌<◌, ◌%◌}
use native.Mathlib.Nat.{eq-or-lt_of_le}
use native.Mathlib.Omega.{arith}
use lib.Dec.{eqb, ltb}
use mir.Val.{bool_byte}
use Rattle.rules.specs.Base.{any, first}
use Rattle.rules.specs.Numbers.{leap, month_length}
use Rattle.rules.proofs.Logic.{and_left, and_right}
use Rattle.text.proofs.Loops.{and_false}

-- the test p passes at each of the n numbers from a on
abbrev pub passes : (ℕ → Bool) → ℕ → ℕ → Bool
passes p a zero = true
passes p a (suc n) = p a && passes p (suc a) n

passes_at : (p : ℕ → Bool) (a n m : ℕ) → passes p a n ≡ true → a ≤ m → m < a + n → p m ≡ true
passes_at p a zero m e l h = absurd (omega arith)
passes_at p a (suc n) m e l h =
    ⊎_elim
    (λ q. subst (λ (k : ℕ). p k ≡ true) q (and_left (p a) (passes p (suc a) n) e))
    (λ q. passes_at p (suc a) n m (and_right (p a) (passes p (suc a) n) e) q (omega arith))
    (eq-or-lt_of_le l)

-- a test that passes at 1 to 12 passes at a month
pub at_month : (p : ℕ → Bool) → passes p 1 12 ≡ true → (month : ℕ) → (1 ≤ month) × (month ≤ 12) → p month ≡ true
at_month p e month b = passes_at p 1 12 month e b.0 (omega arith)

-- A month is as long as in the year 1, a common year, unless it is February and the year is a leap year.
pub common : (year month : ℕ) → (eqb month 2 && leap year) ≡ false → month_length 1 month ≡ month_length year month
unfolding month_length leap first
common year month e = simp (e, and_false)

-- the long months of the formula, and what is tested of them: the months of the year 1 but February
abbrev pub long : ℕ → Bool
long month = beq (eqb (month % 2) 1) (ltb month 8)

unfoldable pub right : ℕ → Bool
right month = eqb month 2 || eqb (30 + bool_byte (long month)) (month_length 1 month)

pub all_right : passes right 1 12 ≡ true
unfolding right month_length leap first any
all_right = refl
