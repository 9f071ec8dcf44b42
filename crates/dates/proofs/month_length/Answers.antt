-- `dates::month_length` meets its contract.
use mathlib.Core.Path.{◌≡◌, refl, ◌∙◌}
use mathlib.Core.Bool.{Bool, true, false}
use mathlib.Core.List.{[], ◌∷◌}
use Prim.Native.Nat.{ℕ, ◌+◌, ◌≤◌}
use native.Mathlib.Omega.{arith}
use borrow.Author.Tests.{eqb-true, ne_eqb}
use mir.Syntax.{w8}
use mir.Val.{Fits, bool_byte}
use Rattle.rules.specs.Base.{◌⇒◌, any, first}
use Rattle.rules.specs.Numbers.{leap, month_length}
use Rattle.dates.proofs.Months.{at_month, common, right, all_right}
use Rattle.dates.proofs.month_length.Goals as goal

-- a length and a day more, or none, fits into a byte
fits : (n : ℕ) (more : Bool) → n ≤ 30 → Fits w8 (n + bool_byte more)
fits n true l = omega arith
fits n false l = omega arith

-- February has a day more in a leap year
february : (year : ℕ) → 28 + bool_byte (leap year) ≡ month_length year 2
unfolding month_length first any
february year = by_leap (leap year)
  where
    by_leap : (more : Bool) → 28 + bool_byte more ≡ first ((more ⇒ 29) ∷ (true ⇒ 28) ∷ [])
    by_leap true = refl
    by_leap false = refl

pub returns-then-month-eq-FEBRUARY : goal.returns-then-month-eq-FEBRUARY
returns-then-month-eq-FEBRUARY c = rw (c.if-month-eq-FEBRUARY.true, c.is_leap.ensures) (february _)

pub returns : goal.returns
unfolding right
returns c =
    let other = ne_eqb _ _ c.if-month-eq-FEBRUARY.false in
    eqb-true _ _ (rw other at (at_month right all_right _ c.requires)) ∙ common _ _ (rw other)
