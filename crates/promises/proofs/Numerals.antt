-- A number that we write reads as that number: `decimal` is right for every number below 10^20, so for every number of 64 bits.
use Rattle.std.specs.Prelude.{if◌then◌else◌}
use mathlib.Core.Path.{◌≡◌, refl, ◌∙◌}
use mathlib.Core.Bool.{Bool, true, false}
use mathlib.Core.List.{[], ◌∷◌, ◌++◌}
use Prim.Native.Nat.{ℕ, zero, suc, ◌+◌, ◌-◌, ◌*◌, ◌/◌, ◌%◌, ◌<◌}
use native.Mathlib.Omega.{arith}
use lib.Dec.{ltb}
use Rattle.rules.specs.Base.{Bytes, null}
use Rattle.rules.specs.Numbers.{value_from, value, digits_of, decimal}
use Rattle.rules.proofs.Lengths.{either}

value_append : (m : ℕ) (bs : Bytes) (b : ℕ) → value_from m (bs ++ b ∷ []) ≡ value_from m bs * 10 + (b - 48)
unfolding value_from
value_append m [] b = refl
value_append m (x ∷ bs) b = value_append (m * 10 + (x - 48)) bs b

-- ten to the number of digits
abbrev powers : ℕ → ℕ
powers zero = 10
powers (suc f) = powers f * 10

digits_value : (f n : ℕ) → n < powers f → value (digits_of f n) ≡ n
unfolding digits_of value value_from
digits_value zero n h = omega arith
digits_value (suc f) n h =
    let small : n / 10 < powers f = omega arith in
    go (ltb n 10) (digits_value f (n / 10) small)
  where
    go : (b : Bool) → value (digits_of f (n / 10)) ≡ n / 10
        → value (if b then (48 + n) ∷ [] else digits_of f (n / 10) ++ (48 + n % 10) ∷ []) ≡ n
    go true left = omega arith
    go false left = value_append 0 (digits_of f (n / 10)) (48 + n % 10) ∙ omega (arith, left)

-- A number that we write is never empty. A program that writes nothing for 0 is shut out.
pub decimal_some : (n : ℕ) → null (decimal n) ≡ false
unfolding decimal digits_of
decimal_some n = either (λ (bs : Bytes). null bs ≡ false) (ltb n 10) refl (append_some (digits_of 18 (n / 10)) (48 + n % 10))
  where
    append_some : (bs : Bytes) (b : ℕ) → null (bs ++ b ∷ []) ≡ false
    append_some [] b = refl
    append_some (x ∷ bs) b = refl

-- A program that drops or swaps digits, or writes only the last ones of a longer number, is shut out.
pub decimal_value : (n : ℕ) → n < 100000000000000000000 → value (decimal n) ≡ n
unfolding decimal
decimal_value n h = digits_value 19 n h
