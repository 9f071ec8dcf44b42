-- The laws of `decimal`, `padded` and `optional`: one digit more, and digits that are written from the last one on.
use Rattle.std.specs.Prelude.{if◌then◌else◌, Option, Some, None, IfSome, IfNone, unwrap_or}
use mathlib.Core.Path.{◌≡◌, refl, sym, ap, ◌∙◌}
use mathlib.Core.List.{[], ◌∷◌, ◌++◌}
use Prim.Native.Nat.{ℕ, zero, suc, ◌+◌, ◌-◌, ◌*◌, ◌/◌, ◌%◌, ◌^◌, ◌≤◌, ◌<◌}
use native.Mathlib.Omega.{arith}
use native.Mathlib.Numerals.{add-one}
use lib.Dec.{ltb}
use lib.ListN.{set}
use borrow.Author.Tests.{lt-ltb, le-ltb, eq-eqb}
use Rattle.rules.specs.Base.{Bytes}
use Rattle.rules.specs.Numbers.{padded, digits_of, decimal}
use Rattle.rules.proofs.Lengths.{padded_length}
use Rattle.writing.specs.Over.{over}
use Rattle.writing.specs.Optional.{optional}
use Rattle.writing.proofs.Over.{over_last}

-- 10 to the power f + 1
abbrev ten : ℕ → ℕ
ten zero = 10
ten (suc f) = ten f * 10

-- room for more digits than there are makes no difference
enough : (f n : ℕ) → n < ten f → digits_of f n ≡ digits_of (suc f) n
unfolding digits_of
enough zero n h = rw (lt-ltb n 10 h) (ap (λ (k : ℕ). (48 + k) ∷ []) (omega arith))
enough (suc f) n h = ap (λ (l : Bytes). if ltb n 10 then (48 + n) ∷ [] else l ++ (48 + n % 10) ∷ []) (enough f (n / 10) (omega arith))

pub decimal_small : (n : ℕ) → n < 10 → decimal n ≡ (48 + n % 10) ∷ []
unfolding decimal digits_of
decimal_small n h = rw (lt-ltb n 10 h) (ap (λ (k : ℕ). (48 + k) ∷ []) (omega arith))

pub decimal_more : (n : ℕ) → 10 ≤ n → n < 18446744073709551616 → decimal n ≡ decimal (n / 10) ++ (48 + n % 10) ∷ []
unfolding decimal digits_of
decimal_more n h k = rw (le-ltb n 10 h) (ap (λ (l : Bytes). l ++ (48 + n % 10) ∷ []) (enough 18 (n / 10) (omega arith)))

padded_more : (w n : ℕ) → (w ≡ 0 → ⊥) → padded w n ≡ padded (w - 1) (n / 10) ++ (48 + n % 10) ∷ []
unfolding padded
padded_more zero n h = absurd (h refl)
padded_more (suc w) n h = let e : suc w - 1 ≡ w = omega arith in rw e

-- the last digit stands where it belongs, and the others are due before it
pub padded_turn : (i n : ℕ) (o : Bytes) → 0 < i → over (padded i n) o ≡ over (padded (i - 1) (n / 10)) (set o (i - 1) (48 + n % 10))
padded_turn i n o h =
    let left = padded (i - 1) (n / 10) in
    ap (λ (t : Bytes). over t o) (padded_more i n (λ e. omega (arith, e, h)))
    ∙ over_last left (48 + n % 10) o
    ∙ ap (λ (k : ℕ). over left (set o k (48 + n % 10))) (padded_length (i - 1) (n / 10))

-- nothing is due any more
pub padded_done : (i n : ℕ) (o : Bytes) → i ≡ 0 → over (padded i n) o ≡ o
unfolding padded over
padded_done i n o e = rw e

-- a number has one digit more than its largest power of 10 has zeros
counted : (k v : ℕ) → 10 ^ k ≤ v → v < 10 * 10 ^ k → v < 18446744073709551616 → padded (suc k) v ≡ decimal v
unfolding padded
counted zero v low high small = sym (decimal_small v high)
counted (suc k) v low high small =
    ap (λ (l : Bytes). l ++ (48 + v % 10) ∷ []) (counted k (v / 10) (omega arith) (omega arith) (omega arith))
    ∙ sym (decimal_more v (omega arith) small)

-- and 0 has one digit
pub digits_counted : (o : Option ℕ) (v : ℕ) → IfNone o (v ≡ 0) → IfSome o (λ k. 10 ^ k ≤ v) → IfSome o (λ k. v < 10 * 10 ^ k) → v < 18446744073709551616
    → padded (unwrap_or o 0 + 1) v ≡ decimal v
unfolding padded
digits_counted None v none low high small = sym (decimal_small v (omega arith))
digits_counted (Some k) v none low high small = rw add-one (counted k v low high small)

pub optional_none : (n : ℕ) → n ≡ 0 → optional n ≡ []
optional_none n e = rw (eq-eqb n 0 e)
