-- Eight digits, by the count that is read from them.
use Rattle.std.specs.Prelude.{if◌then◌else◌, Option, Some, None, is_some, unwrap_or}
use Prim.Native.Nat.{ℕ, ◌<◌}
use mathlib.Core.Path.{◌≡◌, refl, sym, ap, ◌∙◌}
use mathlib.Core.Bool.{Bool, true, false, ◌&&◌, false≢true}
use native.Mathlib.Omega.{arith}
use lib.ListN.{length}
use Rattle.rules.specs.Base.{Bytes}
use Rattle.rules.specs.Numbers.{digits, value, count_in, is_day, is_date}
use Rattle.text.proofs.Digits.{value_below}

module _ (s : Bytes) (eight : length s ≡ 8) where
  counted : count_in 8 s ≡ (if digits 8 8 s then Some (value s) else None)
  unfolding count_in digits
  counted = rw eight refl

  -- what a count says, where one is read
  read : {n : ℕ} → Some n ≡ count_in 8 s → (digits 8 8 s ≡ true) × (value s ≡ n)
  read {n} e = go (digits 8 8 s) refl (e ∙ counted)
    where
      go : (b : Bool) → digits 8 8 s ≡ b → Some n ≡ (if b then Some (value s) else None) → (digits 8 8 s ≡ true) × (value s ≡ n)
      go true q k = (q, sym (ap (λ o. unwrap_or o 0) k))
      go false q k = absurd (false≢true (sym (ap is_some k)))

  pub date_read : {n : ℕ} → Some n ≡ count_in 8 s → is_date s ≡ is_day n
  unfolding is_date
  date_read e = rw ((read e).0, (read e).1)

  pub read_below : {n : ℕ} → Some n ≡ count_in 8 s → n < 100000000
  read_below e = omega (arith, (read e).1, value_below 8 8 s (read e).0)

  pub date_unread : None ≡ count_in 8 s → is_date s ≡ false
  unfolding is_date
  date_unread e = go (digits 8 8 s) refl (e ∙ counted)
    where
      go : (b : Bool) → digits 8 8 s ≡ b → None ≡ (if b then Some (value s) else None) → digits 8 8 s && is_day (value s) ≡ false
      go true q k = absurd (false≢true (ap is_some k))
      go false q k = rw q

-- any other number of bytes is no date
pub date_other : (s : Bytes) → (length s ≡ 8 → ⊥) → is_date s ≡ false
unfolding is_date digits
date_other s h = grind arith
