-- A value unless there is a refusal: what it comes to, and what tells of it.
use Rattle.std.proofs.Common.{◌≡◌, ℕ, Bool, true, false, eqb, Ok, Err, refl}
use borrow.Author.Tests.{eqb-true, eqb-false, ne_eqb}
use Rattle.rules.specs.Refused.{refused, unless}
use Rattle.rules.specs.declared.Refusal.{Refusal}

module _ {A : Type 0} (n : ℕ) (x : A) where
  -- the value is there where no number is
  pub unless_none : n ≡ 0 → Ok x ≡ unless n x
  unfolding unless
  unless_none e = rw e

  -- the refusal of a number
  pub unless_number : (n ≡ 0 → ⊥) → Err (refused n) ≡ unless n x
  unfolding unless
  unless_number h = rw (ne_eqb n 0 h)

  pub unless_ok : {y : A} → unless n x ≡ Ok y → (n ≡ 0) × (y ≡ x)
  unfolding unless
  unless_ok {y} e = go (eqb n 0) refl
    where
      go : (b : Bool) → eqb n 0 ≡ b → (n ≡ 0) × (y ≡ x)
      go true p = (eqb-true n 0 p, cc (rw p at e))
      go false p = let q : Err (refused n) ≡ Ok y = rw p at e in absurd cc

  pub unless_err : {r : Refusal} → unless n x ≡ Err r → (r ≡ refused n) × (n ≡ 0 → ⊥)
  unfolding unless
  unless_err {r} e = go (eqb n 0) refl
    where
      go : (b : Bool) → eqb n 0 ≡ b → (r ≡ refused n) × (n ≡ 0 → ⊥)
      go true p = let q : Ok x ≡ Err r = rw p at e in absurd cc
      go false p = (cc (rw p at e), eqb-false n 0 p)
