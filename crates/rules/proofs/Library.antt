-- The words of specs/ in those of the library, as its methods on slices say what they answer.
use Rattle.std.proofs.Common.{◌≡◌, Bool, ◌&&◌, ◌||◌, List, [], ◌∷◌, eqb, refl, ap}
use Rattle.std.specs.List.{list_any, list_all}
use Rattle.std.specs.Cmp.Lexicographic.{pointwise}
use Rattle.rules.specs.Base.{Bytes, same, all, any}

module _ {A : Type 0} (p : A → Bool) where
  pub any-is : (xs : List A) → any p xs ≡ list_any p xs
  unfolding any
  any-is [] = refl
  any-is (x ∷ xs) = ap (λ b. p x || b) (any-is xs)

  pub all-is : (xs : List A) → all p xs ≡ list_all p xs
  unfolding all
  all-is [] = refl
  all-is (x ∷ xs) = ap (λ b. p x && b) (all-is xs)

pub same-is : (a b : Bytes) → same a b ≡ pointwise eqb a b
unfolding same
same-is [] [] = refl
same-is [] (b ∷ bs) = refl
same-is (a ∷ as') [] = refl
same-is (a ∷ as') (b ∷ bs) = ap (λ t. eqb a b && t) (same-is as' bs)
