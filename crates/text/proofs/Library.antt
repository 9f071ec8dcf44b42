-- The words of specs/ in those of the library, as its methods on slices say what they answer.
use Rattle.std.proofs.Common.{◌≡◌, ℕ, Bool, true, false, cond, List, [], ◌∷◌, ltb, length, drop, ◌+◌, ◌≤◌, max, ap, refl, sym, ◌∙◌, arith, length-drop}
use Rattle.std.specs.List.{position_or_len, position}
use Rattle.std.specs.Prelude.{Option, unwrap_or, Some, None}
use Rattle.std.specs.Iterator.{ChecksAll, ChecksAny, FindsPosition}
use Rattle.std.specs.Slice.Iter.{iter_rest}
use Rattle.std.specs.Fn.{Called}
use Rattle.std.specs.declared.slice.Iter.{Iter}
use Rattle.std.proofs.iter.Yields.{fronts}
use Rattle.std.proofs.lemmas.Iterator.{YieldsList-from_slice}
use Rattle.std.proofs.lemmas.Iterator.Search.{all_from_yields_List, any_from_yields_List, position_from_yields_List}
use denote.Ref.{Bor}
use denote.Param.Members.{Mut}
use Rattle.rules.specs.Base.{all, any}
use Rattle.rules.proofs.Library.{any-is, all-is}
use Rattle.text.specs.Text.{index_where, next_where}
use Rattle.text.proofs.Where.{index_le}
use borrow.Author.Tests.{ltb-false}

module _ {A : Type 0} (p : A → Bool) where
  pub index-is : (xs : List A) → index_where p xs ≡ position_or_len p xs
  unfolding index_where
  index-is [] = refl
  index-is (x ∷ xs) = grind (arith, index-is xs)

  pub position-is : (xs : List A) → position p xs ≡ cond (ltb (index_where p xs) (length xs)) (Some (index_where p xs)) None
  position-is xs = rw index-is

  -- the place that `position` tells, or the length
  pub position-or : (xs : List A) → unwrap_or (position p xs) (length xs) ≡ index_where p xs
  position-or xs = rw (position-is xs) (go (ltb (index_where p xs) (length xs)) refl)
    where
      go : (b : Bool) → ltb (index_where p xs) (length xs) ≡ b → unwrap_or (cond b (Some (index_where p xs)) None) (length xs) ≡ index_where p xs
      go true e = refl
      go false e = omega (arith, index_le p xs, ltb-false _ _ e)

  -- the same from k on
  pub next-or : (xs : List A) (k : ℕ) → k + unwrap_or (position p (drop k xs)) (length (drop k xs)) ≡ next_where p xs k
  next-or xs k = ap (λ n. k + n) (position-or (drop k xs))

-- a search from a place on that has come past the end has come to the end, or to that place where it is further on
pub next_past : {A : Type 0} (p : A → Bool) (xs : List A) (from : ℕ) {k : ℕ} → next_where p xs from ≡ k → length xs ≤ k → max from (length xs) ≡ k
next_past p xs from e h = omega (arith, index_le p (drop from xs), length-drop from xs)

-- what `all`, `any` and `position` answer over the elements of a slice, where the closure computes the test p
module _ {A F : Type 0} {g : Mut F (Bor A × Unit {0}) Bool} {s u : Iter A} {f : F} {xs : List A} (p : A → Bool) where
  pub all_of : {r : Bool} → ChecksAll fronts g s f r u → iter_rest s ≡ xs
      → ((x : Bor A) (b : Bool) (q : F) → Called g f (x, tt) b q → (q ≡ f) × (b ≡ p x.now)) → r ≡ all p xs
  all_of {r} ran e k = all_from_yields_List p u f r ran (YieldsList-from_slice xs e) k ∙ sym (all-is p xs)

  pub any_of : {r : Bool} → ChecksAny fronts g s f r u → iter_rest s ≡ xs
      → ((x : Bor A) (b : Bool) (q : F) → Called g f (x, tt) b q → (q ≡ f) × (b ≡ p x.now)) → r ≡ any p xs
  any_of {r} ran e k = any_from_yields_List p u f r ran (YieldsList-from_slice xs e) k ∙ sym (any-is p xs)

  pub position_of : {r : Option ℕ} → FindsPosition fronts g s f r u → iter_rest s ≡ xs
      → ((x : Bor A) (b : Bool) (q : F) → Called g f (x, tt) b q → (q ≡ f) × (b ≡ p x.now)) → r ≡ position p xs
  position_of {r} ran e k = position_from_yields_List p u f r ran (YieldsList-from_slice xs e) k
