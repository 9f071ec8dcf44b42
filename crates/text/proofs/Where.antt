-- The search for what passes a test: one turn of it, and where it ends.
use Rattle.std.specs.Prelude.{if◌then◌else◌}
use Prim.Native.Nat.{ℕ, suc, ◌+◌, ◌<◌, ◌≤◌, suc-le-suc}
use mathlib.Core.Path.{◌≡◌}
use mathlib.Core.Bool.{Bool, true, false}
use mathlib.Core.List.{List, [], ◌∷◌}
use native.Mathlib.Nat.{add-zero}
use native.Mathlib.Numerals.{add-one}
use native.Mathlib.Omega.{arith}
use lib.ListN.{length, get_or, drop, drop_of_length-le, length-drop}
use lib.Seq.{drop-cons}
use Rattle.text.specs.Text.{index_where, next_where}

module _ {A : Type 0} (p : A → Bool) (xs : List A) (d : A) (k : ℕ) where
  pub next_here : k < length xs → p (get_or xs k d) ≡ true → next_where p xs k ≡ k
  unfolding index_where
  next_here h e = rw (drop-cons xs k d h, e, add-zero)

  pub next_later : k < length xs → p (get_or xs k d) ≡ false → next_where p xs k ≡ next_where p xs (k + 1)
  unfolding index_where
  next_later h e = rw (add-one, drop-cons xs k d h, e) (omega arith)

  pub next_none : length xs ≤ k → next_where p xs k ≡ k
  unfolding index_where
  next_none h = rw (drop_of_length-le xs {i = k} h, add-zero)

module _ {A : Type 0} (p : A → Bool) where
  pub index_yes : (x : A) (xs : List A) → p x ≡ true → index_where p (x ∷ xs) ≡ 0
  unfolding index_where
  index_yes x xs e = rw e

  pub index_no : (x : A) (xs : List A) → p x ≡ false → index_where p (x ∷ xs) ≡ suc (index_where p xs)
  unfolding index_where
  index_no x xs e = rw e

  pub index_le : (xs : List A) → index_where p xs ≤ length xs
  unfolding index_where
  index_le [] = omega arith
  index_le (x ∷ xs) = go (p x) (index_le xs)
    where
      go : (b : Bool) → index_where p xs ≤ length xs → (if b then 0 else suc (index_where p xs)) ≤ suc (length xs)
      go true h = omega arith
      go false h = suc-le-suc h

  -- from k on: not past the end, and what is found passes
  pub next_within : (xs : List A) (k : ℕ) → k ≤ length xs → next_where p xs k ≤ length xs
  next_within xs k h = omega (arith, index_le (drop k xs), length-drop k xs)
