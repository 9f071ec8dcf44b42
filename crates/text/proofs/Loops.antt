-- A loop over a list at a cursor: what is left at one place is the element there and what is left at the next.
use Prim.Native.Nat.{ℕ, suc, ◌+◌, ◌<◌, ◌≤◌}
use mathlib.Core.Path.{◌≡◌, refl, ap}
use mathlib.Core.Bool.{Bool, true, false, ◌&&◌, ◌||◌}
use mathlib.Core.List.{List, [], ◌∷◌}
use native.Mathlib.Numerals.{add-one}
use lib.Dec.{eqb}
use lib.ListN.{length, get_or, take, drop, drop_of_length-le, take-append-drop}
use lib.Seq.{drop-cons}
use Rattle.rules.specs.Base.{Bytes, same, all, any}
use Rattle.rules.proofs.Logic.{all_right}

pub and_false : (a : Bool) → a && false ≡ false
and_false true = refl
and_false false = refl

pub or_false : (a : Bool) → a || false ≡ a
or_false true = refl
or_false false = refl

pub and_true : (a : Bool) → a && true ≡ a
and_true true = refl
and_true false = refl

pub and_assoc : (a b c : Bool) → (a && b) && c ≡ a && (b && c)
and_assoc true b c = refl
and_assoc false b c = refl

-- the law of a cursor
pub left_cons : (s : Bytes) (i : ℕ) → i < length s → drop i s ≡ get_or s i 0 ∷ drop (i + 1) s
left_cons s i h = rw add-one (drop-cons s i 0 h)

-- a test over all or any: the element at k passes as q says, and the rest decides
module _ {A : Type 0} (p : A → Bool) (xs : List A) (d : A) (k : ℕ) (q : Bool) (h : k < length xs) (e : p (get_or xs k d) ≡ q) where
  pub all_step : all p (drop k xs) ≡ q && all p (drop (k + 1) xs)
  unfolding all
  all_step = rw (add-one, drop-cons xs k d h, e)

  pub any_step : any p (drop k xs) ≡ q || any p (drop (k + 1) xs)
  unfolding any
  any_step = rw (add-one, drop-cons xs k d h, e)

module _ {A : Type 0} (p : A → Bool) (xs : List A) (k : ℕ) (h : length xs ≤ k) where
  pub all_end : all p (drop k xs) ≡ true
  unfolding all
  all_end = rw (drop_of_length-le xs {i = k} h)

  pub any_end : any p (drop k xs) ≡ false
  unfolding any
  any_end = rw (drop_of_length-le xs {i = k} h)

-- what all pass, all of a part pass
module _ {A : Type 0} (p : A → Bool) (k : ℕ) (xs : List A) (e : all p xs ≡ true) where
  pub all_drop : all p (drop k xs) ≡ true
  all_drop = all_right p (take k xs) (drop k xs) (rw take-append-drop e)

-- byte strings of different lengths
pub same_lengths : (a b : Bytes) → (length a ≡ length b → ⊥) → same a b ≡ false
unfolding same
same_lengths [] [] h = absurd (h refl)
same_lengths [] (y ∷ ys) h = refl
same_lengths (x ∷ xs) [] h = refl
same_lengths (x ∷ xs) (y ∷ ys) h = rw (same_lengths xs ys (λ e. h (ap suc e))) (and_false (eqb x y))
