-- Numbers that spell bytes: those before the first 0, at a cursor.
use Rattle.std.specs.Prelude.{if◌then◌else◌}
use Prim.Native.Nat.{ℕ, zero, suc, ◌+◌, ◌<◌, ◌≤◌}
use mathlib.Core.Path.{◌≡◌, refl, sym, ap}
use mathlib.Core.Bool.{Bool, true, false, ◌&&◌, ◌||◌}
use mathlib.Core.List.{List, [], ◌∷◌}
use native.Mathlib.Numerals.{add-one}
use borrow.Author.Tests.{eq-eqb, ne_eqb, eqb-true, eqb-false}
use lib.Dec.{eqb}
use lib.ListN.{length, get_or, take, drop, drop_of_length-le}
use Rattle.rules.specs.Base.{Bytes, same, any, member}
use Rattle.tables.specs.Rows.{filled, ids_in}
use Rattle.text.specs.Text.{index_of, index_where}
use Rattle.text.proofs.Loops.{left_cons}

pub filled_end : (xs : List ℕ) (i : ℕ) → get_or xs i 0 ≡ 0 → filled (drop i xs) ≡ []
unfolding filled
filled_end [] zero e = refl
filled_end [] (suc i) e = refl
filled_end (x ∷ xs) zero e = rw (eq-eqb x 0 e)
filled_end (x ∷ xs) (suc i) e = filled_end xs i e

pub filled_here : (xs : List ℕ) (i : ℕ) → (get_or xs i 0 ≡ 0 → ⊥) → filled (drop i xs) ≡ get_or xs i 0 ∷ filled (drop (i + 1) xs)
unfolding filled
filled_here [] zero e = absurd (e refl)
filled_here [] (suc i) e = absurd (e refl)
filled_here (x ∷ xs) zero e = rw (ne_eqb x 0 e)
filled_here (x ∷ xs) (suc i) e = rw add-one (rw add-one at (filled_here xs i e))

-- the numbers of xs against bytes, at i
module _ (xs : List ℕ) (bytes : Bytes) (i : ℕ) where
  spell_short : i < length bytes → get_or xs i 0 ≡ 0 → same (filled (drop i xs)) (drop i bytes) ≡ false
  unfolding same
  spell_short h e = rw (filled_end xs i e, left_cons bytes i h)

  pub spell_step : (q : Bool) → i < length bytes → (get_or xs i 0 ≡ 0 → ⊥) → eqb (get_or xs i 0) (get_or bytes i 0) ≡ q
      → same (filled (drop i xs)) (drop i bytes) ≡ q && same (filled (drop (i + 1) xs)) (drop (i + 1) bytes)
  unfolding same
  spell_step q h n e = rw (filled_here xs i n, left_cons bytes i h, e)

  -- the numbers end there, or differ from the bytes
  pub spell_apart : i < length bytes → (get_or xs i 0 ≡ get_or bytes i 0 → get_or xs i 0 ≡ 0) → same (filled (drop i xs)) (drop i bytes) ≡ false
  spell_apart h f = go (eqb (get_or xs i 0) 0) refl
    where
      go : (q : Bool) → eqb (get_or xs i 0) 0 ≡ q → same (filled (drop i xs)) (drop i bytes) ≡ false
      go true e = spell_short h (eqb-true _ _ e)
      go false e = let n = eqb-false _ _ e in spell_step false h n (ne_eqb _ _ (λ q. n (f q)))

  pub spell_done : length bytes ≤ i → get_or xs i 0 ≡ 0 → same (filled (drop i xs)) (drop i bytes) ≡ true
  unfolding same
  spell_done h e = rw (filled_end xs i e, drop_of_length-le bytes {i = i} h)

  pub spell_long : length bytes ≤ i → (get_or xs i 0 ≡ 0 → ⊥) → same (filled (drop i xs)) (drop i bytes) ≡ false
  unfolding same
  spell_long h n = rw (filled_here xs i n, drop_of_length-le bytes {i = i} h)

  -- where the bytes end, the next number decides
  pub spell_end : length bytes ≤ i → same (filled (drop i xs)) (drop i bytes) ≡ eqb (get_or xs i 0) 0
  spell_end h = go (eqb (get_or xs i 0) 0) refl
    where
      go : (q : Bool) → eqb (get_or xs i 0) 0 ≡ q → same (filled (drop i xs)) (drop i bytes) ≡ q
      go true e = spell_done h (eqb-true _ _ e)
      go false e = spell_long h (eqb-false _ _ e)

-- the numbers before the first 0 are those up to its index
pub filled_take : (xs : List ℕ) → take (index_of 0 xs) xs ≡ filled xs
unfolding filled index_where
filled_take [] = refl
filled_take (x ∷ xs) = go (eqb x 0) (filled_take xs)
  where
    go : (q : Bool) → take (index_of 0 xs) xs ≡ filled xs
        → take (if q then 0 else suc (index_of 0 xs)) (x ∷ xs) ≡ (if q then [] else x ∷ filled xs)
    go true h = refl
    go false h = ap (λ (l : List ℕ). x ∷ l) h

-- an id is one of a list of them, each its numbers before the first 0
pub known_any : (id : Bytes) (rows : List (List ℕ)) → member id (ids_in rows) ≡ any (λ row. same id (filled row)) rows
unfolding any ids_in
known_any id [] = refl
known_any id (r ∷ rows) = ap (λ b. same id (filled r) || b) (known_any id rows)

eqb_swap : (x y : ℕ) → eqb x y ≡ eqb y x
eqb_swap x y = go (eqb x y) refl
  where
    go : (q : Bool) → eqb x y ≡ q → q ≡ eqb y x
    go true e = sym (eq-eqb y x (sym (eqb-true x y e)))
    go false e = sym (ne_eqb y x (λ (f : y ≡ x). eqb-false x y e (sym f)))

pub same_swap : (a b : Bytes) → same a b ≡ same b a
unfolding same
same_swap [] [] = refl
same_swap [] (y ∷ b) = refl
same_swap (x ∷ a) [] = refl
same_swap (x ∷ a) (y ∷ b) = rw (eqb_swap x y, same_swap a b)
