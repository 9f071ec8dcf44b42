-- Whether bytes are distinct.
use Prim.Native.Nat.{ℕ, ◌+◌, ◌<◌, ◌≤◌}
use mathlib.Core.Path.{◌≡◌, refl, sym}
use mathlib.Core.Bool.{Bool, true, false, or-true}
use mathlib.Core.List.{[], ◌∷◌}
use native.Mathlib.Omega.{arith}
use borrow.Author.Tests.{eq-eqb, ne_eqb, eqb-true, eqb-false}
use lib.Dec.{eqb}
use lib.ListN.{length, get_or, drop, length-drop, drop_of_length-le}
use Rattle.rules.specs.Base.{Bytes, any}
use Rattle.rules.specs.Refusals.{distinct}
use Rattle.text.specs.Text.{index_of, index_where}
use Rattle.text.proofs.Loops.{left_cons}

-- a byte is one of those where the search for it ends among them
found : (b : ℕ) (xs : Bytes) → index_of b xs < length xs → any (eqb b) xs ≡ true
unfolding index_where any
found b [] h = absurd (omega arith)
found b (x ∷ xs) h = go (eqb x b) refl (found b xs)
  where
    go : (q : Bool) → eqb x b ≡ q → (index_of b xs < length xs → any (eqb b) xs ≡ true) → any (eqb b) (x ∷ xs) ≡ true
    go true e rest = rw (eq-eqb b x (sym (eqb-true x b e)))
    go false e rest = rw (rest (let l = rw e at h in omega arith)) (or-true (eqb b x))

missed : (b : ℕ) (xs : Bytes) → length xs ≤ index_of b xs → any (eqb b) xs ≡ false
unfolding index_where any
missed b [] h = refl
missed b (x ∷ xs) h = go (eqb x b) refl (missed b xs)
  where
    go : (q : Bool) → eqb x b ≡ q → (length xs ≤ index_of b xs → any (eqb b) xs ≡ false) → any (eqb b) (x ∷ xs) ≡ false
    go true e rest = absurd (let l = rw e at h in omega arith)
    go false e rest = rw (ne_eqb b x (λ p. eqb-false x b e (sym p)), rest (let l = rw e at h in omega arith))

-- one turn over bytes that are to be distinct: the byte at k is searched for after k
module _ (s : Bytes) (k r : ℕ) (h : k < length s) (q : r ≡ k + 1 + index_of (get_or s k 0) (drop (k + 1) s)) where
  pub distinct_not : r < length s → distinct (drop k s) ≡ false
  unfolding distinct
  distinct_not l = rw (left_cons s k h, found (get_or s k 0) (drop (k + 1) s) (simp length-drop (omega arith)))

  pub distinct_step : length s ≤ r → distinct (drop k s) ≡ distinct (drop (k + 1) s)
  unfolding distinct
  distinct_step l = rw (left_cons s k h, missed (get_or s k 0) (drop (k + 1) s) (simp length-drop (omega arith)))

pub distinct_end : (s : Bytes) (k : ℕ) → length s ≤ k → distinct (drop k s) ≡ true
unfolding distinct
distinct_end s k h = rw (drop_of_length-le s {i = k} h)
