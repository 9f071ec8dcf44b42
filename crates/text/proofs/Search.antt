-- The search for a byte: one turn of it, and where it ends.
use Prim.Native.Nat.{ℕ, ◌+◌, ◌<◌, ◌≤◌}
use mathlib.Core.Path.{◌≡◌, sym, ap, ◌∙◌}
use mathlib.Core.Bool.{false}
use mathlib.Core.List.{[], ◌∷◌, ◌++◌}
use native.Mathlib.Omega.{arith}
use borrow.Author.Tests.{eq-eqb, ne_eqb}
use lib.Dec.{eqb}
use lib.ListN.{length, get_or, take, drop, length-drop, take-append-drop}
use lib.Seq.{drop-drop, length-take-le}
use Rattle.std.specs.List.{list_any}
use Rattle.rules.specs.Base.{Bytes}
use Rattle.rules.proofs.Logic.{or_left, or_right}
use Rattle.text.specs.Text.{index_of, index_where}
use Rattle.text.proofs.Where.{next_here, next_later, next_none, next_within}

module _ (b : ℕ) (s : Bytes) (i : ℕ) where
  pub index_here : i < length s → get_or s i 0 ≡ b → i + index_of b (drop i s) ≡ i
  index_here h e = next_here (λ x. eqb x b) s 0 i h (eq-eqb (get_or s i 0) b e)

  pub index_later : i < length s → (get_or s i 0 ≡ b → ⊥) → i + index_of b (drop i s) ≡ i + 1 + index_of b (drop (i + 1) s)
  index_later h e = next_later (λ x. eqb x b) s 0 i h (ne_eqb (get_or s i 0) b e)

  pub index_none : length s ≤ i → i + index_of b (drop i s) ≡ i
  index_none h = next_none (λ x. eqb x b) s 0 i h

-- bytes without a b are passed over
pub index_over : (b : ℕ) (xs ys : Bytes) → list_any (λ x. eqb x b) xs ≡ false → index_of b (xs ++ ys) ≡ length xs + index_of b ys
unfolding index_where
index_over b [] ys e = omega arith
index_over b (x ∷ xs) ys e =
    let o = or_left (eqb x b) (list_any (λ y. eqb y b) xs) e in
    let r = index_over b xs ys (or_right (eqb x b) (list_any (λ y. eqb y b) xs) e) in
    rw (o, r) (omega arith)

pub index_past : (b : ℕ) (s : Bytes) (i n : ℕ) → i + n ≤ length s → list_any (λ x. eqb x b) (take n (drop i s)) ≡ false
    → i + index_of b (drop i s) ≡ i + n + index_of b (drop (i + n) s)
index_past b s i n h e =
    let l = length-take-le n (drop i s) (omega (arith, length-drop i s)) in
    let r : index_of b (drop i s) ≡ n + index_of b (drop (i + n) s) =
    sym (ap (index_of b) (take-append-drop n (drop i s))) ∙ index_over b (take n (drop i s)) (drop n (drop i s)) e ∙ rw (l, drop-drop n i s) in
    omega arith

pub find_le : (b : ℕ) (s : Bytes) (i : ℕ) → i ≤ length s → i + index_of b (drop i s) ≤ length s
find_le b s i h = next_within (λ x. eqb x b) s i h

-- the same from what `find` ensures and what a loop's test says
pub find_end : (b : ℕ) (s : Bytes) (i r : ℕ) → r ≡ i + index_of b (drop i s) → i < length s → r ≤ length s
find_end b s i r q h = omega (arith, find_le b s i (omega arith))
