-- Where a search from a cursor ends: no byte passed is the one looked for, that one stands at the end, and the rest begins one past it.
use Rattle.std.specs.Prelude.{if◌then◌else◌}
use mathlib.Core.Path.{◌≡◌, refl, sym, ap, ◌∙◌}
use mathlib.Core.Bool.{Bool, true, false}
use mathlib.Core.List.{[], ◌∷◌, ◌++◌}
use Prim.Native.Nat.{ℕ, suc, ◌+◌, ◌-◌, ◌<◌, ◌≤◌}
use native.Mathlib.Nat.{le_of_suc-le-suc, not-suc-le-zero}
use native.Mathlib.Omega.{arith}
use borrow.Author.Tests.{eqb-true}
use lib.Dec.{eqb}
use lib.ListN.{length, get_or, take, drop, length-drop, take-append-drop}
use lib.Seq.{drop-drop, get_or-drop, take_all, take-suc}
use Rattle.rules.specs.Base.{Bytes, all}
use Rattle.rules.specs.Damage.{free}
use Rattle.text.specs.Text.{index_of, index_where}
use Rattle.text.proofs.Loops.{left_cons}

index_free : (b : ℕ) (xs : Bytes) → free b (take (index_of b xs) xs) ≡ true
unfolding index_where all
index_free b [] = refl
index_free b (x ∷ xs) = go (eqb x b) refl (index_free b xs)
  where
    go : (c : Bool) → eqb x b ≡ c → free b (take (index_of b xs) xs) ≡ true
        → free b (take (if c then 0 else suc (index_of b xs)) (x ∷ xs)) ≡ true
    go true e h = refl
    go false e h = rw e h

index_hit : (b : ℕ) (xs : Bytes) → index_of b xs < length xs → get_or xs (index_of b xs) 0 ≡ b
unfolding index_where
index_hit b [] h = absurd (not-suc-le-zero h)
index_hit b (x ∷ xs) h = go (eqb x b) refl h (index_hit b xs)
  where
    go : (c : Bool) → eqb x b ≡ c → (if c then 0 else suc (index_of b xs)) < suc (length xs)
        → (index_of b xs < length xs → get_or xs (index_of b xs) 0 ≡ b)
        → get_or (x ∷ xs) (if c then 0 else suc (index_of b xs)) 0 ≡ b
    go true e k ih = eqb-true x b e
    go false e k ih = ih (le_of_suc-le-suc k)

-- the same end, seen from another place before the cursor
pub drop_within : (s : Bytes) (start at : ℕ) → start ≤ at → drop (at - start) (drop start s) ≡ drop at s
drop_within s start at h = let p : start + (at - start) ≡ at = omega arith in rw (drop-drop, p)

module _ (b : ℕ) (s : Bytes) (at end : ℕ) (q : end ≡ at + index_of b (drop at s)) where
  size : index_of b (drop at s) ≡ end - at
  size = omega arith

  pub found_free : free b (take (end - at) (drop at s)) ≡ true
  found_free = rw size at (index_free b (drop at s))

  found_hit : end < length s → get_or (drop at s) (end - at) 0 ≡ b
  found_hit k = rw size at (index_hit b (drop at s) (omega (arith, length-drop at s)))

  pub found_cut : end < length s → drop at s ≡ take (end - at) (drop at s) ++ b ∷ drop (end + 1) s
  found_cut k =
      let p : at + (end - at) ≡ end = omega arith in
      sym (take-append-drop (end - at) (drop at s))
      ∙ ap (λ (l : Bytes). take (end - at) (drop at s) ++ l)
      (drop_within s at end (omega arith) ∙ left_cons s end k ∙ ap (λ (x : ℕ). x ∷ drop (end + 1) s) (rw (get_or-drop, p) at (found_hit k)))

  -- what was passed with the byte that was found
  pub found_ended : end < length s → take (end + 1 - at) (drop at s) ≡ take (end - at) (drop at s) ++ b ∷ []
  found_ended k =
      let p : end + 1 - at ≡ suc (end - at) = omega arith in
      rw p (take-suc (drop at s) (end - at) 0 (omega (arith, length-drop at s)) ∙ rw (found_hit k))

  pub found_none : length s ≤ end → take (end - at) (drop at s) ≡ drop at s
  found_none k = take_all (end - at) (drop at s) (omega (arith, length-drop at s))
