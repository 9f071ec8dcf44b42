-- The table of valid bytes: how it grows, and that it says of every byte whether it is valid.
use Prim.Native.Nat.{ℕ, zero, suc, ◌+◌, ◌<◌, ◌≤◌}
use mathlib.Core.Path.{◌≡◌, refl, sym, ◌∙◌}
use mathlib.Core.Bool.{Bool, true, false}
use mathlib.Core.List.{[], ◌∷◌, ◌++◌}
use native.Mathlib.Nat.{zero-add, le_of_suc-le-suc, not-suc-le-zero}
use native.Mathlib.Omega.{arith}
use borrow.Author.Tests.{ltb-true, ltb-false, lt-leb}
use lib.Dec.{leb, ltb}
use lib.ListN.{get_or, get_or-eq_default}
use Rattle.rules.specs.Cutting.{valid}
use Rattle.rules.specs.declared.Delimiters.{Delimiters}
use Rattle.text.proofs.Loops.{and_false}
use Rattle.look.specs.Bytes.{answers_from, valid_bytes}

module _ (d : Delimiters) where
  -- one answer more
  pub answers_more : (b count : ℕ) → answers_from d b (suc count) ≡ answers_from d b count ++ valid d (b + count) ∷ []
  unfolding answers_from
  answers_more b zero = let e : b + 0 ≡ b = omega arith in rw e
  answers_more b (suc count) =
      let e : suc b + count ≡ b + suc count = omega arith in
      rw (answers_more (suc b) count, e)

  answers_at : (b count i : ℕ) → i < count → get_or (answers_from d b count) i false ≡ valid d (b + i)
  unfolding answers_from
  answers_at b zero i h = absurd (not-suc-le-zero h)
  answers_at b (suc count) zero h = let e : b + 0 ≡ b = omega arith in rw e
  answers_at b (suc count) (suc i) h =
      let e : suc b + i ≡ b + suc i = omega arith in
      answers_at (suc b) count i (le_of_suc-le-suc h) ∙ rw e

  answers_past : (b count i : ℕ) → count ≤ i → get_or (answers_from d b count) i false ≡ false
  unfolding answers_from
  answers_past b zero i h = get_or-eq_default [] false {n = i} (omega arith)
  answers_past b (suc count) zero h = absurd (not-suc-le-zero h)
  answers_past b (suc count) (suc i) h = answers_past (suc b) count i (le_of_suc-le-suc h)

  -- no number above 126 is a valid byte
  beyond : (b : ℕ) → 126 < b → valid d b ≡ false
  unfolding valid
  beyond b h = rw (lt-leb b 126 h, and_false (leb 32 b))

  -- the table says of every byte whether it is valid, and of what is no byte that it is not
  pub table_valid : (b : ℕ) → get_or (valid_bytes d) b false ≡ valid d b
  table_valid b = go (ltb b 256) refl
    where
      go : (c : Bool) → ltb b 256 ≡ c → get_or (valid_bytes d) b false ≡ valid d b
      go true e = rw zero-add at (answers_at 0 256 b (ltb-true b 256 e))
      go false e = let h = ltb-false b 256 e in answers_past 0 256 b h ∙ sym (beyond b (omega arith))
