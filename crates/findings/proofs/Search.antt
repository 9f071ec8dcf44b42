-- The entries that are missing among rows.
use Rattle.std.specs.Prelude.{if◌then◌else◌, Option, Some, None}
use mathlib.Core.Path.{◌≡◌, refl}
use mathlib.Core.Bool.{Bool, true, false, ◌&&◌, true≢false}
use mathlib.Core.List.{List, [], ◌∷◌}
use Prim.Native.Nat.{ℕ, zero, suc, ◌+◌, ◌-◌, ◌<◌, ◌≤◌, min}
use native.Mathlib.Nat.{le_of_suc-le-suc, not-suc-le-zero}
use native.Mathlib.Omega.{arith}
use borrow.Author.Tests.{lt-ltb, ltb-true, ltb-false}
use lib.Dec.{ltb}
use lib.ListN.{length, get_or, drop, length-drop, length-take}
use lib.Seq.{slice, drop-drop, get_or-drop, get_or-take}
use Rattle.rules.proofs.Logic.{and_left, and_right}
use Rattle.text.specs.Text.{index_where}
use Rattle.tables.specs.Reading.{Guide, next_mandatory, is_mandatory_row, id_at, id_bytes}
use Rattle.findings.specs.Events.{Event, Line}
use Rattle.findings.specs.Steps.{next_missing}
use Rattle.findings.specs.Remaining.{missing_in}

-- The mandatory rows of a list, one by one.
-- what is told of the next one; then those after it
abbrev pub missed_by : ℕ → Guide → ℕ → Option ℕ → List Event
missed_by n rows e (Some m) = Line (id_bytes (id_at rows m)) n (3 ∷ []) ∷ missing_in n (slice (m + 1) e rows)
missed_by n rows e None = []

module _ (n : ℕ) where
  -- what is told of a row that is missing
  abbrev absent : List ℕ → Event
  absent r = Line (id_bytes (id_at (r ∷ []) 0)) n (3 ∷ [])

  miss_end : (xs : Guide) → length xs ≤ index_where is_mandatory_row xs → missing_in n xs ≡ []
  unfolding missing_in index_where
  miss_end [] h = refl
  miss_end (x ∷ xs) h = go (is_mandatory_row x) h (miss_end xs)
    where
      go : (b : Bool) → suc (length xs) ≤ (if b then 0 else suc (index_where is_mandatory_row xs))
          → (length xs ≤ index_where is_mandatory_row xs → missing_in n xs ≡ [])
          → (if b then absent x ∷ missing_in n xs else missing_in n xs) ≡ []
      go true k ih = absurd (not-suc-le-zero k)
      go false k ih = ih (le_of_suc-le-suc k)

  miss_step : (xs : Guide) (i : ℕ) → i ≡ index_where is_mandatory_row xs → i < length xs
      → missing_in n xs ≡ absent (get_or xs i []) ∷ missing_in n (drop (suc i) xs)
  unfolding missing_in index_where
  miss_step [] i e h = absurd (not-suc-le-zero h)
  miss_step (x ∷ xs) i e h = go (is_mandatory_row x) i e h (miss_step xs)
    where
      go : (b : Bool) (i : ℕ) → i ≡ (if b then 0 else suc (index_where is_mandatory_row xs)) → i < suc (length xs)
          → ((j : ℕ) → j ≡ index_where is_mandatory_row xs → j < length xs → missing_in n xs ≡ absent (get_or xs j []) ∷ missing_in n (drop (suc j) xs))
          → (if b then absent x ∷ missing_in n xs else missing_in n xs) ≡ absent (get_or (x ∷ xs) i []) ∷ missing_in n (drop i xs)
      go true zero q k ih = refl
      go true (suc i) q k ih = absurd (omega arith)
      go false zero q k ih = absurd (omega arith)
      go false (suc i) q k ih = ih i (omega arith) (le_of_suc-le-suc k)

  -- the same from row k up to row e
  module _ (rows : Guide) (k e : ℕ) where
    -- the next one and its place among them
    abbrev m : ℕ
    m = next_mandatory rows k e

    abbrev i : ℕ
    i = index_where is_mandatory_row (slice k e rows)

    at : m ≡ k + i
    unfolding next_mandatory
    at = refl

    size : length (slice k e rows) ≡ min e (length rows) - k
    size = rw (length-drop, length-take)

    none : ltb m e && ltb m (length rows) ≡ false → missing_in n (slice k e rows) ≡ []
    none h = go (ltb i (length (slice k e rows))) refl
      where
        go : (b : Bool) → ltb i (length (slice k e rows)) ≡ b → missing_in n (slice k e rows) ≡ []
        go true l =
            let j = ltb-true i (length (slice k e rows)) l in
            let low : m < e = omega (arith, at, size) in
            let some : m < length rows = omega (arith, at, size) in
            absurd (true≢false (rw (lt-ltb m e low, lt-ltb m (length rows) some) at h))
        go false l = miss_end (slice k e rows) (ltb-false i (length (slice k e rows)) l)

    next : ltb m e && ltb m (length rows) ≡ true → missing_in n (slice k e rows) ≡ missed_by n rows e (Some m)
    unfolding id_at
    next h =
        let low = ltb-true m e (and_left (ltb m e) (ltb m (length rows)) h) in
        let some = ltb-true m (length rows) (and_right (ltb m e) (ltb m (length rows)) h) in
        let q : k + suc i ≡ m + 1 = omega (arith, at) in
        let r = miss_step (slice k e rows) i refl (omega (arith, at, size)) in
        let u = rw (drop-drop, q, get_or-drop, ← at) at r in
        rw get_or-take at u

    pub miss_law : missing_in n (slice k e rows) ≡ missed_by n rows e (next_missing rows k e)
    unfolding next_missing
    miss_law = go (ltb m e && ltb m (length rows)) refl
      where
        go : (b : Bool) → ltb m e && ltb m (length rows) ≡ b
            → missing_in n (slice k e rows) ≡ missed_by n rows e (if b then Some m else None)
        go true h = next h
        go false h = none h

-- what is missing is a row of the guide
pub missing_in_lem : (rows : Guide) (k e : ℕ) {m : ℕ} → next_missing rows k e ≡ Some m → m < length rows
unfolding next_missing
missing_in_lem rows k e {m} h = go (ltb next e) (ltb next (length rows)) refl h
  where
    next : ℕ
    next = next_mandatory rows k e

    go : (a b : Bool) → ltb next (length rows) ≡ b → (if a && b then Some next else None) ≡ Some m → m < length rows
    go true true l q = let r : next ≡ m = cc in omega (arith, ltb-true next (length rows) l)
    go true false l q = let z : ◌≡◌ {A = ℕ} 0 1 = cc in absurd (omega arith)
    go false b l q = let z : ◌≡◌ {A = ℕ} 0 1 = cc in absurd (omega arith)
