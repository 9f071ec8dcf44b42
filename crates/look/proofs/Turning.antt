-- Where a segment stands by a look is where it stands in the walk of a set, for an orderly table.
use Rattle.std.specs.Prelude.{if◌then◌else◌, is_some, Option, None, Some}
use mathlib.Core.Path.{◌≡◌, refl, sym, ap, ◌∙◌}
use mathlib.Core.Bool.{Bool, true, false, ◌&&◌, ◌||◌, not, true≢false, false≢true}
use mathlib.Core.List.{List, [], ◌∷◌}
use Prim.Native.Nat.{ℕ, zero, suc, ◌+◌, ◌-◌, ◌<◌, ◌≤◌}
use native.Mathlib.Nat.{le_of_suc-le-suc, not-suc-le-zero}
use native.Mathlib.Omega.{arith}
use borrow.Author.Tests.{lt-ltb, le-ltb, ltb-true, ltb-false, leb-true, leb-false}
use lib.Dec.{leb, ltb}
use lib.ListN.{length, get_or, take, drop, length-drop, length-take}
use lib.Seq.{get_or-drop, get_or-take}
use Rattle.rules.specs.Base.{Bytes, same, all, any, member}
use Rattle.rules.proofs.Logic.{and_left, and_right, or_right, same→eq, all_at}
use Rattle.text.specs.Text.{index_where, next_where}
use Rattle.text.proofs.Where.{index_yes, index_no}
use Rattle.tables.specs.Rows.{column, is_row, filled, ids_in}
use Rattle.tables.specs.Reading.{Guide, Limits, Orderly, id_in, is_entry_row, is_mandatory_row, has_known_id, ids_differ, entry_row, next_mandatory, next_due}
use Rattle.tables.proofs.Laws.{row_within}
use Rattle.findings.specs.Steps.{bumped, compared, stands, next_missing}
use Rattle.findings.specs.Turns.{Noted, Quiet, used_again, turn_by, turn_of}
use Rattle.findings.specs.declared.Present.{Present}
use Rattle.findings.specs.declared.Standing.TheVariants.{Unknown, Unlisted, Before, Again, Later}
use Rattle.findings.specs.Turns as walk
use Rattle.findings.proofs.Linked.{bumped_low}
use Rattle.look.specs.Looking.{again_at, due_at, turn_on}
use Rattle.look.specs.declared.Course.{Course}
use Rattle.look.specs.declared.Turn.{Turn}

-- 1. What a search finds passes, and nothing before it does.
module _ {A : Type 0} (p : A → Bool) (o : A) where
  index_found : (xs : List A) → index_where p xs < length xs → p (get_or xs (index_where p xs) o) ≡ true
  unfolding index_where
  index_found [] h = absurd (not-suc-le-zero h)
  index_found (x ∷ xs) h = go (p x) refl h (index_found xs)
    where
      go : (b : Bool) → p x ≡ b → (if b then 0 else suc (index_where p xs)) < suc (length xs)
          → (index_where p xs < length xs → p (get_or xs (index_where p xs) o) ≡ true)
          → p (get_or (x ∷ xs) (if b then 0 else suc (index_where p xs)) o) ≡ true
      go true e l ih = e
      go false e l ih = ih (le_of_suc-le-suc l)

  index_before : (xs : List A) (j : ℕ) → j < index_where p xs → p (get_or xs j o) ≡ false
  unfolding index_where
  index_before [] j h = absurd (not-suc-le-zero h)
  index_before (x ∷ xs) j h = go (p x) refl j h (index_before xs)
    where
      go : (b : Bool) → p x ≡ b → (j : ℕ) → j < (if b then 0 else suc (index_where p xs))
          → ((i : ℕ) → i < index_where p xs → p (get_or xs i o) ≡ false) → p (get_or (x ∷ xs) j o) ≡ false
      go true e j l ih = absurd (not-suc-le-zero l)
      go false e zero l ih = e
      go false e (suc j) l ih = ih j (le_of_suc-le-suc l)

  module _ (xs : List A) (k : ℕ) where
    next_found : next_where p xs k < length xs → p (get_or xs (next_where p xs k) o) ≡ true
    next_found h = rw get_or-drop at (index_found (drop k xs) (omega (arith, length-drop k xs)))

    next_before : (j : ℕ) → k ≤ j → j < next_where p xs k → p (get_or xs j o) ≡ false
    next_before j l h =
        let q : k + (j - k) ≡ j = omega arith in
        rw (get_or-drop, q) at (index_before (drop k xs) (j - k) (omega arith))

    next_first : (j : ℕ) → k ≤ j → p (get_or xs j o) ≡ true → next_where p xs k ≤ j
    next_first j l e = go (ltb j (next_where p xs k)) refl
      where
        go : (b : Bool) → ltb j (next_where p xs k) ≡ b → next_where p xs k ≤ j
        go true h = absurd (true≢false (sym e ∙ next_before j l (ltb-true j (next_where p xs k) h)))
        go false h = ltb-false j (next_where p xs k) h

any_at : {A : Type 0} (p : A → Bool) (xs : List A) (o : A) (k : ℕ) → k < length xs → p (get_or xs k o) ≡ true → any p xs ≡ true
unfolding any
any_at p [] o k h e = absurd (not-suc-le-zero h)
any_at p (x ∷ xs) o zero h e = rw e
any_at p (x ∷ xs) o (suc k) h e = go (p x) (any_at p xs o k (le_of_suc-le-suc h) e)
  where
    go : (b : Bool) → any p xs ≡ true → b || any p xs ≡ true
    go true ih = refl
    go false ih = ih

-- 2. The row of an id, where no two are the same.
named : (id : Bytes) (r : List ℕ) → is_entry_row id r ≡ true → filled (id_in r) ≡ id
named id r e = same→eq (filled (id_in r)) id (and_right (is_row 1 r) (same (filled (id_in r)) id) e)

entry_within : (id : Bytes) (rows : Guide) (k : ℕ) → is_entry_row id (get_or rows k []) ≡ true → k < length rows
entry_within id rows k e = row_within 1 (omega arith) rows k (and_left (is_row 1 (get_or rows k [])) _ e)

-- a row with an id is the first
only_row : (id : Bytes) (rows : Guide) (k : ℕ) → ids_differ rows ≡ true → is_entry_row id (get_or rows k []) ≡ true → index_where (is_entry_row id) rows ≡ k
unfolding ids_differ
only_row id [] zero d e = absurd (false≢true e)
only_row id [] (suc k) d e = absurd (false≢true e)
only_row id (r ∷ rows) zero d e = index_yes (is_entry_row id) r rows e
only_row id (r ∷ rows) (suc k) d e = go (is_entry_row id r) refl (only_row id rows k)
  where
    alone : Bool
    alone = not (is_row 1 r) || not (any (is_entry_row (filled (id_in r))) rows)

    go : (b : Bool) → is_entry_row id r ≡ b
        → (ids_differ rows ≡ true → is_entry_row id (get_or rows k []) ≡ true → index_where (is_entry_row id) rows ≡ k)
        → index_where (is_entry_row id) (r ∷ rows) ≡ suc k
    go true f ih =
        let first = and_left (is_row 1 r) (same (filled (id_in r)) id) f in
        absurd (false≢true (rw (first, named id r f, any_at (is_entry_row id) rows [] k (entry_within id rows k e) e) at (and_left alone (ids_differ rows) d)))
    go false f ih = index_no (is_entry_row id) r rows f ∙ ap suc (ih (and_right alone (ids_differ rows) d) e)

-- an id that a row has stands in the directory
entry_known : (ids : List (List ℕ)) (rows : Guide) (id : Bytes) (k : ℕ) → all (has_known_id ids) rows ≡ true → is_entry_row id (get_or rows k []) ≡ true
    → member id (ids_in ids) ≡ true
entry_known ids rows id k known e =
    let r = get_or rows k [] in
    let first = and_left (is_row 1 r) (same (filled (id_in r)) id) e in
    rw (first, named id r e) at (all_at (has_known_id ids) rows [] k known (entry_within id rows k e))

-- 3. One segment.
-- what the walk says where a look says this
abbrev pub meant : Option Turn → walk.Turn
meant None = Noted
meant (Some t) = Quiet t.row t.used

-- The course stands at an entry, its next row is that of the entry after it, and each use has taken a byte.
pub record Keeps (rows : Guide) (c : Course) : Type 0 where
  pub entry : is_row 1 (get_or rows c.row []) ≡ true
  pub onward : c.next ≡ next_where (is_row 1) rows (c.row + 1)
  pub few : c.used ≤ c.at

module _ (ids : List (List ℕ)) (rows : Guide) (limits : Limits rows) (orderly : Orderly ids rows) (c : Course) (keeps : Keeps rows c)
    (small : c.at < 9223372036854775808) (id : Bytes) where
  abbrev p : Present
  p = record { row = c.row; used = c.used }

  -- where a segment stands is an entry, and it is used at most once more
  abbrev Stays : Option Turn → Type 0
  Stays None = Unit {0}
  Stays (Some t) = (is_row 1 (get_or rows t.row []) ≡ true) × (t.used ≤ c.used + 1)

  -- the walk says the same
  abbrev pub Agrees : Option Turn → Type 0
  Agrees t = (turn_of ids rows p id ≡ meant t) × Stays t

  within : c.row < length rows
  within = row_within 1 (omega arith) rows c.row keeps.entry

  bumped_row : bumped c.row ≡ c.row + 1
  bumped_row = bumped_low c.row (omega (arith, within, limits.few))

  -- a row with the id is the only one
  stands_at : (k : ℕ) → is_entry_row id (get_or rows k []) ≡ true → stands ids rows c.row id ≡ compared c.row k
  unfolding stands entry_row
  stands_at k e =
      let q : entry_row rows id ≡ k = omega (arith, only_row id rows k orderly.differ e) in
      rw (entry_known ids rows id k orderly.known e, q, lt-ltb k (length rows) (entry_within id rows k e))

  at_present : is_entry_row id (get_or rows c.row []) ≡ true → Agrees (again_at rows c)
  unfolding turn_of
  at_present e = rw (stands_at c.row e, le-ltb c.row c.row (omega arith), bumped_low c.used (omega (arith, keeps.few))) (go (leb most c.used) refl)
    where
      most : ℕ
      most = column (get_or rows c.row []) 5

      go : (b : Bool) → leb most c.used ≡ b
          → (used_again rows c.row (c.used + 1) ≡ meant (if b then None else Some (record { row = c.row; used = c.used + 1 })))
          × Stays (if b then None else Some (record { row = c.row; used = c.used + 1 }))
      go true h = (rw (lt-ltb most (c.used + 1) (omega (arith, leb-true most c.used h))), tt)
      go false h = (rw (le-ltb most (c.used + 1) (omega (arith, leb-false most c.used h))), (keeps.entry, omega arith))

  -- the search for the row that is due
  abbrev stops : List ℕ → Bool
  stops r = is_entry_row id r || is_mandatory_row r

  abbrev m : ℕ
  m = next_where stops rows c.next

  -- a segment below the present one is not before the next
  not_before : (k : ℕ) → c.row < k → is_row 1 (get_or rows k []) ≡ true → c.next ≤ k
  not_before k l e = rw keeps.onward (next_first (is_row 1) [] rows (c.row + 1) k (omega arith) e)

  -- where the search stops at the id, no mandatory segment is passed over; where it does not, one is
  none_missing : is_entry_row id (get_or rows m []) ≡ true → next_missing rows (c.row + 1) m ≡ None
  unfolding next_missing next_mandatory
  none_missing e = go (ltb q m) refl
    where
      q : ℕ
      q = next_where is_mandatory_row (take m rows) (c.row + 1)

      go : (b : Bool) → ltb q m ≡ b → (if b && ltb q (length rows) then Some q else None) ≡ None
      go false h = refl
      go true h =
          let low = ltb-true q m h in
          let short = entry_within id rows m e in
          let found = next_found is_mandatory_row [] (take m rows) (c.row + 1) (omega (arith, length-take m rows)) in
          let mandatory = rw (get_or-take m rows q [] low) at found in
          let late = not_before q (omega arith) (and_left (is_row 1 (get_or rows q [])) _ mandatory) in
          let passed = or_right (is_entry_row id (get_or rows q [])) (is_mandatory_row (get_or rows q [])) (next_before stops [] rows c.next q late low) in
          absurd (true≢false (sym mandatory ∙ passed))

  one_missing : is_entry_row id (get_or rows m []) ≡ false → (k : ℕ) → c.row < k → is_entry_row id (get_or rows k []) ≡ true
      → is_some (next_missing rows (c.row + 1) k) ≡ true
  unfolding next_missing next_mandatory
  one_missing other k l e =
      let short = entry_within id rows k e in
      let late = not_before k l (and_left (is_row 1 (get_or rows k [])) _ e) in
      let first = next_first stops [] rows c.next k late (rw e) in
      let apart : m ≡ k → ⊥ = λ (z : m ≡ k). true≢false (sym e ∙ (rw z at other)) in
      let low : m < k = omega arith in
      let mandatory = rw other at (next_found stops [] rows c.next (omega arith)) in
      let q = next_first is_mandatory_row [] (take k rows) (c.row + 1) m (omega (arith, keeps.onward)) (rw (get_or-take k rows m [] low) mandatory) in
      let n = next_where is_mandatory_row (take k rows) (c.row + 1) in
      rw (lt-ltb n k (omega arith), lt-ltb n (length rows) (omega arith))

  none_due : is_entry_row id (get_or rows c.row []) ≡ false → is_entry_row id (get_or rows m []) ≡ false → turn_of ids rows p id ≡ Noted
  unfolding turn_of stands entry_row
  none_due other f = go (member id (ids_in ids)) (ltb k (length rows)) refl (ltb k c.row) refl (ltb c.row k) refl
    where
      k : ℕ
      k = next_where (is_entry_row id) rows 0

      go : (a b : Bool) → ltb k (length rows) ≡ b → (x : Bool) → ltb k c.row ≡ x → (y : Bool) → ltb c.row k ≡ y
          → turn_by ids rows p (if a then (if b then (if x then Before k else (if y then Later k else Again)) else Unlisted) else Unknown) ≡ Noted
      go false b g x u y v = refl
      go true false g x u y v = refl
      go true true g true u y v = refl
      go true true g false u true v =
          rw (bumped_row, one_missing f k (ltb-true c.row k v) (next_found (is_entry_row id) [] rows 0 (ltb-true k (length rows) g)))
      go true true g false u false v =
          let z : k ≡ c.row = omega (arith, ltb-false k c.row u, ltb-false c.row k v) in
          absurd (true≢false (sym (rw z at (next_found (is_entry_row id) [] rows 0 (ltb-true k (length rows) g))) ∙ other))

  at_due : is_entry_row id (get_or rows m []) ≡ true → Agrees (Some (record { row = m; used = 1 }))
  unfolding turn_of
  at_due f =
      let below : c.row < m = omega (arith, keeps.onward) in (
        rw (stands_at m f, le-ltb m c.row (omega arith), lt-ltb c.row m below, bumped_row, none_missing f),
        (and_left (is_row 1 (get_or rows m [])) _ f, omega arith),
      )

  not_due : is_entry_row id (get_or rows m []) ≡ false → Agrees (due_at rows c id None)
  not_due f = go (is_entry_row id (get_or rows c.row [])) refl
    where
      go : (b : Bool) → is_entry_row id (get_or rows c.row []) ≡ b → Agrees (if b then again_at rows c else None)
      go true e = at_present e
      go false e = (none_due e f, tt)

  -- Where a segment with this id stands by a look is where the walk has it.
  pub turn_agrees : Agrees (turn_on rows c id)
  unfolding turn_on next_due
  turn_agrees = go (is_entry_row id (get_or rows m [])) refl
    where
      go : (b : Bool) → is_entry_row id (get_or rows m []) ≡ b → Agrees (due_at rows c id (if b then Some m else None))
      go true f = at_due f
      go false f = not_due f
