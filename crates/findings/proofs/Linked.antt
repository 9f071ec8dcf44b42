-- What a walk from the start has to tell is the notes of document 01.
use Rattle.std.specs.Prelude.{if◌then◌else◌, Option, None, Some}
use mathlib.Core.Path.{◌≡◌, refl, sym, ap, ◌∙◌}
use mathlib.Core.Bool.{Bool, true, false, ◌&&◌, ◌||◌, not}
use mathlib.Core.List.{List, [], ◌∷◌, ◌++◌, map, append-nil, append_assoc}
use Prim.Native.Nat.{ℕ, zero, suc, ◌+◌, ◌-◌, ◌<◌, ◌≤◌}
use native.Mathlib.Nat.{le_of_suc-le-suc, not-suc-le-zero, add-zero, zero-add}
use native.Mathlib.Numerals.{add-one}
use native.Mathlib.Omega.{arith}
use borrow.Author.Tests.{lt-ltb, le-ltb, ltb-true, ltb-false, eq-eqb, ne_eqb}
use lib.Dec.{ltb, eqb}
use lib.ListN.{length, take, drop, get_or, length-map}
use lib.Seq.{slice, slice_empty, take-nil, drop-cons, get_or-drop}
use Rattle.rules.specs.Base.{Bytes, ascii, null, all, same, member, keep, every, ◌⇒◌}
use Rattle.rules.specs.Codes.{segment_number}
use Rattle.rules.specs.Cutting.{Segment, field, cut_at, pieces, segments}
use Rattle.rules.specs.Tables.{Entry, Table}
use Rattle.tables.specs.Rows.{column, is_row, filled, entry_is, entries_in, ids_in, table_of}
use Rattle.rules.specs.Elements.{Finding, findings}
use Rattle.rules.specs.Segments.{Note, index_from, standing, findings_by, missing, echoed, noted, segment_note, walk, notes_of}
use Rattle.rules.specs.Segments as law
use Rattle.rules.specs.declared.Delimiters.{Delimiters}
use Rattle.rules.specs.declared.SegmentCode.{SegmentCode}
use Rattle.rules.specs.declared.SegmentCode.TheVariants as code
use Rattle.rules.proofs.Logic.{all_head, all_tail}
use Rattle.text.proofs.Loops.{all_drop}
use Rattle.text.specs.Text.{index_where}
use Rattle.tables.specs.Reading.{Guide, Limits, is_byte, entry_at, entry_row, id_in, is_entry_row, id_at, id_bytes, ids_are_bytes}
use Rattle.tables.proofs.Laws as reading
use Rattle.findings.specs.Events.{Event, Line, Element, flat}
use Rattle.findings.specs.Steps.{bumped, start, compared, stands, outcome, own_of, check_of, present_of, passing_of}
use Rattle.findings.specs.Remaining.{events, missing_in, lined, checked, segment_events, trailer_slots, walk_slots, set_slots, remaining}
use Rattle.findings.specs.declared.Present.{Present}
use Rattle.findings.specs.declared.Standing.{Standing}
use Rattle.findings.specs.declared.Standing.TheVariants.{Unknown, Unlisted, Before, Again, Later}

-- below the half of what 64 bits hold; and below the last of them
abbrev pub Small : ℕ → Type 0
Small n = n < 9223372036854775808

abbrev Fits : ℕ → Type 0
Fits n = n < 18446744073709551615

-- one more, where 64 bits hold it
pub bumped_low : (n : ℕ) → Fits n → bumped n ≡ n + 1
bumped_low n h = rw (lt-ltb n 18446744073709551615 h)

pub flat_append : (a b : List Note) → flat (a ++ b) ≡ flat a ++ flat b
unfolding flat
flat_append [] b = refl
flat_append (n ∷ a) b =
    ap (λ (l : List Event). Line n.id n.position n.codes ∷ l)
    (ap (λ (l : List Event). map Element n.findings ++ l) (flat_append a b)
    ∙ sym (append_assoc (map Element n.findings) (flat a) (flat b)))

-- 1. The entries that are passed over.
-- a segment row has an id of bytes
abbrev has_byte_id : List ℕ → Bool
has_byte_id r = not (is_row 1 r) || all is_byte (id_in r)

id_bytes_lem : (r : List ℕ) → is_row 1 r ≡ true → has_byte_id r ≡ true → id_bytes (id_at (r ∷ []) 0) ≡ filled (id_in r)
unfolding ids_are_bytes all
id_bytes_lem r e h = reading.id_bytes_lem (r ∷ []) 0 (rw h) e

slice_take : {A : Type 0} (k i e : ℕ) (xs : List A) → e ≡ k + i → slice k e xs ≡ take i (drop k xs)
slice_take zero i e xs h = let q : e ≡ i = omega arith in rw q
slice_take (suc k) i zero xs h = absurd (omega arith)
slice_take (suc k) i (suc e) [] h = sym (take-nil i)
slice_take (suc k) i (suc e) (x ∷ xs) h = slice_take k i e xs (omega arith)

-- the index of the entry that row k is: the number of segments before it
unfoldable index_at : ℕ → Guide → ℕ
index_at zero xs = 0
index_at (suc k) [] = 0
index_at (suc k) (x ∷ xs) = let r = index_at k xs in if is_row 1 x then suc r else r

-- the entries from row k on are those from its index on
entries_drop : (k : ℕ) (xs : Guide) → entries_in (drop k xs) ≡ drop (index_at k xs) (entries_in xs)
unfolding index_at entries_in
entries_drop zero xs = refl
entries_drop (suc k) [] = refl
entries_drop (suc k) (x ∷ xs) = go (is_row 1 x) (entries_drop k xs)
  where
    go : (b : Bool) → entries_in (drop k xs) ≡ drop (index_at k xs) (entries_in xs)
        → entries_in (drop k xs)
        ≡ drop (if b then suc (index_at k xs) else index_at k xs) (if b then entry_is x xs ∷ entries_in xs else entries_in xs)
    go true ih = ih
    go false ih = ih

-- in two parts
index_add : (k i e : ℕ) (xs : Guide) → e ≡ k + i → index_at e xs ≡ index_at k xs + index_at i (drop k xs)
unfolding index_at
index_add zero i e xs h = let q : e ≡ i = omega arith in rw q (omega arith)
index_add (suc k) i zero xs h = absurd (omega arith)
index_add (suc k) zero (suc e) [] h = refl
index_add (suc k) (suc i) (suc e) [] h = refl
index_add (suc k) i (suc e) (x ∷ xs) h = go (is_row 1 x) (index_add k i e xs (omega arith))
  where
    go : (b : Bool) → index_at e xs ≡ index_at k xs + index_at i (drop k xs)
        → (if b then suc (index_at e xs) else index_at e xs) ≡ (if b then suc (index_at k xs) else index_at k xs) + index_at i (drop k xs)
    go true ih = omega arith
    go false ih = ih

-- a segment's row is an entry, and counts
module _ (rows : Guide) (k : ℕ) (e : is_row 1 (get_or rows k []) ≡ true) where
  row_in : k < length rows
  row_in = reading.row_within 1 (omega arith) rows k e

  here : drop k rows ≡ get_or rows k [] ∷ drop (k + 1) rows
  here = rw add-one (drop-cons rows k [] row_in)

  entry_here : (ids : List (List ℕ)) → law.entry_at (table_of ids rows) (index_at k rows) ≡ entry_at rows k
  unfolding table_of entries_in
  entry_here ids =
      let r = get_or-drop (index_at k rows) (entries_in rows) 0 law.no_entry in
      rw (add-zero, ← entries_drop k rows, here, e) at (sym r)

  index_next : index_at (k + 1) rows ≡ index_at k rows + 1
  unfolding index_at
  index_next = index_add k 1 (k + 1) rows refl ∙ rw (here, e)

  index_less : (j : ℕ) → k < j → index_at k rows < index_at j rows
  index_less j h =
      let q = index_add (k + 1) (j - (k + 1)) j rows (omega arith) in
      omega (arith, index_next)

module _ (n : ℕ) where
  missing_law : (i : ℕ) (xs : Guide) → all has_byte_id xs ≡ true
      → missing_in n (take i xs) ≡ flat (missing n (take (index_at i xs) (entries_in xs)))
  unfolding missing_in index_at flat missing keep entries_in
  missing_law zero xs h = refl
  missing_law (suc i) [] h = refl
  missing_law (suc i) (x ∷ xs) h =
      go (is_row 1 x) refl (eqb (column x 4) 1) refl (missing_law i xs (all_tail has_byte_id x xs h))
    where
      go : (b : Bool) → is_row 1 x ≡ b → (m : Bool) → eqb (column x 4) 1 ≡ m
          → missing_in n (take i xs) ≡ flat (missing n (take (index_at i xs) (entries_in xs)))
          → missing_in n (take (suc i) (x ∷ xs)) ≡ flat (missing n (take (index_at (suc i) (x ∷ xs)) (entries_in (x ∷ xs))))
      go false e m g ih = rw e ih
      go true e true g ih =
          rw (e, g, id_bytes_lem x e (all_head has_byte_id x xs h)) (ap (λ (l : List Event). Line (filled (id_in x)) n (3 ∷ []) ∷ l) ih)
      go true e false g ih = rw (e, g) ih

  -- from row k up to row e
  passed_law : (rows : Guide) (k e : ℕ) → k ≤ e → all has_byte_id rows ≡ true
      → missing_in n (slice k e rows) ≡ flat (missing n (slice (index_at k rows) (index_at e rows) (entries_in rows)))
  passed_law rows k e h b =
      rw (
        slice_take k (e - k) e rows (omega arith),
        slice_take (index_at k rows) (index_at (e - k) (drop k rows)) (index_at e rows) (entries_in rows) (index_add k (e - k) e rows (omega arith)),
        ← entries_drop k rows,
      )
      (missing_law (e - k) (drop k rows) (all_drop has_byte_id k rows b))

-- 2. The entry with an id.
module _ (id : Bytes) where
  index_none : (xs : Guide) (m : ℕ) → length xs ≤ index_where (is_entry_row id) xs → index_from m id (entries_in xs) ≡ None
  unfolding index_where index_from entries_in
  index_none [] m h = refl
  index_none (x ∷ xs) m h = go (is_row 1 x) (same (filled (id_in x)) id) refl h (index_none xs)
    where
      go : (b c : Bool) → same (filled (id_in x)) id ≡ c → suc (length xs) ≤ (if b && c then 0 else suc (index_where (is_entry_row id) xs))
          → ((j : ℕ) → length xs ≤ index_where (is_entry_row id) xs → index_from j id (entries_in xs) ≡ None)
          → index_from m id (if b then entry_is x xs ∷ entries_in xs else entries_in xs) ≡ None
      go false c f k ih = ih m (le_of_suc-le-suc k)
      go true true f k ih = absurd (not-suc-le-zero k)
      go true false f k ih = rw f (ih (m + 1) (le_of_suc-le-suc k))

  abbrev Found : Guide → ℕ → ℕ → Type 0
  Found xs m i = (index_from m id (entries_in xs) ≡ Some (m + index_at i xs)) × (is_row 1 (get_or xs i []) ≡ true)

  index_some : (xs : Guide) (m i : ℕ) → i ≡ index_where (is_entry_row id) xs → i < length xs → Found xs m i
  unfolding index_where index_from entries_in index_at
  index_some [] m i e h = absurd (not-suc-le-zero h)
  index_some (x ∷ xs) m i e h = go (is_row 1 x) refl (same (filled (id_in x)) id) refl i e h (index_some xs)
    where
      go : (b : Bool) → is_row 1 x ≡ b → (c : Bool) → same (filled (id_in x)) id ≡ c → (i : ℕ)
          → i ≡ (if b && c then 0 else suc (index_where (is_entry_row id) xs)) → i < suc (length xs)
          → ((n j : ℕ) → j ≡ index_where (is_entry_row id) xs → j < length xs → Found xs n j)
          → (index_from m id (if b then entry_is x xs ∷ entries_in xs else entries_in xs) ≡ Some (m + index_at i (x ∷ xs)))
          × (is_row 1 (get_or (x ∷ xs) i []) ≡ true)
      go false z c f zero q k ih = absurd (omega arith)
      go false z c f (suc i) q k ih = rw z (ih m i (omega arith) (le_of_suc-le-suc k))
      go true z true f zero q k ih = (rw (f, add-zero), z)
      go true z true f (suc i) q k ih = absurd (omega arith)
      go true z false f zero q k ih = absurd (omega arith)
      go true z false f (suc i) q k ih =
          let r = ih (m + 1) i (omega arith) (le_of_suc-le-suc k) in
          let l : m + 1 + index_at i xs ≡ m + suc (index_at i xs) = omega arith in
          (rw (f, z, ← l) r.0, r.1)

-- 3. The note of a segment.
note_law : (id : Bytes) (n own : ℕ) (p : Bool) (fs : List Finding)
    → lined id n (every ((p ⇒ own) ∷ (not (null fs) ⇒ 8) ∷ [])) ++ map Element fs
    ≡ flat (noted id n (every ((p ⇒ own) ∷ (not (null fs) ⇒ 8) ∷ [])) fs)
unfolding flat every
note_law id n own true [] = refl
note_law id n own false [] = refl
note_law id n own true (f ∷ fs) = rw append-nil
note_law id n own false (f ∷ fs) = rw append-nil

segment_law : (d : Delimiters) (rows : Guide) (own : Option SegmentCode) (check n : ℕ) (s : Segment)
    → segment_events d rows own check n s ≡ flat (segment_note n (segment_number own) (field s 0) (checked d rows own check s))
unfolding segment_events segment_note
segment_law d rows own check n s = note_law (echoed (field s 0)) n (segment_number own) (not (eqb (segment_number own) 0)) (checked d rows own check s)

-- 4. How a segment stands.
-- the present entry in the terms of document 01
abbrev present_at : Guide → Present → law.Present
present_at rows p = record { index = index_at p.row rows; used = p.used }

module _ (rows : Guide) (p : Present) where
  abbrev means : Standing → law.Standing
  means Unknown = law.unknown
  means Unlisted = law.unlisted
  means (Before k) = law.before (index_at k rows)
  means Again = law.again (index_at p.row rows)
  means (Later k) = law.later (index_at k rows)

  -- its row is a segment's
  abbrev Apt : Standing → Type 0
  Apt Unknown = Unit {0}
  Apt Unlisted = Unit {0}
  Apt (Before k) = is_row 1 (get_or rows k []) ≡ true
  Apt Again = Unit {0}
  Apt (Later k) = (is_row 1 (get_or rows k []) ≡ true) × (p.row < k)

module _ (ids : List (List ℕ)) (rows : Guide) (p : Present) (h : is_row 1 (get_or rows p.row []) ≡ true) (id : Bytes) where
  abbrev k : ℕ
  k = entry_row rows id

  abbrev Compares : Standing → Type 0
  Compares st = (law.compared (index_at p.row rows) (Some (index_at k rows)) ≡ means rows p st) × Apt rows p st

  compared_law : is_row 1 (get_or rows k []) ≡ true → Compares (compared p.row k)
  compared_law f = go (ltb k p.row) refl (ltb p.row k) refl
    where
      i : ℕ
      i = index_at p.row rows

      j : ℕ
      j = index_at k rows

      go : (a : Bool) → ltb k p.row ≡ a → (b : Bool) → ltb p.row k ≡ b → Compares (if a then Before k else (if b then Later k else Again))
      go true x b y = (rw (lt-ltb j i (index_less rows k f p.row (ltb-true k p.row x))), f)
      go false x true y =
          let l = ltb-true p.row k y in
          let less = index_less rows p.row h k l in
          (rw (le-ltb j i (omega arith), ne_eqb j i (λ (q : j ≡ i). omega arith)), (f, l))
      go false x false y =
          let q : k ≡ p.row = omega (arith, ltb-false k p.row x, ltb-false p.row k y) in
          (rw (q, le-ltb i i (omega arith), eq-eqb i i refl), tt)

  abbrev Stands : Standing → Type 0
  Stands st = (standing (table_of ids rows) (present_at rows p) id ≡ means rows p st) × Apt rows p st

  stands_law : Stands (stands ids rows p.row id)
  unfolding stands standing table_of entry_row
  stands_law = go (member id (ids_in ids)) refl (ltb k (length rows)) refl
    where
      at : k ≡ index_where (is_entry_row id) rows
      at = omega arith

      go : (m : Bool) → member id (ids_in ids) ≡ m → (b : Bool) → ltb k (length rows) ≡ b
          → Stands (if m then (if b then compared p.row k else Unlisted) else Unknown)
      go false m b q = (rw m, tt)
      go true m true q =
          let r = index_some id rows 0 k at (ltb-true k (length rows) q) in
          let s = compared_law r.1 in
          (rw (m, r.0, zero-add) s.0, s.1)
      go true m false q = (rw (m, index_none id rows 0 (omega (arith, at, ltb-false k (length rows) q))), tt)

-- 5. One segment of the walk.
module _ (d : Delimiters) (ids : List (List ℕ)) (rows : Guide) (closed : Bool) (small : Small (length rows))
    (bytes : all has_byte_id rows ≡ true) (p : Present) (h : is_row 1 (get_or rows p.row []) ≡ true) (few : Fits p.used) where
  moved_law : (st : Standing) → law.moved (present_at rows p) (means rows p st) ≡ present_at rows (present_of st p)
  moved_law Unknown = refl
  moved_law Unlisted = refl
  moved_law (Before k) = refl
  moved_law Again = rw (bumped_low p.used few)
  moved_law (Later k) = refl

  -- the row of the present entry is a segment's after it too
  entry_stays : (st : Standing) → Apt rows p st → is_row 1 (get_or rows (present_of st p).row []) ≡ true
  entry_stays Unknown a = h
  entry_stays Unlisted a = h
  entry_stays (Before k) a = h
  entry_stays Again a = h
  entry_stays (Later k) a = a.0

  module _ (n : ℕ) where
    abbrev skipped_by : Standing → List Entry
    skipped_by st = law.skipped (table_of ids rows) (present_at rows p) (means rows p st)

    later_law : (k : ℕ) → Apt rows p (Later k) → missing_in n (slice (bumped p.row) k rows) ≡ flat (missing n (skipped_by (Later k)))
    unfolding table_of
    later_law k a =
        let in_rows = row_in rows p.row h in
        rw (bumped_low p.row (omega arith), ← index_next rows p.row h) (passed_law n rows (p.row + 1) k (omega arith) bytes)

    skip_law : (st : Standing) → Apt rows p st
        → missing_in n (slice (passing_of st p) (present_of st p).row rows) ≡ flat (missing n (skipped_by st))
    unfolding missing_in missing keep flat
    skip_law Unknown a = rw (slice_empty p.row rows)
    skip_law Unlisted a = rw (slice_empty p.row rows)
    skip_law (Before k) a = rw (slice_empty p.row rows)
    skip_law Again a = rw (slice_empty p.row rows)
    skip_law (Later k) a = later_law k a

    -- after the last segment
    trailer_law : (st : Standing) → Apt rows p st → events (trailer_slots d ids rows closed p n st) ≡ flat (missing n (skipped_by st))
    unfolding events missing keep flat
    trailer_law Unknown a = refl
    trailer_law Unlisted a = refl
    trailer_law (Before k) a = refl
    trailer_law Again a = refl
    trailer_law (Later k) a = append-nil _ ∙ later_law k a

  -- what is found in its elements
  module _ (s : Segment) where
    abbrev Finds : Option SegmentCode → Standing → Type 0
    Finds own st = checked d rows own (check_of st p) s ≡ findings_by d (table_of ids rows) (means rows p st) s

    own_law : (st : Standing) → law.own_code (table_of ids rows) (present_at rows p) (means rows p st) ≡ segment_number (own_of rows st p)
    own_law Unknown = refl
    own_law Unlisted = refl
    own_law (Before k) = refl
    own_law Again = rw (bumped_low p.used few, entry_here rows p.row h ids) (go (ltb (column (get_or rows p.row []) 5) (p.used + 1)))
      where
        go : (b : Bool) → (if b then 5 else 0) ≡ segment_number (if b then Some code.BeyondMaximum else None)
        go true = refl
        go false = refl
    own_law (Later k) = refl

    checked_law : (st : Standing) → Apt rows p st → Finds (own_of rows st p) st
    checked_law Unknown a = refl
    checked_law Unlisted a = refl
    checked_law (Before k) a = rw (entry_here rows k a ids)
    checked_law Again a = rw (entry_here rows p.row h ids) (go (ltb (column (get_or rows p.row []) 5) (bumped p.used)))
      where
        go : (b : Bool) → checked d rows (if b then Some code.BeyondMaximum else None) p.row s ≡ findings d (entry_at rows p.row) s
        go true = refl
        go false = refl
    checked_law (Later k) a = rw (entry_here rows k a.0 ids)

used_low : (p : Present) (n : ℕ) (st : Standing) → Fits (p.used + suc n) → Fits ((present_of st p).used + n)
used_low p n Unknown h = omega arith
used_low p n Unlisted h = omega arith
used_low p n (Before k) h = omega arith
used_low p n Again h = rw (bumped_low p.used (omega arith)) (omega arith)
used_low p n (Later k) h = omega arith

three : (a b c : List Note) (x y z : List Event) → x ≡ flat a → y ≡ flat b → z ≡ flat c → (x ++ y) ++ z ≡ flat (a ++ b ++ c)
three a b c x y z p q r = rw (p, q, r, flat_append (a ++ b) c, flat_append a b)

-- 6. The walk.
module _ (d : Delimiters) (ids : List (List ℕ)) (rows : Guide) (closed : Bool) (small : Small (length rows))
    (bytes : all has_byte_id rows ≡ true) where
  abbrev table : Table
  table = table_of ids rows

  walk_law : (ss : List Segment) (p : Present) (n : ℕ) → is_row 1 (get_or rows p.row []) ≡ true
      → Fits (p.used + length ss) → Fits (n + length ss)
      → events (walk_slots d ids rows closed p n ss) ≡ flat (walk d table closed (present_at rows p) n ss)
  unfolding walk_slots walk events flat outcome
  walk_law [] p n h few low = go closed
    where
      se : Standing
      se = stands ids rows p.row (ascii "SE")

      go : (c : Bool) → events (if c then [] else trailer_slots d ids rows closed p n se)
          ≡ flat (if c then [] else missing n (law.skipped table (present_at rows p) (standing table (present_at rows p) (ascii "SE"))))
      go true = refl
      go false =
          let o = stands_law ids rows p h (ascii "SE") in
          rw o.0 (trailer_law d ids rows closed small bytes p h (omega arith) n se o.1)
  walk_law (s ∷ ss) p n h few low =
      let id = field s 0 in
      let st = stands ids rows p.row id in
      let o = stands_law ids rows p h id in
      let now = means rows p st in
      let before = present_at rows p in
      let rest = walk_slots d ids rows closed (present_of st p) (bumped n) ss in
      let later : events rest ≡ flat (walk d table closed (law.moved before now) (n + 1) ss) =
      rw (moved_law d ids rows closed small bytes p h (omega arith) st, bumped_low n (omega arith))
      (walk_law ss (present_of st p) (n + 1) (entry_stays d ids rows closed small bytes p h (omega arith) st o.1)
      (used_low p (length ss) st few) (omega arith)) in
      let own : segment_events d rows (own_of rows st p) (check_of st p) n s ≡ flat (segment_note n (law.own_code table before now) id (findings_by d table now s)) =
      rw (own_law d ids rows closed small bytes p h (omega arith) s st, ← checked_law d ids rows closed small bytes p h (omega arith) s st o.1)
      (segment_law d rows (own_of rows st p) (check_of st p) n s) in
      rw o.0
      (three (missing n (law.skipped table before now)) (segment_note n (law.own_code table before now) id (findings_by d table now s)) _ _ _ (events rest)
      (skip_law d ids rows closed small bytes p h (omega arith) n st o.1) own later)

pieces_few : (t : ℕ) (s : Bytes) → length (pieces t s) ≤ length s
unfolding pieces
pieces_few t [] = omega arith
pieces_few t (b ∷ s) = go (eqb b t) (pieces t s) (pieces_few t s)
  where
    go : (c : Bool) (ps : List Bytes) → length ps ≤ length s → length (cut_at c b ps) ≤ suc (length s)
    go true ps h = omega arith
    go false [] h = omega arith
    go false (p ∷ ps) h = omega arith

pub segments_few : (d : Delimiters) (s : Bytes) → length (segments d s) ≤ length s
unfolding segments
segments_few d s = simp length-map (pieces_few d.terminator s)

-- Document 01: the events of a walk from the start are the notes of the set, by the table that the guide means.
pub walk_notes : (set : Bytes) (d : Delimiters) (ids : List (List ℕ)) (rows : Guide) (closed : Bool)
    → Limits rows → Small (length set) → {header : Segment} {after : List Segment} → segments d set ≡ header ∷ after
    → events (remaining set d ids rows closed start) ≡ flat (notes_of d (table_of ids rows) closed header after)
unfolding remaining start set_slots notes_of ids_are_bytes events missing_in index_at
walk_notes set d ids rows closed limits short {header} {after} e =
    let fewer = segments_few d set in
    let few : length after < length set = omega (arith, ap length e) in
    let first = row_in rows 0 limits.begins in
    let size = limits.few in
    let note = segment_note 1 0 (field header 0) (findings d (entry_at rows 0) header) in
    let told = segment_law d rows None 0 1 header in
    let rest = walk_law d ids rows closed (omega arith) limits.ids after (record { row = 0; used = 1 }) 2 limits.begins (omega arith) (omega arith) in
    rw (e, entry_here rows 0 limits.begins ids, told, rest) (sym (flat_append note _))
