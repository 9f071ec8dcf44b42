-- The rows of an entry at a cursor: what the field of one row comes to, and what is left from the next row on.
use Rattle.std.specs.Prelude.{if◌then◌else◌, Option, None, Some}
use Prim.Native.Nat.{ℕ, ◌+◌, ◌-◌, ◌<◌, ◌≤◌, max}
use Rattle.std.specs.Bool.{then_some}
use mathlib.Core.Path.{◌≡◌, refl, ap, ◌∙◌}
use mathlib.Core.Bool.{Bool, true, false, ◌&&◌}
use mathlib.Core.List.{List, [], ◌∷◌}
use native.Mathlib.Numerals.{add-one}
use native.Mathlib.Omega.{arith}
use borrow.Author.Tests.{ltb-true}
use lib.Dec.{eqb, ltb, lit<}
use lib.ListN.{length, get_or, drop, drop_of_length-le, length-take, length-drop}
use lib.Seq.{drop-cons}
use Rattle.rules.specs.Base.{Bytes}
use Rattle.rules.specs.Tables.{Row}
use Rattle.rules.specs.declared.Delimiters.{Delimiters}
use Rattle.text.specs.Text.{next_where, part}
use Rattle.text.proofs.Where.{index_le, next_here, next_later, next_none, next_within}
use Rattle.tables.specs.Rows.{is_row}
use Rattle.tables.specs.Reading.{Guide, row_at, note_at, row_below}
use Rattle.tables.proofs.Laws.{row_within}
use Rattle.text.proofs.Library.{next_past}
use Rattle.elements.specs.Values.{row_code, takes_length}
use Rattle.elements.specs.Marks.{no_marks, marked_with, marked, breaks_note}
use Rattle.elements.specs.declared.Marks.{Marks}
use Rattle.elements.proofs.Codes.{valid_filled, takes_length_lem}
use Rattle.look.specs.Bytes.{is_other}
use Rattle.look.specs.declared.segment.Passed.{Passed}
use Rattle.look.specs.Passing.{id_end, start_after, is_over, begins, stops, marks_with, read_rows, passed}

-- the id ends within the bytes
pub id_within : (d : Delimiters) (rest : Bytes) → id_end d rest ≤ length rest
unfolding id_end
id_within d rest = index_le _ rest

-- the next field starts within the bytes
pub begins_within : (e : ℕ) (rest : Bytes) (end : ℕ) → end ≤ length rest → start_after e rest end ≤ length rest
unfolding start_after
begins_within e rest end h = go (ltb end (length rest)) (eqb (get_or rest end 0) e) refl
  where
    go : (a b : Bool) → ltb end (length rest) ≡ a → (if a && b then end + 1 else end) ≤ length rest
    go true true q = let l = ltb-true end (length rest) q in omega arith
    go true false q = h
    go false b q = h

-- what a field comes to that is taken by its length alone, where there is one
pub taken_by : (r : Row) (rest : Bytes) (start end : ℕ) → start < end → end ≤ length rest → takes_length r (end - start) ≡ true
    → eqb (row_code r (part rest start end)) 0 ≡ true
taken_by r rest start end h l e =
    let size : length (part rest start end) ≡ end - start = omega (arith, length-take (end - start) (drop start rest), length-drop start rest) in
    let absent = takes_length_lem r (part rest start end) (rw size e) in
    rw (valid_filled r (part rest start end) (λ z. omega arith), absent)

module _ (table : List Bool) (d : Delimiters) (rest : Bytes) (rows : Guide) (k end : ℕ) (m : Marks) where
  here : k < length rows → drop k rows ≡ get_or rows k [] ∷ drop (k + 1) rows
  here h = rw add-one (drop-cons rows k [] h)

  -- a row that is neither a segment nor an element, by whether it is a note that is broken
  pub read_skip : k < length rows → is_row 1 (get_or rows k []) ≡ false → is_row 2 (get_or rows k []) ≡ false
      → read_rows table d rest (drop k rows) end m
      ≡ (if is_row 4 (get_or rows k []) && breaks_note (marked m) (note_at rows k) then None else read_rows table d rest (drop (k + 1) rows) end m)
  unfolding read_rows
  read_skip h e f = rw (here h, e, f)

  pub read_row : k < length rows → is_row 1 (get_or rows k []) ≡ false → is_row 2 (get_or rows k []) ≡ true
      → read_rows table d rest (drop k rows) end m
      ≡ (if eqb (row_code (row_at rows k) (part rest (begins table d rest end) (stops table d rest end))) 0
      then read_rows table d rest (drop (k + 1) rows) (stops table d rest end) (marks_with table d rest m end) else None)
  unfolding read_rows
  read_row h e f = rw (here h, e, f)

  pub read_stop : is_row 1 (get_or rows k []) ≡ true → read_rows table d rest (drop k rows) end m ≡ Some end
  unfolding read_rows
  read_stop e = rw (here (row_within 1 (lit< tt) rows k e), e)

  pub read_end : length rows ≤ k → read_rows table d rest (drop k rows) end m ≡ Some end
  unfolding read_rows
  read_end h = rw (drop_of_length-le rows {i = k} h)

-- The look at a segment by the entry of a row has come to row k, after the field that ends at `end`, with the marks of the places before.
pub record ReadTo (table : List Bool) (d : Delimiters) (rest : Bytes) (rows : Guide) (entry id k end : ℕ) (m : Marks) : Type 0 where
  pub left : read_rows table d rest (drop (row_below rows entry) rows) id no_marks ≡ read_rows table d rest (drop k rows) end m
  pub within : end ≤ length rest
  pub next : next_where (is_row 1) rows (row_below rows entry) ≡ next_where (is_row 1) rows k

-- no row of the entry is left
pub record Ended (rows : Guide) (k : ℕ) : Type 0 where
  pub whole : (table : List Bool) (d : Delimiters) (rest : Bytes) (end : ℕ) (m : Marks) → read_rows table d rest (drop k rows) end m ≡ Some end
  pub stays : next_where (is_row 1) rows k ≡ k

pub ended_segment : (rows : Guide) (k : ℕ) → is_row 1 (get_or rows k []) ≡ true → Ended rows k
ended_segment rows k e = record {
  whole = λ table d rest end m. read_stop table d rest rows k end m e;
  stays = next_here (is_row 1) rows [] k (row_within 1 (lit< tt) rows k e) e;
}

pub ended_past : (rows : Guide) (k : ℕ) → length rows ≤ k → Ended rows k
ended_past rows k h = record { whole = λ table d rest end m. read_end table d rest rows k end m h; stays = next_none (is_row 1) rows [] k h }

module _ {table : List Bool} {d : Delimiters} {rest : Bytes} {rows : Guide} {entry id k end : ℕ} {m : Marks}
    (r : ReadTo table d rest rows entry id k end m) where
  -- a row that is no element, by whether it is a note that is broken
  module _ (h : k < length rows) (e : is_row 1 (get_or rows k []) ≡ false) (f : is_row 2 (get_or rows k []) ≡ false)
      {broken : Bool} (q : broken ≡ (is_row 4 (get_or rows k []) && breaks_note (marked m) (note_at rows k))) where
    pub read_over : broken ≡ false → ReadTo table d rest rows entry id (k + 1) end m
    read_over b = record {
      left = r.left ∙ read_skip table d rest rows k end m h e f ∙ rw (← q, b);
      within = r.within;
      next = r.next ∙ next_later (is_row 1) rows [] k h e;
    }

    pub read_broken : broken ≡ true → passed table d rest rows entry id ≡ None
    unfolding passed
    read_broken b = rw (r.left, read_skip table d rest rows k end m h e f, ← q, b)

  -- the next field, as the search for its end found it
  module _ {start stop : ℕ} (p : start ≡ begins table d rest end) (g : stop ≡ next_where (is_other table) rest start) where
    stopped : stop ≡ stops table d rest end
    stopped = g ∙ ap (λ (i : ℕ). next_where (is_other table) rest i) p

    pub field_ends : stop ≤ length rest
    field_ends = rw g (next_within (is_other table) rest start (rw p (begins_within d.element rest end r.within)))

    module _ (h : k < length rows) (e : is_row 1 (get_or rows k []) ≡ false) (f : is_row 2 (get_or rows k []) ≡ true)
        {taken : Bool} (q : taken ≡ eqb (row_code (row_at rows k) (part rest start stop)) 0) where
      pub read_taken : taken ≡ true → {marks : Marks} → marks ≡ marked_with m (ltb start stop) → ReadTo table d rest rows entry id (k + 1) stop marks
      read_taken t w = record {
        left = r.left ∙ read_row table d rest rows k end m h e f ∙ rw (← stopped, ← p, ← q, t, w);
        within = field_ends;
        next = r.next ∙ next_later (is_row 1) rows [] k h e;
      }

      pub read_refused : taken ≡ false → passed table d rest rows entry id ≡ None
      unfolding passed
      read_refused t = rw (r.left, read_row table d rest rows k end m h e f, ← stopped, ← p, ← q, t)

  -- past the last row of the guide, the search for the next entry has come to its end
  pub past : length rows ≤ k → max (row_below rows entry) (length rows) ≡ k
  past h = next_past (is_row 1) rows (row_below rows entry) (r.next ∙ next_none (is_row 1) rows [] k h) h

  -- after the last row: by whether the segment ends there
  pub read_ended : Ended rows k → {next : ℕ} → next ≡ k → {over : Bool} → over ≡ is_over d.terminator rest end
      → passed table d rest rows entry id ≡ then_some over (record { length = end; next = next })
  unfolding passed
  read_ended o e p = rw (r.left, o.whole table d rest end m, r.next, o.stays, p, e) (go (is_over d.terminator rest end))
    where
      go : (b : Bool) → ◌≡◌ {A = Option Passed} (if b then Some (record { length = end; next = k }) else None) (then_some b (record { length = end; next = k }))
      go true = refl
      go false = refl
