-- A look at the segment that the bytes begin with comes to what the segment's own bytes say, where the table has the valid bytes.
use Rattle.std.specs.Prelude.{if◌then◌else◌, Option, None, Some}
use Prim.Native.Nat.{ℕ, zero, suc, ◌+◌, ◌-◌, ◌<◌, ◌≤◌, suc-le-suc}
use mathlib.Core.Path.{◌≡◌, refl, sym, ap, ◌∙◌}
use mathlib.Core.Bool.{Bool, true, false, ◌&&◌, ◌||◌, not, true≢false}
use mathlib.Core.List.{List, [], ◌∷◌, ◌++◌, map}
use native.Mathlib.Nat.{le_of_suc-le-suc, not-suc-le-zero, zero-lt-suc, zero-add}
use native.Mathlib.Omega.{arith}
use borrow.Author.Tests.{lt-ltb, le-ltb, ltb-true, ltb-false, le-leb, lt-leb, leb-true, leb-false, eq-eqb, ne_eqb, eqb-true, eqb-false}
use lib.Dec.{eqb, ltb, leb}
use lib.ListN.{length, get_or, take, drop, length-drop}
use lib.Seq.{length-take-le, take-take, get_or-take, get_or-drop}
use Rattle.rules.specs.Base.{Bytes, null, all, any, between}
use Rattle.rules.specs.Cutting.{Segment, split, field, valid, marks}
use Rattle.rules.specs.Elements.{repeats, element_code, present, place_codes, Finding, found, surplus_at, findings, findings_from}
use Rattle.rules.specs.Tables.{Row, Syntax}
use Rattle.rules.specs.declared.Delimiters.{Delimiters}
use Rattle.rules.proofs.Cuts.{valid_apart}
use Rattle.rules.proofs.Logic.{and_left, and_right}
use Rattle.text.specs.Text.{index_where, index_of, next_where, part}
use Rattle.text.proofs.Loops.{and_true, and_false}
use Rattle.text.proofs.Where.{index_le, next_here}
use Rattle.segments.proofs.Fields.{FieldAt, field_first, field_next, field_at, field_some, field_none}
use Rattle.tables.specs.Rows.{column, is_row, row_is, note_is, codes_in, rows_in, syntax_in}
use Rattle.tables.specs.Reading.{Guide, entry_at, row_below, followed, names_within, has_none}
use Rattle.tables.proofs.Laws.{below_rest}
use Rattle.elements.specs.Values.{byte_code, row_code}
use Rattle.elements.specs.Notes.{breaks, note_code_by}
use Rattle.elements.specs.Marks.{no_marks, marked_with, marked, breaks_note}
use Rattle.elements.specs.declared.Marks.{Marks}
use Rattle.elements.specs.Checks.{next_start, field_after}
use Rattle.elements.proofs.Codes.{bytes_repeat, bytes_bad, code_bytes, code_is}
use Rattle.elements.proofs.Broken.{any_from, notes_broken, Marked, marked_none, marked_next, marked_notes}
use Rattle.elements.proofs.Places.{after_order, after_within, next_field, next_present, next_at, ascending_null, place_codes_lem}
use Rattle.look.specs.Bytes.{valid_bytes, is_other}
use Rattle.look.specs.Passing.{id_end, start_after, is_over, read_rows, passed_by, passed}
use Rattle.look.specs.declared.segment.Passed.{Passed}
use Rattle.look.proofs.Bytes.{table_valid}
use Rattle.look.proofs.Reading.{read_skip, read_row, read_stop, read_end}

-- 1. The rows of an entry that are left from place n on.
-- its elements are so many, 62 at most; the notes name only their places, and stand after them
pub record Fits (n count : ℕ) (rs : Guide) : Type 0 where
  pub size : n + length (rows_in rs) ≡ count + 1
  pub few : count ≤ 62
  pub named : all (names_within count) (syntax_in rs) ≡ true
  pub last : followed 4 has_none rs ≡ true

-- an element is no note
other_row : (r : List ℕ) → is_row 2 r ≡ true → is_row 4 r ≡ false
other_row r e = let z = eqb-true (column r 0) 2 e in rw z

notes_over : (r : List ℕ) (rs : Guide) → is_row 1 r ≡ false → is_row 4 r ≡ false → syntax_in (r ∷ rs) ≡ syntax_in rs
unfolding syntax_in
notes_over r rs p q = rw (p, q)

nothing : {A : Type 0} (xs : List A) → null xs ≡ true → xs ≡ []
nothing [] e = refl
nothing (x ∷ xs) e = absurd (true≢false (sym e))

module _ {n count : ℕ} {rs : Guide} (w : Fits n count rs) where
  fits_low : n ≤ 63
  fits_low = omega (arith, w.size, w.few)

  -- where no element is left, the notes name only places before place n
  named_all : rows_in rs ≡ [] → all (names_within (n - 1)) (syntax_in rs) ≡ true
  named_all e = let z : n - 1 ≡ count = omega (arith, rw e at w.size) in rw z w.named

module _ {n count : ℕ} {r : List ℕ} {rs : Guide} (w : Fits n count (r ∷ rs)) (p : is_row 1 r ≡ false) where
  later : followed 4 has_none rs ≡ true
  unfolding followed
  later = and_right (not (is_row 4 r) || has_none rs) (followed 4 has_none rs) w.last

  fits_over : is_row 2 r ≡ false → is_row 4 r ≡ false → Fits n count rs
  unfolding rows_in
  fits_over q z = record { size = rw (p, q) at w.size; few = w.few; named = rw (notes_over r rs p z) at w.named; last = later }

  module _ (q : is_row 2 r ≡ true) where
    one_less : n + suc (length (rows_in rs)) ≡ count + 1
    unfolding rows_in
    one_less = rw (p, q) at w.size

    fits_more : n ≤ 62
    fits_more = omega (arith, one_less, w.few)

    fits_next : Fits (n + 1) count rs
    fits_next = record { size = omega (arith, one_less); few = w.few; named = rw (notes_over r rs p (other_row r q)) at w.named; last = later }

-- what the rows after the last element come to
read_notes : (table : List Bool) (d : Delimiters) (rest : Bytes) (rs : Guide) (end : ℕ) (m : Marks) → rows_in rs ≡ []
    → read_rows table d rest rs end m ≡ (if any (breaks_note (marked m)) (syntax_in rs) then None else Some end)
unfolding read_rows rows_in syntax_in any
read_notes table d rest [] end m e = refl
read_notes table d rest (r ∷ rs) end m e = by (is_row 1 r) refl (is_row 2 r) refl (is_row 4 r) refl (read_notes table d rest rs end m)
  where
    by : (a : Bool) → is_row 1 r ≡ a → (b : Bool) → is_row 2 r ≡ b → (o : Bool) → is_row 4 r ≡ o
        → (rows_in rs ≡ [] → read_rows table d rest rs end m ≡ (if any (breaks_note (marked m)) (syntax_in rs) then None else Some end))
        → read_rows table d rest (r ∷ rs) end m ≡ (if any (breaks_note (marked m)) (syntax_in (r ∷ rs)) then None else Some end)
    by true p b q o z f = rw p
    by false p true q o z f = let e' : ◌≡◌ {A = List Row} (row_is r (codes_in rs) ∷ rows_in rs) [] = rw (p, q) at e in let y : ◌≡◌ {A = ℕ} 0 1 = cc in absurd (omega arith)
    by false p false q false z f = rw (p, q, z) (f (rw (p, q) at e))
    by false p false q true z f = rw (p, q, z, f (rw (p, q) at e)) (go (breaks_note (marked m) (note_is r)) (any (breaks_note (marked m)) (syntax_in rs)))
      where
        go : (b c : Bool) → ◌≡◌ {A = Option ℕ} (if b then None else (if c then None else Some end)) (if b || c then None else Some end)
        go true c = refl
        go false c = refl

-- 2. Searches in bytes that are cut off.
-- what a search finds passes its test
index_hit : (p : ℕ → Bool) (xs : Bytes) → index_where p xs < length xs → p (get_or xs (index_where p xs) 0) ≡ true
unfolding index_where
index_hit p [] h = absurd (not-suc-le-zero h)
index_hit p (x ∷ xs) h = go (p x) refl h (index_hit p xs)
  where
    go : (c : Bool) → p x ≡ c → (if c then 0 else suc (index_where p xs)) < suc (length xs)
        → (index_where p xs < length xs → p (get_or xs (index_where p xs) 0) ≡ true)
        → p (get_or (x ∷ xs) (if c then 0 else suc (index_where p xs)) 0) ≡ true
    go true e k f = e
    go false e k f = f (le_of_suc-le-suc k)

-- what comes before it does not
index_miss : (p : ℕ → Bool) (xs : Bytes) (i : ℕ) → i < index_where p xs → p (get_or xs i 0) ≡ false
unfolding index_where
index_miss p [] i h = absurd (not-suc-le-zero h)
index_miss p (x ∷ xs) i h = go (p x) refl i h (index_miss p xs)
  where
    go : (c : Bool) → p x ≡ c → (i : ℕ) → i < (if c then 0 else suc (index_where p xs))
        → ((j : ℕ) → j < index_where p xs → p (get_or xs j 0) ≡ false) → p (get_or (x ∷ xs) i 0) ≡ false
    go true e i k f = absurd (not-suc-le-zero k)
    go false e zero k f = e
    go false e (suc i) k f = f i (le_of_suc-le-suc k)

-- the byte that is looked for stands at the place that is found, or nothing
index_stands : (b : ℕ) (s : Bytes) → (if ltb (index_of b s) (length s) then eqb (get_or s (index_of b s) 0) b else true) ≡ true
index_stands b s = go (ltb (index_of b s) (length s)) refl
  where
    go : (c : Bool) → ltb (index_of b s) (length s) ≡ c → (if c then eqb (get_or s (index_of b s) 0) b else true) ≡ true
    go true e = index_hit (λ x. eqb x b) s (ltb-true _ _ e)
    go false e = refl

-- two tests that agree find the same
index_same : (p q : ℕ → Bool) → ((x : ℕ) → p x ≡ q x) → (xs : Bytes) → index_where p xs ≡ index_where q xs
unfolding index_where
index_same p q h [] = refl
index_same p q h (x ∷ xs) = rw (h x, index_same p q h xs)

-- what stops where another search stops, if not before, finds the same in the bytes up to there
module _ (p q : ℕ → Bool) (h : (x : ℕ) → q x ≡ true → p x ≡ true) where
  index_cut : (xs : Bytes) → index_where p (take (index_where q xs) xs) ≡ index_where p xs
  unfolding index_where
  index_cut [] = refl
  index_cut (x ∷ xs) = go (q x) refl (index_cut xs)
    where
      go : (c : Bool) → q x ≡ c → index_where p (take (index_where q xs) xs) ≡ index_where p xs
          → index_where p (take (if c then 0 else suc (index_where q xs)) (x ∷ xs)) ≡ index_where p (x ∷ xs)
      go true e f = rw (h x e)
      go false e f = rw f

  next_cut : (i : ℕ) (xs : Bytes) → i ≤ index_where q xs → index_where p (drop i (take (index_where q xs) xs)) ≡ index_where p (drop i xs)
  unfolding index_where
  next_cut zero xs l = index_cut xs
  next_cut (suc i) [] l = refl
  next_cut (suc i) (x ∷ xs) l = go (q x) l (next_cut i xs)
    where
      go : (c : Bool) → suc i ≤ (if c then 0 else suc (index_where q xs))
          → (i ≤ index_where q xs → index_where p (drop i (take (index_where q xs) xs)) ≡ index_where p (drop i xs))
          → index_where p (drop (suc i) (take (if c then 0 else suc (index_where q xs)) (x ∷ xs))) ≡ index_where p (drop i xs)
      go true k f = absurd (not-suc-le-zero k)
      go false k f = f (le_of_suc-le-suc k)

-- a part of them is a part of all
part_cut : (m i n : ℕ) (xs : Bytes) → i + m ≤ n → take m (drop i (take n xs)) ≡ take m (drop i xs)
part_cut m zero n xs h = take-take m n xs (omega arith)
part_cut m (suc i) zero xs h = absurd (omega arith)
part_cut m (suc i) (suc n) [] h = refl
part_cut m (suc i) (suc n) (x ∷ xs) h = part_cut m i n xs (omega arith)

-- 3. The id.
-- the first separator or terminator is the first separator before the terminator, or the terminator
either_cut : (e t : ℕ) (xs : Bytes) → index_where (λ b. eqb b e || eqb b t) xs ≡ index_of e (take (index_of t xs) xs)
unfolding index_where
either_cut e t [] = refl
either_cut e t (x ∷ xs) = go (eqb x e) refl (eqb x t) (either_cut e t xs)
  where
    go : (a : Bool) → eqb x e ≡ a → (b : Bool) → index_where (λ y. eqb y e || eqb y t) xs ≡ index_of e (take (index_of t xs) xs)
        → (if a || b then 0 else suc (index_where (λ y. eqb y e || eqb y t) xs)) ≡ index_of e (take (if b then 0 else suc (index_of t xs)) (x ∷ xs))
    go true p true f = refl
    go true p false f = rw p
    go false p true f = refl
    go false p false f = rw (p, f)

module _ (d : Delimiters) (rest : Bytes) where
  -- the id ends at the first separator of the segment, or with it
  id_cut : id_end d rest ≡ 0 + index_of d.element (take (index_of d.terminator rest) rest)
  unfolding id_end
  id_cut = either_cut d.element d.terminator rest ∙ sym (zero-add _)

  id_before : id_end d rest ≤ index_of d.terminator rest
  id_before =
      let bytes = take (index_of d.terminator rest) rest in
      omega (arith, id_cut, index_le (λ (x : ℕ). eqb x d.element) bytes, length-take-le (index_of d.terminator rest) rest (index_le _ rest))

  -- the bytes before the end of the id are the segment's first field
  pub id_field : take (id_end d rest) rest ≡ field (split d.element (take (index_of d.terminator rest) rest)) 0
  id_field =
      let end = index_of d.terminator rest in
      let size : id_end d rest - 0 ≡ id_end d rest = omega arith in
      sym (rw size at (field_at {e = d.element} {s = take end rest} field_first id_cut) ∙ take-take (id_end d rest) end rest id_before)

-- 4. The places of a segment.
-- the code of a value that has a byte which is not valid
code_spoiled : (d : Delimiters) (r : Row) (e : Bytes) → all (valid d) e ≡ false → eqb (element_code d r e) 0 ≡ false
unfolding all
code_spoiled d r [] h = absurd (true≢false h)
code_spoiled d r (b ∷ e) h = go (repeats d (b ∷ e)) refl
  where
    coded : {c : ℕ} → byte_code d (b ∷ e) ≡ c → eqb c 0 ≡ false → eqb (element_code d r (b ∷ e)) 0 ≡ false
    coded {c} p q = rw (code_bytes d r (b ∷ e) (λ z. omega arith) (λ z. eqb-false c 0 q (sym p ∙ z)), p) q

    go : (twice : Bool) → repeats d (b ∷ e) ≡ twice → eqb (element_code d r (b ∷ e)) 0 ≡ false
    go true p = coded (bytes_repeat d (b ∷ e) p) refl
    go false p = coded (bytes_bad d (b ∷ e) p h) refl

module _ (d : Delimiters) (notes : List Syntax) (s : Segment) where
  -- a place has no code where its value has none and no note is broken there
  place_null : (r : Row) (n : ℕ) → null (place_codes d notes s r n) ≡ (eqb (element_code d r (field s n)) 0 && not (any (breaks (present s n) s n) notes))
  place_null r n =
      rw (place_codes_lem notes s n d r, ascending_null (element_code d r (field s n)) (note_code_by (present s n) notes s n))
      (ap (λ (b : Bool). eqb (element_code d r (field s n)) 0 && b) (go (any (breaks (present s n) s n) notes) (present s n)))
    where
      go : (b present : Bool) → eqb (if b then (if present then 10 else 2) else 0) 0 ≡ not b
      go true true = refl
      go true false = refl
      go false present = refl

  -- no finding is left from place n on by these rows
  abbrev silent_by : ℕ → List Row → Bool
  silent_by n rs = null (findings_from d notes s n rs)

  silent_row : (r : Row) (rs : List Row) (n : ℕ) {good : Bool} → good ≡ eqb (element_code d r (field s n)) 0
      → silent_by n (r ∷ rs) ≡ (good && not (any (breaks (present s n) s n) notes)) && silent_by (n + 1) rs
  unfolding findings_from
  silent_row r rs n p = rw (p, ← place_null r n) (go (place_codes d notes s r n))
    where
      go : (codes : List ℕ) → null (map (found d s r n) codes ++ findings_from d notes s (n + 1) rs) ≡ null codes && silent_by (n + 1) rs
      go [] = refl
      go (c ∷ codes) = refl

-- what is found is found in the values, or by the notes
silent_notes : (d : Delimiters) (notes : List Syntax) (s : Segment) (rs : List Row) (n : ℕ)
    → silent_by d notes s n rs ≡ silent_by d [] s n rs && not (any_from (λ m. any (breaks (present s m) s m) notes) n (length rs))
unfolding findings_from any_from any
silent_notes d notes s [] n = sym (and_true (silent_by d [] s n []))
silent_notes d notes s (r ∷ rs) n =
    rw (silent_row d notes s r rs n refl, silent_row d [] s r rs n refl, silent_notes d notes s rs (n + 1))
    (go (eqb (element_code d r (field s n)) 0) (any (breaks (present s n) s n) notes) (silent_by d [] s (n + 1) rs) (any_from (λ m. any (breaks (present s m) s m) notes) (n + 1) (length rs)))
  where
    go : (good here later broken : Bool) → (good && not here) && (later && not broken) ≡ ((good && true) && later) && not (here || broken)
    go true true true broken = refl
    go true true false broken = refl
    go true false later broken = refl
    go false here later broken = refl

-- after the rows no field is left
silent_end : (d : Delimiters) (notes : List Syntax) {e : ℕ} {s : Bytes} {n : ℕ} (end : ℕ) → FieldAt e s n (end + 1)
    → silent_by d notes (split e s) n [] ≡ leb (length s) end
unfolding findings_from
silent_end d notes {e} {s} {n} end f = go (leb (length s) end) refl
  where
    go : (b : Bool) → leb (length s) end ≡ b
        → null {A = Finding} (if ltb n (length (split e s)) then surplus_at n ∷ [] else []) ≡ b
    go true h = let l : length s ≤ end = leb-true (length s) end h in rw (le-ltb n (length (split e s)) (field_none f (omega arith)))
    go false h = let l : end < length s = leb-false (length s) end h in rw (lt-ltb n (length (split e s)) (field_some f (omega arith)))

-- valid bytes and then a separator, or the end
module _ (d : Delimiters) where
  -- a valid byte is no separator
  valid_free : (b : ℕ) → valid d b ≡ true → eqb b d.element ≡ false
  valid_free b e = (valid_apart d b e).0

  -- how many bytes come before the first that is not valid: as many as the field has, or fewer
  abbrev stop : Bytes → ℕ
  stop xs = index_where (λ b. not (valid d b)) xs

  abbrev Stops : Bool → ℕ → ℕ → Type 0
  Stops true i j = i ≡ j
  Stops false i j = i < j

  stops_more : (b : Bool) (i j : ℕ) → Stops b i j → Stops b (suc i) (suc j)
  stops_more true i j h = ap suc h
  stops_more false i j h = suc-le-suc h

  stop_by : (xs : Bytes) → Stops (all (valid d) (take (index_of d.element xs) xs)) (stop xs) (index_of d.element xs)
  unfolding index_where all
  stop_by [] = refl
  stop_by (x ∷ xs) = go (eqb x d.element) refl (valid d x) refl (stop_by xs)
    where
      go : (a : Bool) → eqb x d.element ≡ a → (b : Bool) → valid d x ≡ b
          → Stops (all (valid d) (take (index_of d.element xs) xs)) (stop xs) (index_of d.element xs)
          → (let i = if a then 0 else suc (index_of d.element xs) in Stops (all (valid d) (take i (x ∷ xs))) (stop (x ∷ xs)) i)
      go true p true q f = absurd (true≢false (sym p ∙ valid_free x q))
      go true p false q f = rw q
      go false p true q f = rw q (stops_more (all (valid d) (take (index_of d.element xs) xs)) (stop xs) (index_of d.element xs) f)
      go false p false q f = rw q (zero-lt-suc (index_of d.element xs))

-- 5. The fields after the id: the bytes up to the terminator are the segment's, and those of its fields are valid.
module _ (d : Delimiters) (apart : eqb d.element d.terminator ≡ false) (rest : Bytes) where
  -- where the segment ends, its bytes, and its fields
  abbrev last : ℕ
  last = index_of d.terminator rest

  abbrev bytes : Bytes
  bytes = take last rest

  abbrev fields : Segment
  fields = split d.element bytes

  -- how many bytes it has, and what stands among them
  last_within : last ≤ length rest
  last_within = index_le _ rest

  size : length bytes ≡ last
  size = length-take-le last rest last_within

  inside : (i : ℕ) → i < last → get_or bytes i 0 ≡ get_or rest i 0
  inside i h = get_or-take last rest i 0 h

  -- the terminator is neither a separator nor a valid byte
  other_mark : (b : ℕ) → eqb b d.terminator ≡ true → eqb b d.element ≡ false
  other_mark b e = ne_eqb b d.element (λ q. eqb-false d.element d.terminator apart (sym q ∙ eqb-true b d.terminator e))

  mark_spoils : (b : ℕ) → eqb b d.terminator ≡ true → is_other (valid_bytes d) b ≡ true
  unfolding valid marks any
  mark_spoils b e = rw (table_valid d b, e) (go (between 32 126 b) (eqb b d.element) (eqb b d.component))
    where
      go : (x y z : Bool) → not (x && not (y || (z || true))) ≡ true
      go false y z = refl
      go true true z = refl
      go true false true = refl
      go true false false = refl

  -- no separator stands where it ends
  no_separator : ltb last (length rest) && eqb (get_or rest last 0) d.element ≡ false
  no_separator = go (ltb last (length rest)) refl
    where
      go : (c : Bool) → ltb last (length rest) ≡ c → c && eqb (get_or rest last 0) d.element ≡ false
      go true e = other_mark (get_or rest last 0) (index_hit (λ x. eqb x d.terminator) rest (ltb-true _ _ e))
      go false e = refl

  -- the fields before place n end at `end`, where a separator stands or the segment ends
  record Come (n end : ℕ) : Type 0 where
    pub at : FieldAt d.element bytes n (end + 1)
    pub within : end ≤ length bytes
    pub ends : end < length bytes → get_or bytes end 0 ≡ d.element

  -- a separator that is found stands there
  separator : (xs : Bytes) → index_of d.element xs < length xs → get_or xs (index_of d.element xs) 0 ≡ d.element
  separator xs h = eqb-true (get_or xs (index_of d.element xs) 0) d.element (index_hit (λ x. eqb x d.element) xs h)

  -- before place 1 stands the id
  come_first : Come 1 (id_end d rest)
  come_first = record {
    at = field_next field_first (id_cut d rest);
    within = omega (arith, size, id_before d rest);
    ends = rw (id_cut d rest, zero-add) (separator bytes);
  }

  module _ {n end : ℕ} (c : Come n end) where
    -- it is before the terminator, and a separator stands there, or it is the end of the segment
    split_off : {X : Type 0} → (end < last → get_or rest end 0 ≡ d.element → X) → (end ≡ last → X) → X
    split_off {X} f g = go (ltb end (length bytes)) refl
      where
        go : (b : Bool) → ltb end (length bytes) ≡ b → X
        go true e =
            let l = ltb-true end (length bytes) e in
            let h : end < last = omega (arith, size) in
            f h (sym (inside end h) ∙ c.ends l)
        go false e = let l = ltb-false end (length bytes) e in g (omega (arith, size, c.within))

    -- the segment ends there where no byte of it is left
    over_is : is_over d.terminator rest end ≡ leb (length bytes) end
    unfolding is_over
    over_is = split_off more over
      where
        more : end < last → get_or rest end 0 ≡ d.element → is_over d.terminator rest end ≡ leb (length bytes) end
        more h e = rw (lt-ltb end (length rest) (omega (arith, last_within)), e, apart) (sym (lt-leb (length bytes) end (omega (arith, size))))

        over : end ≡ last → is_over d.terminator rest end ≡ leb (length bytes) end
        over h = rw (h, index_stands d.terminator rest) (sym (le-leb (length bytes) last (omega (arith, size))))

    -- where the next field lies in the segment's own bytes
    abbrev from : ℕ
    from = (field_after d.element bytes end).start

    abbrev to : ℕ
    to = (field_after d.element bytes end).end

    abbrev start : ℕ
    start = start_after d.element rest end

    abbrev next : ℕ
    next = next_where (is_other (valid_bytes d)) rest start

    -- the look finds the same start
    start_is : start ≡ from
    unfolding field_after start_after next_start
    start_is = split_off more over
      where
        more : end < last → get_or rest end 0 ≡ d.element → start ≡ from
        more h e = rw (lt-ltb end (length rest) (omega (arith, last_within)), eq-eqb (get_or rest end 0) d.element e, lt-ltb end (length bytes) (omega (arith, size)))

        over : end ≡ last → start ≡ from
        over h = rw (h, no_separator, le-ltb last (length bytes) (omega (arith, size))) (sym size)

    within : to ≤ last
    within = omega (arith, size, after_within d.element bytes end refl)

    order : from ≤ to
    order = after_order d.element bytes end refl

    -- the bytes of the segment from there on, and where its field ends among them
    abbrev xs : Bytes
    xs = drop (from) bytes

    end_is : to ≡ from + index_of d.element xs
    unfolding field_after
    end_is = refl

    next_is : next ≡ from + stop d xs
    next_is =
        let begins : start ≤ last = omega (arith, start_is, within, order) in
        ap (λ (i : ℕ). start + i)
        (sym (next_cut (is_other (valid_bytes d)) (λ x. eqb x d.terminator) mark_spoils start rest begins)
        ∙ index_same (is_other (valid_bytes d)) (λ b. not (valid d b)) (λ x. rw (table_valid d x)) (drop start bytes))
        ∙ rw start_is

    stops : Stops d (all (valid d) (field fields n)) (stop d xs) (index_of d.element xs)
    stops =
        let l : to - from ≡ index_of d.element xs = omega (arith, end_is) in
        rw (next_field c.at c.within, l) (stop_by d xs)

    -- where its bytes are valid, the look goes on after it
    module _ (e : all (valid d) (field fields n) ≡ true) where
      whole : next ≡ to
      whole = let q : stop d xs ≡ index_of d.element xs = rw e at stops in omega (arith, next_is, end_is)

      field_is : part rest start next ≡ field fields n
      field_is =
          rw (whole, start_is, next_field c.at c.within)
          (sym (part_cut (to - from) (from) last rest (omega (arith, within, order))))

      come_next : Come (n + 1) next
      come_next = rw whole (record {
        at = next_at c.at c.within;
        within = after_within d.element bytes end refl;
        ends = λ h. rw end_is (sym (get_or-drop (from) bytes (index_of d.element xs) 0) ∙ separator xs (omega (arith, end_is, length-drop (from) bytes)));
      })

  -- 6. The rows of the entry.
  -- a byte stands there that is neither valid nor a separator nor the terminator: the look is stuck
  record Stuck (end : ℕ) : Type 0 where
    pub within : end < length rest
    pub spoils : is_other (valid_bytes d) (get_or rest end 0) ≡ true
    pub apart_e : eqb (get_or rest end 0) d.element ≡ false
    pub apart_t : eqb (get_or rest end 0) d.terminator ≡ false

  module _ (rows : Guide) (below : ℕ) where
    -- what the look comes to by these rows
    abbrev come : Guide → ℕ → Marks → Option Passed
    come rs end m = passed_by (valid_bytes d) d rest rows below (read_rows (valid_bytes d) d rest rs end m)

    -- where it is stuck, something is found
    stuck_rows : (rs : Guide) (end : ℕ) (m : Marks) → Stuck end → come rs end m ≡ None
    unfolding start_after is_over
    stuck_rows rs end m s = go rs m
      where
        over : passed_by (valid_bytes d) d rest rows below (Some end) ≡ None
        over = rw (lt-ltb end (length rest) s.within, s.apart_t)

        stays : start_after d.element rest end ≡ end
        stays = rw (lt-ltb end (length rest) s.within, s.apart_e)

        go : (rs : Guide) (m : Marks) → come rs end m ≡ None
        go [] m = rw (read_end (valid_bytes d) d rest [] 0 end m (omega arith)) over
        go (r ∷ rs) m = by (is_row 1 r) refl (is_row 2 r) refl (go rs)
          where
            by : (a : Bool) → is_row 1 r ≡ a → (b : Bool) → is_row 2 r ≡ b → ((n : Marks) → come rs end n ≡ None) → come (r ∷ rs) end m ≡ None
            by true p b q f = rw (read_stop (valid_bytes d) d rest (r ∷ rs) 0 end m p) over
            by false p false q f = rw (read_skip (valid_bytes d) d rest (r ∷ rs) 0 end m (omega arith) p q) (skipped (is_row 4 r && breaks_note (marked m) (note_is r)))
              where
                skipped : (g : Bool) → passed_by (valid_bytes d) d rest rows below (if g then None else read_rows (valid_bytes d) d rest rs end m) ≡ None
                skipped true = refl
                skipped false = f m
            by false p true q f =
                rw (read_row (valid_bytes d) d rest (r ∷ rs) 0 end m (omega arith) p q, stays, next_here (is_other (valid_bytes d)) rest 0 end s.within s.spoils)
                (taken (eqb (row_code (row_is r (codes_in rs)) (part rest end end)) 0))
              where
                taken : (g : Bool)
                    → passed_by (valid_bytes d) d rest rows below (if g then read_rows (valid_bytes d) d rest rs end (marked_with m (ltb end end)) else None) ≡ None
                taken true = f (marked_with m (ltb end end))
                taken false = refl

    -- no value from place n on has a code by these rows, and no note of these is broken
    abbrev silent : Guide → ℕ → Bool
    silent rs n = silent_by d [] fields n (rows_in rs)

    abbrev sound : Guide → Bool
    sound rs = not (any (breaks_note (present fields)) (syntax_in rs))

    -- the look comes to what these say
    abbrev Says : Guide → ℕ → ℕ → Marks → Type 0
    Says rs n end m = come rs end m ≡ (if silent rs n && sound rs then Some (record { length = last; next = next_where (is_row 1) rows below }) else None)

    -- after the last element
    come_notes : (rs : Guide) (n end : ℕ) (m : Marks) → Come n end → Marked (present fields) n m → n ≤ 63 → rows_in rs ≡ []
        → all (names_within (n - 1)) (syntax_in rs) ≡ true → Says rs n end m
    come_notes rs n end m c k h p w =
        rw (read_notes (valid_bytes d) d rest rs end m p, marked_notes k h (syntax_in rs) w, p, silent_end d [] end c.at)
        (go (any (breaks_note (present fields)) (syntax_in rs)))
      where
        ends : (b : Bool) → leb (length bytes) end ≡ b
            → ◌≡◌ {A = Option Passed} (if b then Some (record { length = end; next = next_where (is_row 1) rows below }) else None)
            (if b && true then Some (record { length = last; next = next_where (is_row 1) rows below }) else None)
        ends true e =
            let l = leb-true (length bytes) end e in
            let z : end ≡ last = omega (arith, size, c.within) in
            rw z
        ends false e = refl

        go : (broken : Bool)
            → passed_by (valid_bytes d) d rest rows below (if broken then None else Some end)
            ≡ (if leb (length bytes) end && not broken then Some (record { length = last; next = next_where (is_row 1) rows below }) else None)
        go true = rw (and_false (leb (length bytes) end))
        go false = rw (over_is c) (ends (leb (length bytes) end) refl)

    -- the row of an element: the bytes of its field are valid, or the look is stuck in it
    module _ (r : List ℕ) (rs : Guide) (n end : ℕ) (m : Marks) (c : Come n end) (no-segment : is_row 1 r ≡ false) (element : is_row 2 r ≡ true) where
      abbrev row : Row
      row = row_is r (codes_in rs)

      abbrev good : Bool
      good = eqb (row_code row (part rest (start c) (next c))) 0

      -- the marks with its place
      abbrev more : Marks
      more = marked_with m (ltb (start c) (next c))

      -- what the row comes to
      read : come (r ∷ rs) end m ≡ passed_by (valid_bytes d) d rest rows below (if good then read_rows (valid_bytes d) d rest rs (next c) more else None)
      read = ap (passed_by (valid_bytes d) d rest rows below) (read_row (valid_bytes d) d rest (r ∷ rs) 0 end m (omega arith) no-segment element)

      -- what is left to be found
      left : {b : Bool} → b ≡ eqb (element_code d row (field fields n)) 0 → silent (r ∷ rs) n ≡ (b && true) && silent rs (n + 1)
      unfolding rows_in any
      left q = rw (no-segment, element) (silent_row d [] fields row (rows_in rs) n q)

      same_notes : syntax_in (r ∷ rs) ≡ syntax_in rs
      same_notes = notes_over r rs no-segment (other_row r element)

      -- where they are, the value and the rows after it decide
      row_taken : all (valid d) (field fields n) ≡ true → Says rs (n + 1) (next c) more → Says (r ∷ rs) n end m
      row_taken e f =
          let code : row_code row (field fields n) ≡ element_code d row (field fields n) = code_is d row (field fields n) e in
          let said : good ≡ eqb (element_code d row (field fields n)) 0 = rw (field_is c e, code) in
          rw (read, left said, same_notes) (go good (read_rows (valid_bytes d) d rest rs (next c) more) (silent rs (n + 1)) (sound rs) f)
        where
          go : (good : Bool) (s : Option ℕ) (silent sound : Bool)
              → passed_by (valid_bytes d) d rest rows below s ≡ (if silent && sound then Some (record { length = last; next = next_where (is_row 1) rows below }) else None)
              → passed_by (valid_bytes d) d rest rows below (if good then s else None)
              ≡ (if ((good && true) && silent) && sound then Some (record { length = last; next = next_where (is_row 1) rows below }) else None)
          go true s silent sound g = g
          go false s silent sound g = refl

      -- where they are not, its value has a code, and the look is stuck
      row_stuck : all (valid d) (field fields n) ≡ false → Says (r ∷ rs) n end m
      row_stuck e = rw (read, left (sym (code_spoiled d row (field fields n) e))) (go good)
        where
          stuck : Stuck (next c)
          stuck =
              let q : stop d (xs c) < index_of d.element (xs c) = rw e at (stops c) in
              let m : next c < last = omega (arith, next_is c, end_is c, within c) in
              record {
                within = omega (arith, last_within);
                spoils =
                    rw (get_or-drop (start c) rest (index_where (is_other (valid_bytes d)) (drop (start c) rest)) 0)
                    at (index_hit (is_other (valid_bytes d)) (drop (start c) rest) (omega (arith, length-drop (start c) rest, last_within)));
                apart_e =
                    rw (get_or-drop (from c) bytes (stop d (xs c)) 0, ← next_is c, inside (next c) m)
                    at (index_miss (λ x. eqb x d.element) (xs c) (stop d (xs c)) q);
                apart_t = index_miss (λ x. eqb x d.terminator) rest (next c) m;
              }

          go : (good : Bool)
              → passed_by (valid_bytes d) d rest rows below (if good then read_rows (valid_bytes d) d rest rs (next c) more else None) ≡ None
          go true = stuck_rows rs (next c) more stuck
          go false = refl

    -- row by row
    come_rows : (rs : Guide) (n end : ℕ) (m : Marks) (count : ℕ) → Come n end → Marked (present fields) n m → Fits n count rs → Says rs n end m
    unfolding rows_in followed
    come_rows [] n end m count c k w = come_notes [] n end m c k (fits_low w) refl (named_all w refl)
    come_rows (r ∷ rs) n end m count c k w = by (is_row 1 r) refl (is_row 2 r) refl (is_row 4 r) refl (come_rows rs)
      where
        by : (a : Bool) → is_row 1 r ≡ a → (b : Bool) → is_row 2 r ≡ b → (o : Bool) → is_row 4 r ≡ o
            → ((i j : ℕ) (v : Marks) (top : ℕ) → Come i j → Marked (present fields) i v → Fits i top rs → Says rs i j v) → Says (r ∷ rs) n end m
        by true p b q o z f = come_notes (r ∷ rs) n end m c k (fits_low w) (rw p) (named_all w (rw p))
        by false p false q true z f = come_notes (r ∷ rs) n end m c k (fits_low w) none_left (named_all w none_left)
          where
            none_left : rows_in (r ∷ rs) ≡ []
            none_left = rw (p, q) (nothing (rows_in rs) (rw z at (and_left (not (is_row 4 r) || has_none rs) (followed 4 has_none rs) w.last)))
        by false p false q false z f =
            rw (read_skip (valid_bytes d) d rest (r ∷ rs) 0 end m (omega arith) p q, z, p, q, notes_over r rs p z) (f n end m count c k (fits_over w p q z))
        by false p true q o z f = by_bytes (all (valid d) (field fields n)) refl
          where
            by_bytes : (b : Bool) → all (valid d) (field fields n) ≡ b → Says (r ∷ rs) n end m
            by_bytes true e =
                let l : n ≤ 62 = fits_more w p q in
                let has : ltb (start c) (next c) ≡ present fields n = rw (whole c e, start_is c) (sym (next_present c.at c.within)) in
                row_taken r rs n end m c p q e (f (n + 1) (next c) (marked_with m (ltb (start c) (next c))) count (come_next c e) (marked_next k l has) (fits_next w p q))
            by_bytes false e = row_stuck r rs n end m c p q e

-- A look at a segment comes to what its findings are: it ends at the terminator and has none, or there is one.
pub passed_law : (d : Delimiters) → eqb d.element d.terminator ≡ false → (rest : Bytes) (rows : Guide) (entry : ℕ)
    → (let below = drop (row_below rows entry) rows in Fits 1 (length (rows_in below)) below)
    → passed (valid_bytes d) d rest rows entry (id_end d rest)
    ≡ (let end = index_of d.terminator rest in
    if null (findings d (entry_at rows entry) (split d.element (take end rest)))
    then Some (record { length = end; next = next_where (is_row 1) rows (row_below rows entry) }) else None)
unfolding passed findings
passed_law d apart rest rows entry w =
    let below = row_below rows entry in
    let rs = drop below rows in
    let s = split d.element (take (index_of d.terminator rest) rest) in
    rw (← below_rest rows entry refl, silent_notes d (syntax_in rs) s (rows_in rs) 1, notes_broken s (length (rows_in rs)) (syntax_in rs) w.named)
    (come_rows d apart rest rows below rs 1 (id_end d rest) no_marks (length (rows_in rs)) (come_first d apart rest) (marked_none (present s)) w)
