-- The check of a segment, place by place, as a function of the cursor: total, whatever the cursor says.
use Rattle.std.specs.Prelude.{ℕ, ◌+◌, min, max, Bool, not, ◌||◌, List, [], ◌∷◌, ◌++◌, map, length, drop, ◌==◌, nat_lt, if◌then◌else◌, Option, Some, None}
use Rattle.rules.specs.Base.{Bytes, every, ◌⇒◌}
use Rattle.rules.specs.Cutting.{split}
use Rattle.rules.specs.Elements.{element_code, is_echoed, Finding, surplus_at}
use Rattle.rules.specs.declared.Delimiters.{Delimiters}
use Rattle.rules.specs.declared.Finding as declared
use Rattle.rules.specs.declared.Span.{Span}
use Rattle.tables.specs.Rows.{is_row, syntax_in}
use Rattle.tables.specs.Reading.{Guide, row_at, row_below}
use Rattle.text.specs.Text.{index_of, next_where, part}
use Rattle.elements.specs.Notes.{note_code_by}
use Rattle.elements.specs.declared.Cursor.{Cursor}
use Rattle.elements.specs.declared.Found.{Found}
use Rattle.elements.specs.declared.PlaceCodes.{PlaceCodes}

-- the law's finding for one that the program makes: the echoed bytes of the segment s in place of where they lie
abbrev pub finding_in : Bytes → declared.Finding → Finding
finding_in s f = record { place = f.place; reference = f.reference; code = f.code; echo = part s f.echo.start f.echo.end }

-- the first 99 bytes of what lies at v, or as many as there are
abbrev pub beginning : Span → Span
beginning v = record { start = v.start; end = if nat_lt (v.start + 99) v.end then v.start + 99 else v.end }

-- where the echo of a place lies under code c: at the beginning of the value, or nowhere, which is an empty part at its start
unfoldable pub echo_at : PlaceCodes → ℕ → Span
echo_at p c =
    if is_echoed c p.own then beginning p.value
    else record { start = p.value.start; end = p.value.start }

-- the finding that a code of a place is
abbrev pub finding_by : PlaceCodes → ℕ → declared.Finding
finding_by p c = record { place = p.place; reference = p.reference; code = c; echo = echo_at p c }

-- the codes of a place, the lower first: the value's own, and that of the notes
abbrev pub given_codes : PlaceCodes → List ℕ
given_codes p =
    let lower = min p.own p.noted in
    let higher = max p.own p.noted in
    every ((not (lower == 0) ⇒ lower) ∷ (not (higher == 0) ⇒ higher) ∷ [])

-- the findings that they are, in the segment s
unfoldable pub findings_at : Bytes → PlaceCodes → List Finding
findings_at s p = map (λ c. finding_in s (finding_by p c)) (given_codes p)

-- the place after place n, as far as 64 bits go
abbrev pub place_after : ℕ → ℕ
place_after n = min (n + 1) 18446744073709551615

-- the first row from row k on that is a note or a segment
unfoldable pub note_row : Guide → ℕ → ℕ
note_row rows k = next_where (λ r. is_row 4 r || is_row 1 r) rows k

-- where the field starts that follows the one which ends at `end`; the segment's end where none follows
unfoldable pub next_start : Bytes → ℕ → ℕ
next_start s end = if nat_lt end (length s) then end + 1 else length s

-- the field that follows the one which ends at `end`
unfoldable pub field_after : ℕ → Bytes → ℕ → Span
field_after e s end = let start = next_start s end in record { start = start; end = start + index_of e (drop start s) }

-- there is a code
abbrev pub is_coded : PlaceCodes → Bool
is_coded p = not (p.own == 0) || not (p.noted == 0)

-- after the rows, one more element has code 3
unfoldable pub surplus : Bytes → Cursor → Option Found
surplus s c =
    if nat_lt c.end (length s)
    then Some (record {
      codes = record { place = c.place; reference = 0; own = 3; noted = 0; value = record { start = 0; end = 0 } };
      next = record { notes = c.notes; row = c.row; place = c.place; end = length s };
    })
    else None

abbrev pub surplus_findings : Bytes → Cursor → List Finding
surplus_findings s c = if nat_lt c.end (length s) then surplus_at c.place ∷ [] else []

module _ (d : Delimiters) (s : Bytes) (rows : Guide) where
  -- the codes of the next place by the element of the next row, in the next field
  unfoldable pub codes_at : Cursor → PlaceCodes
  codes_at c =
      let f = field_after d.element s c.end in
      let e = part s f.start f.end in
      let row = row_at rows c.row in
      record {
        place = c.place;
        reference = row.reference;
        own = element_code d row e;
        noted = note_code_by (nat_lt f.start f.end) (syntax_in (drop c.notes rows)) (split d.element s) c.place;
        value = f;
      }

  -- the cursor past that place; past a row that is no element
  abbrev pub past : Cursor → Cursor
  past c = record { notes = c.notes; row = c.row + 1; place = place_after c.place; end = (field_after d.element s c.end).end }

  abbrev pub over : Cursor → Cursor
  over c = record { notes = c.notes; row = c.row + 1; place = c.place; end = c.end }

  -- what is found next among the rows that are left
  unfoldable pub found_in : Guide → Cursor → Option Found
  found_in [] c = surplus s c
  found_in (r ∷ rs) c =
      let later = found_in rs (past c) in
      let skipped = found_in rs (over c) in
      if is_row 1 r then surplus s c
      else (if is_row 2 r then (if is_coded (codes_at c) then Some (record { codes = codes_at c; next = past c }) else later) else skipped)

  unfoldable pub next_found : Cursor → Option Found
  next_found c = found_in (drop c.row rows) c

  -- all that is found among them
  unfoldable pub findings_in : Guide → Cursor → List Finding
  findings_in [] c = surplus_findings s c
  findings_in (r ∷ rs) c =
      let later = findings_in rs (past c) in
      let skipped = findings_in rs (over c) in
      if is_row 1 r then surplus_findings s c
      else (if is_row 2 r then findings_at s (codes_at c) ++ later else skipped)

  unfoldable pub findings_left : Cursor → List Finding
  findings_left c = findings_in (drop c.row rows) c

  -- the findings from what is found on
  abbrev pub findings_from : Option Found → List Finding
  findings_from (Some f) = findings_at s f.codes ++ findings_left f.next
  findings_from None = []

  -- where the check by the entry of row k starts
  unfoldable pub start : ℕ → Cursor
  start k =
      let row = row_below rows k in
      record { notes = note_row rows row; row = row; place = 1; end = 0 + index_of d.element s }
