-- One look at the segment that the bytes begin with: its fields are taken by the rows of its entry, as far as their bytes are valid by a table.
use Rattle.std.specs.Prelude.{ℕ, ◌+◌, Bool, true, ◌&&◌, ◌||◌, List, [], ◌∷◌, eqb, ltb, length, get_or, drop, if◌then◌else◌, Option, None, Some}
use Rattle.rules.specs.Base.{Bytes}
use Rattle.rules.specs.declared.Delimiters.{Delimiters}
use Rattle.text.specs.Text.{index_where, next_where, part}
use Rattle.tables.specs.Rows.{is_row, row_is, note_is, codes_in}
use Rattle.tables.specs.Reading.{Guide, row_below}
use Rattle.elements.specs.Values.{row_code}
use Rattle.elements.specs.Marks.{no_marks, marked_with, marked, breaks_note}
use Rattle.elements.specs.declared.Marks.{Marks}
use Rattle.look.specs.Bytes.{is_other}
use Rattle.look.specs.declared.segment.Passed.{Passed}

-- where the id ends: at a separator or a terminator, or with the bytes
unfoldable pub id_end : Delimiters → Bytes → ℕ
id_end d rest = index_where (λ b. eqb b d.element || eqb b d.terminator) rest

-- where the field starts that follows the one which ends at `end`: after its separator e; right there where none stands there
unfoldable pub start_after : ℕ → Bytes → ℕ → ℕ
start_after e rest end = if ltb end (length rest) && eqb (get_or rest end 0) e then end + 1 else end

-- the segment ends there: its terminator t stands there, or nothing
unfoldable pub is_over : ℕ → Bytes → ℕ → Bool
is_over t rest end = if ltb end (length rest) then eqb (get_or rest end 0) t else true

module _ (table : List Bool) (d : Delimiters) (rest : Bytes) where
  -- where the next field starts, and where its valid bytes end
  abbrev pub begins : ℕ → ℕ
  begins end = start_after d.element rest end

  abbrev pub stops : ℕ → ℕ
  stops end = next_where (is_other table) rest (begins end)

  -- the places that are present, with the next field
  abbrev pub marks_with : Marks → ℕ → Marks
  marks_with m end = marked_with m (ltb (begins end) (stops end))

  -- The rows up to the next segment, after the field that ends at `end`, by the places that are present so far: where the last field ends; none
  -- where a field is not taken or a note is broken.
  unfoldable pub read_rows : Guide → ℕ → Marks → Option ℕ
  read_rows [] end m = Some end
  read_rows (r ∷ rs) end m =
      let next = read_rows rs (stops end) (marks_with m end) in
      let here = read_rows rs end m in
      if is_row 1 r then Some end
      else (if is_row 2 r then (if eqb (row_code (row_is r (codes_in rs)) (part rest (begins end) (stops end))) 0 then next else None)
      else (if is_row 4 r && breaks_note (marked m) (note_is r) then None else here))

  -- the segment by where its last field ends: it ends there too, or something is found
  abbrev pub passed_by : Guide → ℕ → Option ℕ → Option Passed
  passed_by rows below None = None
  passed_by rows below (Some end) =
      if is_over d.terminator rest end then Some (record { length = end; next = next_where (is_row 1) rows below }) else None

  -- the segment whose id ends at `id`, by the entry of a row
  unfoldable pub passed : Guide → ℕ → ℕ → Option Passed
  passed rows entry id = let below = row_below rows entry in passed_by rows below (read_rows (drop below rows) id no_marks)
