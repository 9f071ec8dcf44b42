-- A table of a test's own, and the notes of a set by it. Its segment T1 has elements of all types, and in it code 10 meets every code of a value.
use Rattle.std.specs.Prelude.{true, List, [], ◌∷◌, Some}
use Rattle.rules.specs.Base.{Bytes, ascii}
use Rattle.rules.specs.Cutting.{Segment, segments}
use Rattle.rules.specs.Tables.{Row, Syntax, Table, M, O, row, entry, syntax, st_rows, se_rows}
use Rattle.rules.specs.Segments.{Note, notes_of}
use Rattle.rules.specs.Response.{out, ak3s}
use Rattle.rules.specs.declared.Delimiters.{Delimiters}
use Rattle.rules.specs.declared.Kind.TheVariants.{AN, ID, N0, DT, TM}
use Rattle.rules.specs.declared.Relation.TheVariants.{E}

unfoldable pub t1_rows : List Row
t1_rows =
    row 901 O AN 1 9 [] ∷
    row 902 O AN 3 5 [] ∷
    row 903 O ID 2 2 (ascii "AA" ∷ ascii "BB" ∷ []) ∷
    row 904 O N0 2 3 [] ∷
    row 905 O DT 8 8 [] ∷
    row 906 O TM 4 8 [] ∷
    []

unfoldable pub t1_notes : List Syntax
t1_notes = syntax E (1 ∷ 2 ∷ 3 ∷ 4 ∷ []) ∷ syntax E (1 ∷ 4 ∷ 5 ∷ 6 ∷ []) ∷ []

unfoldable pub other_table : Table
other_table = record {
  directory = ascii "ST" ∷ ascii "SE" ∷ ascii "T1" ∷ [];
  entries =
      entry (ascii "ST") M 1 st_rows [] ∷
      entry (ascii "T1") O 9 t1_rows t1_notes ∷
      entry (ascii "SE") M 1 se_rows [] ∷
      [];
}

-- the delimiters * > ~ ^
abbrev pub other_delimiters : Delimiters
other_delimiters = record { element = 42; component = 62; terminator = 126; repetition = Some 94 }

-- the notes of a set with a trailer, by its segments
abbrev pub other_notes : List Segment → List Note
other_notes [] = []
other_notes (header ∷ after) = notes_of other_delimiters other_table true header after

-- their text
unfoldable pub notes_text : Bytes → Bytes
notes_text set = out other_delimiters (ak3s (other_notes (segments other_delimiters set)))
