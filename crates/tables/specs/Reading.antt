-- Reading a guide, a table as rows of six numbers, at a cursor: k is the index of a row.
use Rattle.std.specs.Prelude.{ℕ, ◌+◌, ◌%◌, ◌≤◌, ◌≡◌, Bool, true, ◌&&◌, ◌||◌, not, List, [], ◌∷◌, eqb, ltb, leb, length, get_or, take, drop, if◌then◌else◌, Option, None, Some}
use Rattle.rules.specs.Base.{Bytes, same, null, all, any, between, member}
use Rattle.rules.specs.Tables.{Row, Syntax, Entry}
use Rattle.tables.specs.Rows.{column, is_row, filled, codes_in, row_is, note_is, rows_in, syntax_in, entry_is, ids_in}
use Rattle.text.specs.Text.{next_where, index_of}
use Rattle.tables.specs.declared.SegmentId.{SegmentId}
use Rattle.tables.specs.declared.ElementRow.{ElementRow}
use Rattle.tables.specs.declared.Places.{Places}

-- a table as rows of numbers
abbrev pub Guide : Type 0
Guide = List (List ℕ)

-- a number is a byte
abbrev pub is_byte : ℕ → Bool
is_byte n = ltb n 256

-- the entry that row k is
abbrev pub entry_at : Guide → ℕ → Entry
entry_at rows k = entry_is (get_or rows k []) (drop (k + 1) rows)

-- the element that row k is
abbrev pub row_at : Guide → ℕ → Row
row_at rows k = row_is (get_or rows k []) (codes_in (drop (k + 1) rows))

-- the syntax note that row k is
abbrev pub note_at : Guide → ℕ → Syntax
note_at rows k = note_is (get_or rows k [])

-- the code values from row k on
abbrev pub codes_at : Guide → ℕ → List Bytes
codes_at rows k = codes_in (drop k rows)

-- the row below row k; past the end there is none, whatever the number
abbrev pub row_below : Guide → ℕ → ℕ
row_below rows k = if ltb k (length rows) then k + 1 else k

-- an element's row by value, all but its code values
abbrev pub element_row : Row → ElementRow
element_row r = record {
  reference = r.reference;
  mandatory = r.mandatory;
  kind = r.kind;
  shortest = r.shortest;
  longest = r.longest;
}

-- the places of the note that row k is, by value: the numbers after its relation, and how many stand before the first 0
abbrev pub places_at : Guide → ℕ → Places
places_at rows k =
    let r = get_or rows k [] in
    let numbers = column r 2 ∷ column r 3 ∷ column r 4 ∷ column r 5 ∷ [] in
    record { numbers = numbers; count = index_of 0 numbers }

-- the three numbers of a segment row's id
abbrev pub id_in : List ℕ → List ℕ
id_in r = take 3 (drop 1 r)

-- a row is a segment with this id
abbrev pub is_entry_row : Bytes → List ℕ → Bool
is_entry_row id r = is_row 1 r && same (filled (id_in r)) id

-- a row is a mandatory segment
abbrev pub is_mandatory_row : List ℕ → Bool
is_mandatory_row r = is_row 1 r && eqb (column r 4) 1

-- the first segment row with this id, the number of rows where there is none
unfoldable pub entry_row : Guide → Bytes → ℕ
entry_row rows id = next_where (is_entry_row id) rows 0

-- the first mandatory segment row from k on and before end
unfoldable pub next_mandatory : Guide → ℕ → ℕ → ℕ
next_mandatory rows k end = next_where is_mandatory_row (take end rows) k

-- the next segment row with this id from k on, where no mandatory one stands before it
unfoldable pub next_due : Guide → ℕ → Bytes → Option ℕ
next_due rows k id =
    let row = next_where (λ r. is_entry_row id r || is_mandatory_row r) rows k in
    if is_entry_row id (get_or rows row []) then Some row else None

-- the id of row k by value, of a number above 255 its low byte, and the bytes that such an id stands for
unfoldable pub id_at : Guide → ℕ → SegmentId
id_at rows k = let r = get_or rows k [] in record {
  first = column r 1 % 256;
  second = column r 2 % 256;
  third = column r 3 % 256;
}

unfoldable pub id_bytes : SegmentId → Bytes
id_bytes i = filled (i.first ∷ i.second ∷ i.third ∷ [])

-- the numbers of each segment's id are bytes
unfoldable pub ids_are_bytes : Guide → Bool
ids_are_bytes rows = all (λ r. not (is_row 1 r) || all is_byte (id_in r)) rows

-- no table has more rows: the body of a table in a file has at most 65,535 bytes, and a row takes one at least
abbrev pub most_rows : ℕ
most_rows = 65535

-- What readers of a guide may lean on: it begins with a segment, has no more rows than a table can have, and its ids are bytes.
-- Any table of up to 64 entries, with up to 30 elements and 10 notes each and any number of code values, keeps it.
pub record Limits (rows : Guide) : Type 0 where
  pub begins : is_row 1 (get_or rows 0 []) ≡ true
  pub few : length rows ≤ most_rows
  pub ids : ids_are_bytes rows ≡ true

-- a row is no segment, or its id stands in the directory
abbrev pub has_known_id : List (List ℕ) → List ℕ → Bool
has_known_id ids r = not (is_row 1 r) || member (filled (id_in r)) (ids_in ids)

-- no two segments have the same id
unfoldable pub ids_differ : Guide → Bool
ids_differ [] = true
ids_differ (r ∷ rs) = (not (is_row 1 r) || not (any (is_entry_row (filled (id_in r))) rs)) && ids_differ rs

-- the rows after each row of this kind pass
unfoldable pub followed : ℕ → (Guide → Bool) → Guide → Bool
followed what p [] = true
followed what p (r ∷ rs) = (not (is_row what r) || p rs) && followed what p rs

-- the elements up to the next segment are 62 at most
abbrev pub has_few : Guide → Bool
has_few rs = leb (length (rows_in rs)) 62

-- a note names only places of so many elements
abbrev pub names_within : ℕ → Syntax → Bool
names_within count c = all (between 1 count) c.places

-- the notes up to the next segment name only places of its elements
abbrev pub names_own : Guide → Bool
names_own rs = all (names_within (length (rows_in rs))) (syntax_in rs)

-- no element is left up to the next segment
abbrev pub has_none : Guide → Bool
has_none rs = null (rows_in rs)

-- What one look at a set may lean on: each segment's id stands in the directory, and no two segments have the same; a segment has at most 62
-- elements; its notes name only places of these; and they stand after them.
pub record Orderly (ids : List (List ℕ)) (rows : Guide) : Type 0 where
  pub known : all (has_known_id ids) rows ≡ true
  pub differ : ids_differ rows ≡ true
  pub few : followed 1 has_few rows ≡ true
  pub named : followed 1 names_own rows ≡ true
  pub last : followed 4 has_none rows ≡ true
