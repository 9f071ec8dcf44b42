-- A table as rows of six numbers, and what they mean. The first number tells what a row is:
--    1  a segment:      its id as three numbers (the third 0 where it has two bytes), 1 where it is mandatory, how often it may stand
--    2  its element:    reference number, 1 where it is mandatory, type (0 AN, 1 ID, 2 N0, 3 DT, 4 TM), shortest, longest
--    3  the element's code value: its bytes, five at most, then 0
--    4  a syntax note:  relation (0 P, 1 R, 2 E, 3 C, 4 L), and its places, four at most, then 0
use Rattle.std.specs.Prelude.{ℕ, Bool, List, [], ◌∷◌, eqb, take, drop, get_or, if◌then◌else◌}
use Rattle.rules.specs.Base.{Bytes}
use Rattle.rules.specs.Tables.{Row, Syntax, Entry, Table}
use Rattle.rules.specs.declared.Kind.{Kind}
use Rattle.rules.specs.declared.Kind.TheVariants.{AN, ID, N0, DT, TM}
use Rattle.rules.specs.declared.Relation.{Relation}
use Rattle.rules.specs.declared.Relation.TheVariants.{P, R, E, C, L}

-- the number in a column, counted from 0; 0 where the row has none
abbrev pub column : List ℕ → ℕ → ℕ
column r k = get_or r k 0

-- the row is what this first number tells
abbrev pub is_row : ℕ → List ℕ → Bool
is_row what r = eqb (column r 0) what

-- the numbers before the first 0
unfoldable pub filled : List ℕ → List ℕ
filled [] = []
filled (x ∷ xs) = let r = filled xs in if eqb x 0 then [] else x ∷ r

-- the type that a number stands for
unfoldable pub kind_of : ℕ → Kind
kind_of n =
    if eqb n 1 then ID else (if eqb n 2 then N0 else (if eqb n 3 then DT else (if eqb n 4 then TM else AN)))

-- the relation that a number stands for
unfoldable pub relation_of : ℕ → Relation
relation_of n =
    if eqb n 1 then R else (if eqb n 2 then E else (if eqb n 3 then C else (if eqb n 4 then L else P)))

-- the code values that follow an element
unfoldable pub codes_in : List (List ℕ) → List Bytes
codes_in [] = []
codes_in (r ∷ rs) = let more = codes_in rs in if is_row 3 r then filled (drop 1 r) ∷ more else []

-- an element by its row and its code values
abbrev pub row_is : List ℕ → List Bytes → Row
row_is r codes = record {
  reference = column r 1;
  mandatory = eqb (column r 2) 1;
  kind = kind_of (column r 3);
  shortest = column r 4;
  longest = column r 5;
  codes = codes;
}

-- the elements up to the next segment
unfoldable pub rows_in : List (List ℕ) → List Row
rows_in [] = []
rows_in (r ∷ rs) = let more = rows_in rs in if is_row 1 r then [] else (if is_row 2 r then row_is r (codes_in rs) ∷ more else more)

-- a syntax note by its row
abbrev pub note_is : List ℕ → Syntax
note_is r = record { relation = relation_of (column r 1); places = filled (take 4 (drop 2 r)) }

-- the syntax notes up to the next segment
unfoldable pub syntax_in : List (List ℕ) → List Syntax
syntax_in [] = []
syntax_in (r ∷ rs) =
    let more = syntax_in rs in
    if is_row 1 r then [] else (if is_row 4 r then note_is r ∷ more else more)

-- a segment by its row and the rows after it
abbrev pub entry_is : List ℕ → List (List ℕ) → Entry
entry_is r rs = record {
  id = filled (take 3 (drop 1 r));
  mandatory = eqb (column r 4) 1;
  most = column r 5;
  rows = rows_in rs;
  notes = syntax_in rs;
}

-- the segments of a set in their order
unfoldable pub entries_in : List (List ℕ) → List Entry
entries_in [] = []
entries_in (r ∷ rs) = let more = entries_in rs in if is_row 1 r then entry_is r rs ∷ more else more

-- the ids of a directory, each three numbers, the third 0 where it has two bytes
unfoldable pub ids_in : List (List ℕ) → List Bytes
ids_in [] = []
ids_in (r ∷ rs) = filled r ∷ ids_in rs

-- the table that a directory and rows of numbers mean
unfoldable pub table_of : List (List ℕ) → List (List ℕ) → Table
table_of ids rows = record { directory = ids_in ids; entries = entries_in rows }
