-- "Tables": what a table is, and the two tables of document 01.
use Rattle.std.specs.Prelude.{ℕ, Bool, true, false, List, [], ◌∷◌, if◌then◌else◌, Option, None, Some}
use Rattle.rules.specs.Base.{Bytes, ascii, same}
use Rattle.rules.specs.declared.Kind.{Kind}
use Rattle.rules.specs.declared.Kind.TheVariants.{AN, ID, N0, DT}
use Rattle.rules.specs.declared.Relation.{Relation}
use Rattle.rules.specs.declared.Relation.TheVariants.{P, R}

-- the row of an element; where codes are listed, the value is one of them
pub record Row : Type 0 where
  pub reference : ℕ
  pub mandatory : Bool
  pub kind : Kind
  pub shortest : ℕ
  pub longest : ℕ
  pub codes : List Bytes

-- a syntax note over places of a segment
pub record Syntax : Type 0 where
  pub relation : Relation
  pub places : List ℕ

-- an entry: a segment, whether it must stand, how often it may, its elements from place 1 on, and its syntax notes
pub record Entry : Type 0 where
  pub id : Bytes
  pub mandatory : Bool
  pub most : ℕ
  pub rows : List Row
  pub notes : List Syntax

-- a table: the ids that are known at all, and the entries of a set in their order
pub record Table : Type 0 where
  pub directory : List Bytes
  pub entries : List Entry

-- The tables of document 01.
-- mandatory and optional
abbrev pub M : Bool
M = true

abbrev pub O : Bool
O = false

abbrev pub row : ℕ → Bool → Kind → ℕ → ℕ → List Bytes → Row
row r m k lo hi cs = record { reference = r; mandatory = m; kind = k; shortest = lo; longest = hi; codes = cs }

abbrev pub entry : Bytes → Bool → ℕ → List Row → List Syntax → Entry
entry i m n rs ns = record { id = i; mandatory = m; most = n; rows = rs; notes = ns }

abbrev pub syntax : Relation → List ℕ → Syntax
syntax k ps = record { relation = k; places = ps }

unfoldable pub directory : List Bytes
directory = ascii "ST" ∷ ascii "SE" ∷ ascii "B1" ∷ ascii "L11" ∷ ascii "K1" ∷ []

unfoldable pub st_rows : List Row
st_rows =
    row 143 M ID 3 3 [] ∷
    row 329 M AN 4 9 [] ∷
    []

-- in 006010 only
unfoldable pub st_rows6 : List Row
st_rows6 =
    row 143 M ID 3 3 [] ∷
    row 329 M AN 4 9 [] ∷
    row 1705 O AN 1 35 [] ∷
    []

unfoldable pub se_rows : List Row
se_rows =
    row 96 M N0 1 10 [] ∷
    row 329 M AN 4 9 [] ∷
    []

unfoldable pub b1_rows : List Row
b1_rows =
    row 140 M ID 2 4 [] ∷
    row 145 O AN 1 30 [] ∷
    row 373 O DT 8 8 [] ∷
    row 558 O ID 1 1 (ascii "A" ∷ ascii "D" ∷ []) ∷
    []

unfoldable pub l11_rows : List Row
l11_rows =
    row 127 O AN 1 30 [] ∷
    row 128 O ID 2 3 [] ∷
    row 352 O AN 1 80 [] ∷
    []

unfoldable pub l11_notes : List Syntax
l11_notes = syntax P (1 ∷ 2 ∷ []) ∷ syntax R (1 ∷ 3 ∷ []) ∷ []

unfoldable pub k1_rows : List Row
k1_rows =
    row 61 M AN 1 30 [] ∷
    row 61 O AN 1 30 [] ∷
    []

unfoldable pub table006010 : Table
table006010 = record {
  directory = directory;
  entries =
      entry (ascii "ST") M 1 st_rows6 [] ∷
      entry (ascii "B1") M 1 b1_rows [] ∷
      entry (ascii "L11") O 1 l11_rows l11_notes ∷
      entry (ascii "SE") M 1 se_rows [] ∷
      [];
}

unfoldable pub table004010 : Table
table004010 = record {
  directory = directory;
  entries =
      entry (ascii "ST") M 1 st_rows [] ∷
      entry (ascii "B1") M 1 b1_rows [] ∷
      entry (ascii "K1") O 10 k1_rows [] ∷
      entry (ascii "SE") M 1 se_rows [] ∷
      [];
}

-- the table of an edition, which is the first six bytes of GS08
unfoldable pub edition_table : Bytes → Option Table
edition_table edition =
    if same edition (ascii "006010") then Some table006010
    else (if same edition (ascii "004010") then Some table004010 else None)

-- the table of a set, by its edition and ST01
unfoldable pub set_table : Bytes → Bytes → Option Table
set_table edition st01 = if same st01 (ascii "990") then edition_table edition else None
