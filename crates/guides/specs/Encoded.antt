-- A table as rows of six numbers, the other way round from `table_of`: each segment, its elements with their code values, its notes.
use Rattle.std.specs.Prelude.{ℕ, Bool, true, false, List, [], ◌∷◌, ◌++◌, map, take, replicate}
use Rattle.rules.specs.Base.{Bytes}
use Rattle.rules.specs.Tables.{Row, Syntax, Entry, table006010, table004010, directory}
use Rattle.rules.specs.declared.Kind.{Kind}
use Rattle.rules.specs.declared.Kind.TheVariants.{AN, ID, N0, DT, TM}
use Rattle.rules.specs.declared.Relation.{Relation}
use Rattle.rules.specs.declared.Relation.TheVariants.{P, R, E, C, L}
use Rattle.tables.specs.Reading.{Guide}

abbrev pub flag : Bool → ℕ
flag true = 1
flag false = 0

abbrev pub kind_number : Kind → ℕ
kind_number AN = 0
kind_number ID = 1
kind_number N0 = 2
kind_number DT = 3
kind_number TM = 4

abbrev pub relation_number : Relation → ℕ
relation_number P = 0
relation_number R = 1
relation_number E = 2
relation_number C = 3
relation_number L = 4

-- n numbers, those after the last of xs 0
abbrev pub fill : ℕ → List ℕ → List ℕ
fill n xs = take n (xs ++ replicate n 0)

abbrev pub value_row : Bytes → List ℕ
value_row code = 3 ∷ fill 5 code

abbrev pub element_rows : Row → Guide
element_rows r =
    (2 ∷ r.reference ∷ flag r.mandatory ∷ kind_number r.kind ∷ r.shortest ∷ r.longest ∷ []) ∷ map value_row r.codes

abbrev pub note_row : Syntax → List ℕ
note_row n = 4 ∷ relation_number n.relation ∷ fill 4 n.places

abbrev pub elements_rows : List Row → Guide
elements_rows [] = []
elements_rows (r ∷ rs) = element_rows r ++ elements_rows rs

abbrev pub entry_rows : Entry → Guide
entry_rows e =
    (1 ∷ (fill 3 e.id ++ (flag e.mandatory ∷ e.most ∷ []))) ∷ (elements_rows e.rows ++ map note_row e.notes)

abbrev pub entries_rows : List Entry → Guide
entries_rows [] = []
entries_rows (e ∷ es) = entry_rows e ++ entries_rows es

-- the guides of document 01, and its directory
unfoldable pub guide006010 : Guide
guide006010 = entries_rows table006010.entries

unfoldable pub guide004010 : Guide
guide004010 = entries_rows table004010.entries

unfoldable pub directory_rows : List (List ℕ)
directory_rows = map (fill 3) directory
