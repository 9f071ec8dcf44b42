-- "Cutting": segments and their elements, ISA by its places, the delimiters, and the valid bytes.
use Rattle.std.specs.Prelude.{ℕ, ◌+◌, Bool, true, false, ◌&&◌, not, List, [], ◌∷◌, map, leb, eqb, length, get_or, if◌then◌else◌, None, Option, Some}
use Rattle.std.proofs.Math.Seq.{slice}
use Rattle.rules.specs.Base.{Bytes, between, same, all, any, push}
use Rattle.rules.specs.Numbers.{digits, value}
use Rattle.rules.specs.declared.Delimiters.{Delimiters}

-- 1. Segments.
-- A segment is its fields: field 0 is the id, and field n is element n.
abbrev pub Segment : Type 0
Segment = List Bytes

-- field n, empty where the segment has none
abbrev pub field : Segment → ℕ → Bytes
field s n = get_or s n []

abbrev pub is_named : Bytes → Segment → Bool
is_named name s = same (field s 0) name

-- one byte in front of the pieces: it cuts, or it is the first byte of the first piece
abbrev pub cut_at : Bool → ℕ → List Bytes → List Bytes
cut_at true b ps = [] ∷ ps
cut_at false b ps = push b ps

-- the pieces that the terminator t ends; bytes after the last terminator are a piece too
unfoldable pub pieces : ℕ → Bytes → List Bytes
pieces t [] = []
pieces t (b ∷ bs) = cut_at (eqb b t) b (pieces t bs)

-- the fields that the separator s starts, after the id
unfoldable pub split : ℕ → Bytes → Segment
split s [] = [] ∷ []
split s (b ∷ bs) = cut_at (eqb b s) b (split s bs)

-- all segments of an interchange
unfoldable pub segments : Delimiters → Bytes → List Segment
segments d i = map (split d.element) (pieces d.terminator i)

-- 2. ISA by its fixed places.
-- where the sixteen separators of ISA stand
unfoldable pub separators : List ℕ
separators = 3 ∷ 6 ∷ 17 ∷ 20 ∷ 31 ∷ 34 ∷ 50 ∷ 53 ∷ 69 ∷ 76 ∷ 81 ∷ 83 ∷ 89 ∷ 99 ∷ 101 ∷ 103 ∷ []

-- the fields from start on, each up to the next of the places
unfoldable pub fields_at : ℕ → List ℕ → Bytes → Segment
fields_at start [] i = []
fields_at start (e ∷ es) i = slice start e i ∷ fields_at (e + 1) es i

-- the fields of ISA, up to ISA15
unfoldable pub isa : Bytes → Segment
isa = fields_at 0 separators

-- 3. The delimiters.
-- a control version that knows repetition, by ISA12: five digits of value 402 or more
unfoldable pub knows_repetition : Bytes → Bool
knows_repetition isa12 = digits 5 5 isa12 && leb 402 (value isa12)

-- the repetition separator: ISA11, which is byte 82, where ISA12 knows repetition and ISA11 is not `U`; else nothing
unfoldable pub repetition_in : Bytes → Option ℕ
repetition_in i =
    let isa11 = get_or i 82 0 in
    if knows_repetition (field (isa i) 12) && not (eqb isa11 85) then Some isa11 else None

-- the delimiters that an interchange brings: byte 3, ISA16, the byte after it, and ISA11 where it is the repetition separator
unfoldable pub delimiters : Bytes → Delimiters
delimiters i =
    record { element = get_or i 3 0; component = get_or i 104 0; terminator = get_or i 105 0; repetition = repetition_in i }

-- the list of none or one
abbrev pub repetition_mark : Option ℕ → List ℕ
repetition_mark None = []
repetition_mark (Some b) = b ∷ []

-- the list of the delimiters: three, or four
unfoldable pub marks : Delimiters → List ℕ
marks d = d.element ∷ d.component ∷ d.terminator ∷ repetition_mark d.repetition

-- 4. Bytes.
-- the byte is the repetition separator
unfoldable pub separates_repetitions : Delimiters → ℕ → Bool
separates_repetitions d b = any (eqb b) (repetition_mark d.repetition)

-- a valid byte: 32 to 126 and no delimiter
unfoldable pub valid : Delimiters → ℕ → Bool
valid d b = between 32 126 b && not (any (eqb b) (marks d))

-- lo to hi valid bytes and nothing else
unfoldable pub text : Delimiters → ℕ → ℕ → Bytes → Bool
text d lo hi bs = between lo hi (length bs) && all (valid d) bs
