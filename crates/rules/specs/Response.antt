-- "The response": the segments of each 997 as a function of its group's report, the envelope around them, and their bytes.
use Rattle.std.specs.Prelude.{ℕ, ◌+◌, List, [], ◌∷◌, ◌++◌, map, eqb, length, if◌then◌else◌}
use Rattle.rules.specs.Base.{Bytes, ascii, null}
use Rattle.rules.specs.Cutting.{Segment, field, delimiters, isa, segments}
use Rattle.rules.specs.Numbers.{padded, decimal}
use Rattle.rules.specs.Elements.{Finding}
use Rattle.rules.specs.Segments.{Note}
use Rattle.rules.specs.Sets.{SetReport, accepted}
use Rattle.rules.specs.Groups.{Group, groups_of, GroupReport, group_report}
use Rattle.rules.specs.declared.Call.{Call}
use Rattle.rules.specs.declared.Delimiters.{Delimiters}

-- 1. Segments into bytes.
-- each field after a separator
unfoldable pub fields_out : Delimiters → Segment → Bytes
fields_out d [] = []
fields_out d (f ∷ fs) = d.element ∷ (f ++ fields_out d fs)

-- the id, the elements and the terminator
abbrev pub segment_out : Delimiters → Segment → Bytes
segment_out d [] = []
segment_out d (id ∷ fs) = id ++ fields_out d fs ++ d.terminator ∷ []

unfoldable pub out : Delimiters → List Segment → Bytes
out d [] = []
out d (s ∷ ss) = segment_out d s ++ out d ss

-- 2. The block of a set, AK2 to AK5.
-- an element at the end of a segment, left off where it is empty
unfoldable pub trailing : Bytes → List Bytes
trailing e = if null e then [] else e ∷ []

-- place, reference number (nothing where there is none), code, and the echo where there is one
unfoldable pub ak4 : Finding → Segment
ak4 f =
    ascii "AK4" ∷ decimal f.place ∷ (if eqb f.reference 0 then [] else decimal f.reference)
    ∷ decimal f.code ∷ trailing f.echo

-- id, position, nothing, codes; and the AK4 under it
unfoldable pub ak3 : Note → List Segment
ak3 n = (ascii "AK3" ∷ n.id ∷ decimal n.position ∷ [] ∷ map decimal n.codes) ∷ map ak4 n.findings

unfoldable pub ak3s : List Note → List Segment
ak3s [] = []
ak3s (n ∷ ns) = ak3 n ++ ak3s ns

unfoldable pub ak2 : SetReport → Segment
ak2 r = ascii "AK2" ∷ r.st01 ∷ r.st02 ∷ []

unfoldable pub ak5 : SetReport → Segment
ak5 r = ascii "AK5" ∷ (if accepted r then ascii "A" else ascii "R") ∷ map decimal r.codes

unfoldable pub block : SetReport → List Segment
block r = ak2 r ∷ (ak3s r.notes ++ ak5 r ∷ [])

unfoldable pub blocks : List SetReport → List Segment
blocks [] = []
blocks (r ∷ rs) = block r ++ blocks rs

-- 3. The transaction set, ST to SE, with its ST02.
unfoldable pub ak1 : GroupReport → Segment
ak1 g = ascii "AK1" ∷ g.gs01 ∷ g.gs06 ∷ []

unfoldable pub ak9 : GroupReport → Segment
ak9 g =
    ascii "AK9" ∷ g.verdict ∷ decimal g.included ∷ decimal g.received ∷ decimal g.allowed
    ∷ map decimal g.codes

unfoldable pub st_out : Bytes → Segment
st_out st02 = ascii "ST" ∷ ascii "997" ∷ st02 ∷ []

unfoldable pub se_out : ℕ → Bytes → Segment
se_out n st02 = ascii "SE" ∷ decimal n ∷ st02 ∷ []

-- from ST to AK9
unfoldable pub told : Bytes → GroupReport → List Segment
told st02 g = st_out st02 ∷ (ak1 g ∷ (blocks g.sets ++ ak9 g ∷ []))

-- SE counts itself too
unfoldable pub transaction_set : Bytes → GroupReport → List Segment
transaction_set st02 g = told st02 g ++ se_out (length (told st02 g) + 1) st02 ∷ []

-- one for each group, in order; ST02 counts from n on, in four digits
unfoldable pub transaction_sets : ℕ → List GroupReport → List Segment
transaction_sets n [] = []
transaction_sets n (g ∷ gs) = transaction_set (padded 4 n) g ++ transaction_sets (n + 1) gs

-- 4. The envelope: the parties change places.
unfoldable pub isa_out : Delimiters → Segment → Call → Segment
isa_out d received call =
    ascii "ISA" ∷ ascii "00" ∷ ascii "          " ∷ ascii "00" ∷ ascii "          "
    ∷ field received 7 ∷ field received 8 ∷ field received 5 ∷ field received 6
    ∷ padded 6 call.date ∷ padded 4 call.time ∷ ascii "U" ∷ ascii "00401" ∷ padded 9 call.control ∷ ascii "0"
    ∷ field received 15 ∷ (d.component ∷ []) ∷ []

unfoldable pub gs_out : Segment → Call → Segment
gs_out gs call =
    ascii "GS" ∷ ascii "FA" ∷ field gs 3 ∷ field gs 2 ∷ padded 8 call.date ∷ padded 4 call.time ∷ decimal call.control
    ∷ ascii "X" ∷ ascii "004010" ∷ []

unfoldable pub ge_out : ℕ → ℕ → Segment
ge_out n control = ascii "GE" ∷ decimal n ∷ decimal control ∷ []

unfoldable pub iea_out : ℕ → ℕ → Segment
iea_out n control = ascii "IEA" ∷ decimal n ∷ padded 9 control ∷ []

-- 5. The whole response to an interchange.
-- GS of the first group
abbrev pub first_header : List Group → Segment
first_header [] = []
first_header (g ∷ gs) = g.header

-- ISA, one FA group with a 997 for each group received, and IEA; GS is that for the first of them
unfoldable pub respond : Bytes → List Group → Call → List Segment
respond i gs call =
    let d = delimiters i in
    isa_out d (isa i) call
    ∷ (gs_out (first_header gs) call
    ∷ (transaction_sets 1 (map (group_report d) gs)
    ++ ge_out (length gs) call.control ∷ iea_out 1 call.control ∷ []))

unfoldable pub response : Bytes → Call → Bytes
response i call =
    let d = delimiters i in
    out d (respond i (groups_of (segments d i)) call)
