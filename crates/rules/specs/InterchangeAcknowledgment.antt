-- Change request 3, TA1: the verdict on the interchange itself, the refusals, and the response.
use Rattle.std.specs.Prelude.{ℕ, Bool, not, List, [], ◌∷◌, ◌++◌, eqb, length, if◌then◌else◌}
use Rattle.rules.specs.Base.{Bytes, Rule, ◌⇒◌, first, last, ascii, same}
use Rattle.rules.specs.Cutting.{Segment, field, delimiters, isa, segments}
use Rattle.rules.specs.Numbers.{padded}
use Rattle.rules.specs.Groups.{groups_of}
use Rattle.rules.specs.Refusals.{call_rules, head_rules, is_terminated, enveloped, most_groups, has_two, closes, counts_groups}
use Rattle.rules.specs.Response.{out, isa_out, iea_out}
use Rattle.rules.specs.declared.Call.{Call}

-- 1. The verdict, of the bytes of the interchange alone: no number of the caller's, and not ISA14.
-- 6, 7 and the three tests of 8, each with its note code; the three in the order of this request
unfoldable pub note_code_rules : Bytes → List Rule
note_code_rules i =
    let d = delimiters i in
    let ss = segments d i in
    let iea = last [] ss in
    (not (is_terminated d i) ⇒ 23) ∷
    (not (enveloped most_groups ss) ⇒ 22) ∷
    (not (has_two iea) ⇒ 22) ∷
    (not (closes iea (field (isa i) 13)) ⇒ 1) ∷
    (not (counts_groups (length (groups_of ss)) iea) ⇒ 21) ∷
    []

-- TA104, A or R, and TA105, the note code
pub record Verdict : Type 0 where
  pub ta104 : Bytes
  pub ta105 : Bytes

-- A with 000 where no test fails, else R with the note code in three digits
abbrev pub verdict_by : ℕ → Verdict
verdict_by n = record { ta104 = if eqb n 0 then ascii "A" else ascii "R"; ta105 = padded 3 n }

unfoldable pub interchange_verdict : Bytes → Verdict
interchange_verdict i = verdict_by (first (note_code_rules i))

-- 2. The refusals.
-- 15: ISA14 asks for a TA1
abbrev pub asks_for_ta1 : Bytes → Bool
asks_for_ta1 i = same (field (isa i) 14) (ascii "1")

-- 1 to 5 as they are, then 15
unfoldable pub interchange_rules : Bytes → Call → List Rule
interchange_rules i call = call_rules call ++ head_rules i ++ (not (asks_for_ta1 i) ⇒ 15) ∷ []

-- the number of the refusal, 0 for none of 1 to 5 and 15
unfoldable pub interchange_refusal : Bytes → Call → ℕ
interchange_refusal i call = first (interchange_rules i call)

-- 3. The response.
-- the interchange by its ISA13, ISA09 and ISA10, and its verdict
unfoldable pub ta1 : Segment → Verdict → Segment
ta1 received v =
    ascii "TA1" ∷ field received 13 ∷ field received 9 ∷ field received 10 ∷ v.ta104 ∷ v.ta105 ∷ []

-- ISA of the 997, TA1, and IEA, which counts no group
unfoldable pub interchange_respond : Bytes → Call → List Segment
interchange_respond i call =
    isa_out (delimiters i) (isa i) call ∷ ta1 (isa i) (interchange_verdict i) ∷ iea_out 0 call.control ∷ []

unfoldable pub interchange_response : Bytes → Call → Bytes
interchange_response i call = out (delimiters i) (interchange_respond i call)
