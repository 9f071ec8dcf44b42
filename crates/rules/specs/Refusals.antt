-- "Refusal numbers, in the order of checking": 1 to 13, as blocks of rules under one `first`.
use Rattle.std.specs.Prelude.{ℕ, ◌/◌, ◌%◌, Bool, true, ◌&&◌, ◌||◌, not, List, [], ◌∷◌, ◌++◌, leb, eqb, length, take, drop, get_or, None, Option, Some}
use Rattle.rules.specs.Base.{Bytes, Rule, ◌⇒◌, first, null, all, any, between, is_digit, is_upper, is_lower, is_upper_or_digit, ascii, same, member, last}
use Rattle.rules.specs.Cutting.{Segment, field, is_named, delimiters, marks, separators, valid, text, isa, segments}
use Rattle.rules.specs.Numbers.{digits, declares, is_day, is_date, is_time}
use Rattle.rules.specs.Sets.{sets_of, outside}
use Rattle.rules.specs.Groups.{Group, groups_of}
use Rattle.rules.specs.declared.Call.{Call}
use Rattle.rules.specs.declared.Delimiters.{Delimiters}

-- 1: the caller's numbers
unfoldable pub good_call : Call → Bool
good_call call =
    (leb call.date 99991231 && is_day call.date)
    && (leb (call.time / 100) 23 && leb (call.time % 100) 59)
    && between 1 999999999 call.control

unfoldable pub call_rules : Call → List Rule
call_rules call = (not (good_call call) ⇒ 1) ∷ []

-- 3: ISA, and a separator at each of its places
unfoldable pub has_isa : Bytes → Bool
has_isa i = same (take 3 i) (ascii "ISA") && all (λ at. eqb (get_or i at 0) (get_or i 3 0)) separators

-- 4: no letter, digit or space, and no two the same
abbrev pub plain : ℕ → Bool
plain b = not (is_upper b || is_lower b || is_digit b || eqb b 32)

unfoldable pub distinct : List ℕ → Bool
distinct [] = true
distinct (b ∷ bs) = not (any (eqb b) bs) && distinct bs

unfoldable pub good_marks : List ℕ → Bool
good_marks bs = distinct bs && all plain bs

-- 5: the fields of ISA that are text: all of them, but ISA11 where it is the repetition separator
abbrev pub text_fields : Option ℕ → Segment → List Bytes
text_fields None s = s
text_fields (Some b) s = take 11 s ++ drop 12 s

unfoldable pub good_isa : Delimiters → Segment → Bool
good_isa d s =
    all (all (valid d)) (text_fields d.repetition s)
    && digits 9 9 (field s 13) && member (field s 15) (ascii "P" ∷ ascii "T" ∷ ascii "I" ∷ [])

-- 2 to 5: the length, and the 106 bytes of ISA
unfoldable pub head_rules : Bytes → List Rule
head_rules i =
    (not (between 106 65536 (length i)) ⇒ 2) ∷
    (not (has_isa i) ⇒ 3) ∷
    (not (good_marks (marks (delimiters i))) ⇒ 4) ∷
    (not (good_isa (delimiters i) (isa i)) ⇒ 5) ∷
    []

-- 6: the last byte ends a segment
abbrev pub is_terminated : Delimiters → Bytes → Bool
is_terminated d i = eqb (last 0 i) d.terminator

unfoldable pub end_rules : Delimiters → Bytes → List Rule
end_rules d i = (not (is_terminated d i) ⇒ 6) ∷ []

-- a segment of the envelope
abbrev pub is_envelope : Segment → Bool
is_envelope s = member (field s 0) (ascii "ISA" ∷ ascii "GS" ∷ ascii "GE" ∷ ascii "IEA" ∷ [])

-- A whole group begins with GS, and no segment of the envelope stands inside it. Its GE may be missing, but only the last piece that `cut_after_ge`
-- makes can lack one.
abbrev pub is_whole_group : Group → Bool
is_whole_group g = is_named (ascii "GS") g.header && all (λ s. not (is_envelope s)) g.body

-- 7: IEA stands last, and between ISA and IEA stand 1 to limit whole groups
unfoldable pub enveloped : ℕ → List Segment → Bool
enveloped limit ss =
    let gs = groups_of ss in
    is_named (ascii "IEA") (last [] ss) && between 1 limit (length gs) && all is_whole_group gs

-- one call answers at most so many groups
abbrev pub most_groups : ℕ
most_groups = 16

unfoldable pub envelope_rules : ℕ → List Segment → List Rule
envelope_rules limit ss = (not (enveloped limit ss) ⇒ 7) ∷ []

-- 8: IEA has two elements, names this interchange, and counts n groups
abbrev pub has_two : Segment → Bool
has_two iea = eqb (length iea) 3

abbrev pub closes : Segment → Bytes → Bool
closes iea isa13 = same (field iea 2) isa13

abbrev pub counts_groups : ℕ → Segment → Bool
counts_groups n iea = declares 5 (field iea 1) n

unfoldable pub trailer_rules : Segment → ℕ → Bytes → List Rule
trailer_rules iea n isa13 =
    (not (has_two iea) ⇒ 8) ∷
    (not (closes iea isa13) ⇒ 8) ∷
    (not (counts_groups n iea) ⇒ 8) ∷
    []

-- 9: the GS rule
unfoldable pub good_gs : Delimiters → Segment → Bool
good_gs d s =
    eqb (length s) 9
    && eqb (length (field s 1)) 2 && all is_upper_or_digit (field s 1)
    && text d 2 15 (field s 2) && text d 2 15 (field s 3)
    && is_date (field s 4) && is_time (field s 5) && digits 1 9 (field s 6)
    && text d 1 2 (field s 7) && text d 1 12 (field s 8)

unfoldable pub header_rules : Delimiters → Segment → List Rule
header_rules d gs = (not (good_gs d gs) ⇒ 9) ∷ []

-- 10: acknowledgments are not acknowledged
unfoldable pub answer_rules : Segment → List Rule
answer_rules gs = (same (field gs 1) (ascii "FA") ⇒ 10) ∷ []

-- 13: the header of a set can be answered
unfoldable pub good_st : Delimiters → Segment → Bool
good_st d st = digits 3 3 (field st 1) && text d 4 9 (field st 2)

-- 11 to 13: the sets of a group, by its segments
unfoldable pub set_rules : Delimiters → List Segment → List Rule
set_rules d body =
    (outside body ⇒ 11) ∷
    (null (sets_of body) ⇒ 12) ∷
    (not (all (λ s. good_st d s.header) (sets_of body)) ⇒ 13) ∷
    []

-- 9 to 13: one group
unfoldable pub group_rules : Delimiters → Group → List Rule
group_rules d g = header_rules d g.header ++ answer_rules g.header ++ set_rules d g.body

-- 9 to 13: all of them on one group before the next
unfoldable pub groups_rules : Delimiters → List Group → List Rule
groups_rules d [] = []
groups_rules d (g ∷ gs) = group_rules d g ++ groups_rules d gs

-- all of them, in the order of checking
unfoldable pub refusal_rules : Bytes → Call → List Rule
refusal_rules i call =
    let d = delimiters i in
    let ss = segments d i in
    let gs = groups_of ss in
    call_rules call ++ head_rules i ++ end_rules d i
    ++ envelope_rules most_groups ss ++ trailer_rules (last [] ss) (length gs) (field (isa i) 13) ++ groups_rules d gs

-- the number of the refusal, 0 for none of 1 to 13
unfoldable pub refusal : Bytes → Call → ℕ
refusal i call = first (refusal_rules i call)
