-- Change request 9 makes ISA11 a fourth delimiter where ISA12 knows repetition. The law before it, which had three, is written down again here.
-- Where ISA11 is no delimiter, every answer is the former one.
use Rattle.std.specs.Prelude.{if◌then◌else◌, option_to_list, unwrap_or, is_none, Option, None, Some}
use mathlib.Core.Path.{◌≡◌, refl, ◌∙◌, ap, fun_ext}
use mathlib.Core.Bool.{Bool, true, false, ◌&&◌, ◌||◌, not}
use mathlib.Core.List.{List, [], ◌∷◌, ◌++◌, map}
use Prim.Native.Nat.{ℕ, ◌+◌, ◌≤◌, ◌<◌}
use native.Mathlib.Omega.{arith}
use borrow.Author.Tests.{ne_eqb, le-leb, lt-leb}
use lib.Dec.{ltb, eqb}
use lib.ListN.{length, take, get_or}
use Rattle.rules.specs.Base.{Bytes, Rule, ◌⇒◌, first, every, null, all, any, between, is_digit, is_upper_or_digit, ascii, same, member, last}
use Rattle.rules.specs.Numbers.{digits, value, is_date, is_time}
use Rattle.rules.specs.Cutting.{Segment, field, isa, segments, knows_repetition, repetition_in, delimiters, marks, separates_repetitions, valid, text}
use Rattle.rules.specs.Tables.{Row, Syntax, Entry, Table}
use Rattle.rules.specs.Elements.{is_n0, is_dt, is_tm, unsigned, value_length, repeats, element_code, lacks, shuts_out, shows_value, longest_echo, echo_of, Finding, place_codes, found, surplus_at, findings_from, findings}
use Rattle.rules.specs.Segments.{Note, Present, Standing, unknown, unlisted, before, again, later, entry_at, standing, own_code, moved, skipped, findings_by, missing, segment_note, walk, notes_of}
use Rattle.rules.specs.Sets.{Set, sets_of, outside, segments_of, control_of, SetReport, notes_in, set_codes, declared_in, set_report}
use Rattle.rules.specs.Groups.{Group, groups_of, sets, table_in, set_reports, group_codes, verdict, GroupReport, accepted_in, group_report}
use Rattle.rules.specs.Refusals.{call_rules, has_isa, good_marks, good_isa, head_rules, is_terminated, end_rules, enveloped, most_groups, envelope_rules, has_two, closes, counts_groups, trailer_rules, good_gs, header_rules, answer_rules, good_st, set_rules, group_rules, groups_rules, refusal_rules, refusal}
use Rattle.rules.specs.Response.{out, transaction_sets, isa_out, gs_out, ge_out, iea_out, first_header, respond, response}
use Rattle.rules.specs.InterchangeAcknowledgment.{note_code_rules, Verdict, verdict_by, interchange_verdict, asks_for_ta1, interchange_rules, interchange_refusal, ta1, interchange_respond, interchange_response}
use Rattle.rules.specs.Answers.{Replies, functional_acknowledgment, interchange_acknowledgment, called}
use Rattle.rules.specs.declared.Call.{Call}
use Rattle.rules.specs.declared.Delimiters.{Delimiters}
use Rattle.rules.proofs.Logic.{or_none, first_low}

-- 1. The law before repetition. `Delimiters` has a fourth field now, which no definition of this law reads.
-- the delimiters: byte 3, ISA16 and the byte after it
unfoldable pub former_delimiters : Bytes → Delimiters
former_delimiters i = record { element = get_or i 3 0; component = get_or i 104 0; terminator = get_or i 105 0; repetition = None }

unfoldable pub former_marks : Delimiters → List ℕ
former_marks d = d.element ∷ d.component ∷ d.terminator ∷ []

unfoldable pub former_valid : Delimiters → ℕ → Bool
former_valid d b = between 32 126 b && not (any (eqb b) (former_marks d))

unfoldable pub former_text : Delimiters → ℕ → ℕ → Bytes → Bool
former_text d lo hi bs = between lo hi (length bs) && all (former_valid d) bs

-- the code of one element: no 12
unfoldable pub former_element_code : Delimiters → Row → Bytes → ℕ
former_element_code d r e =
    if null e then first ((r.mandatory ⇒ 1) ∷ [])
    else first (
    (not (all (former_valid d) e && (not (is_n0 r.kind) || all is_digit (unsigned e))) ⇒ 6) ∷
    (ltb (value_length r.kind e) r.shortest ⇒ 4) ∷
    (ltb r.longest (value_length r.kind e) ⇒ 5) ∷
    (not (null r.codes) && not (member e r.codes) ⇒ 7) ∷
    (is_dt r.kind && not (is_date e) ⇒ 8) ∷
    (is_tm r.kind && not (is_time e) ⇒ 9) ∷
    [])

-- only a value with code 6 of its own is withheld
abbrev pub former_is_echoed : ℕ → ℕ → Bool
former_is_echoed c own = shows_value c && not (eqb own 6)

unfoldable pub former_echo_of : ℕ → ℕ → Bytes → Bytes
former_echo_of c own e = if former_is_echoed c own then take longest_echo e else []

unfoldable pub former_place_codes : Delimiters → List Syntax → Segment → Row → ℕ → List ℕ
former_place_codes d notes s r n =
    let own = former_element_code d r (field s n) in
    every (
    (eqb own 1 ⇒ 1) ∷
    (lacks notes s n ⇒ 2) ∷
    (between 4 9 own ⇒ own) ∷
    (shuts_out notes s n ⇒ 10) ∷
    [])

abbrev pub former_found : Delimiters → Segment → Row → ℕ → ℕ → Finding
former_found d s r n c =
    let e = field s n in
    record { place = n; reference = r.reference; code = c; echo = former_echo_of c (former_element_code d r e) e }

unfoldable pub former_findings_from : Delimiters → List Syntax → Segment → ℕ → List Row → List Finding
former_findings_from d notes s n [] = if ltb n (length s) then surplus_at n ∷ [] else []
former_findings_from d notes s n (r ∷ rs) =
    map (former_found d s r n) (former_place_codes d notes s r n) ++ former_findings_from d notes s (n + 1) rs

unfoldable pub former_findings : Delimiters → Entry → Segment → List Finding
former_findings d e s = former_findings_from d e.notes s 1 e.rows

-- the notes of a set
abbrev pub former_findings_by : Delimiters → Table → Standing → Segment → List Finding
former_findings_by d t unknown s = []
former_findings_by d t unlisted s = []
former_findings_by d t (before k) s = former_findings d (entry_at t k) s
former_findings_by d t (again k) s = former_findings d (entry_at t k) s
former_findings_by d t (later k) s = former_findings d (entry_at t k) s

unfoldable pub former_walk : Delimiters → Table → Bool → Present → ℕ → List Segment → List Note
former_walk d t closed p n [] = if closed then [] else missing n (skipped t p (standing t p (ascii "SE")))
former_walk d t closed p n (s ∷ ss) =
    let st = standing t p (field s 0) in
    missing n (skipped t p st)
    ++ segment_note n (own_code t p st) (field s 0) (former_findings_by d t st s)
    ++ former_walk d t closed (moved p st) (n + 1) ss

unfoldable pub former_notes_of : Delimiters → Table → Bool → Segment → List Segment → List Note
former_notes_of d t closed header after =
    segment_note 1 0 (field header 0) (former_findings d (entry_at t 0) header)
    ++ former_walk d t closed (record { index = 0; used = 1 }) 2 after

abbrev pub former_notes_in : Delimiters → Option Table → Set → List Note
former_notes_in d None s = []
former_notes_in d (Some t) s = former_notes_of d t (not (is_none s.trailer)) s.header (s.body ++ option_to_list s.trailer)

-- the reports of a set and of a group
unfoldable pub former_set_report : Delimiters → Option Table → List Bytes → Set → SetReport
former_set_report d t earlier s =
    let notes = former_notes_in d t s in
    record {
      st01 = field s.header 1;
      st02 = control_of s;
      notes = notes;
      codes = set_codes t notes earlier s;
      declared = declared_in 10 s.trailer;
      counted = length (segments_of s);
    }

unfoldable pub former_set_reports : Delimiters → (Set → Option Table) → List Bytes → List Set → List SetReport
former_set_reports d table earlier [] = []
former_set_reports d table earlier (s ∷ ss) =
    former_set_report d (table s) earlier s ∷ former_set_reports d table (control_of s ∷ earlier) ss

unfoldable pub former_group_report : Delimiters → Group → GroupReport
former_group_report d g =
    let gs = g.header in
    let rs = former_set_reports d (table_in gs) [] (sets g) in
    let codes = group_codes g in
    let v = verdict codes (length rs) (accepted_in rs) in
    record {
      gs01 = field gs 1;
      gs06 = field gs 6;
      gs08 = field gs 8;
      verdict = v;
      included = unwrap_or (declared_in 6 g.trailer) (length (sets g));
      received = length (sets g);
      allowed = if same v (ascii "R") then 0 else accepted_in rs;
      codes = codes;
      sets = rs;
    }

-- 2 to 5, with every field of ISA as text
unfoldable pub former_good_isa : Delimiters → Segment → Bool
former_good_isa d s =
    all (all (former_valid d)) s && digits 9 9 (field s 13) && member (field s 15) (ascii "P" ∷ ascii "T" ∷ ascii "I" ∷ [])

unfoldable pub former_head_rules : Bytes → List Rule
former_head_rules i =
    (not (between 106 65536 (length i)) ⇒ 2) ∷
    (not (has_isa i) ⇒ 3) ∷
    (not (good_marks (former_marks (former_delimiters i))) ⇒ 4) ∷
    (not (former_good_isa (former_delimiters i) (isa i)) ⇒ 5) ∷
    []

-- 9 to 13
unfoldable pub former_good_gs : Delimiters → Segment → Bool
former_good_gs d s =
    eqb (length s) 9
    && eqb (length (field s 1)) 2 && all is_upper_or_digit (field s 1)
    && former_text d 2 15 (field s 2) && former_text d 2 15 (field s 3)
    && is_date (field s 4) && is_time (field s 5) && digits 1 9 (field s 6)
    && former_text d 1 2 (field s 7) && former_text d 1 12 (field s 8)

unfoldable pub former_good_st : Delimiters → Segment → Bool
former_good_st d st = digits 3 3 (field st 1) && former_text d 4 9 (field st 2)

unfoldable pub former_set_rules : Delimiters → List Segment → List Rule
former_set_rules d body =
    (outside body ⇒ 11) ∷
    (null (sets_of body) ⇒ 12) ∷
    (not (all (λ s. former_good_st d s.header) (sets_of body)) ⇒ 13) ∷
    []

unfoldable pub former_group_rules : Delimiters → Group → List Rule
former_group_rules d g = (not (former_good_gs d g.header) ⇒ 9) ∷ [] ++ answer_rules g.header ++ former_set_rules d g.body

unfoldable pub former_groups_rules : Delimiters → List Group → List Rule
former_groups_rules d [] = []
former_groups_rules d (g ∷ gs) = former_group_rules d g ++ former_groups_rules d gs

-- 1 to 13, in the order of checking
unfoldable pub former_rules : Bytes → Call → List Rule
former_rules i call =
    let d = former_delimiters i in
    let ss = segments d i in
    let gs = groups_of ss in
    call_rules call ++ former_head_rules i ++ end_rules d i
    ++ envelope_rules most_groups ss ++ trailer_rules (last [] ss) (length gs) (field (isa i) 13) ++ former_groups_rules d gs

unfoldable pub former_refusal : Bytes → Call → ℕ
former_refusal i call = first (former_rules i call)

-- the response
unfoldable pub former_respond : Bytes → List Group → Call → List Segment
former_respond i gs call =
    let d = former_delimiters i in
    isa_out d (isa i) call
    ∷ (gs_out (first_header gs) call
    ∷ (transaction_sets 1 (map (former_group_report d) gs)
    ++ ge_out (length gs) call.control ∷ iea_out 1 call.control ∷ []))

unfoldable pub former_response : Bytes → Call → Bytes
former_response i call =
    let d = former_delimiters i in
    out d (former_respond i (groups_of (segments d i)) call)

-- the acknowledgment of the groups, as it was
abbrev pub former_acknowledgment : Replies
former_acknowledgment i call = record { refusal = former_refusal i call; response = former_response i call }

-- TA1: the verdict on the interchange, the refusals, and the response
unfoldable pub former_note_code_rules : Bytes → List Rule
former_note_code_rules i =
    let d = former_delimiters i in
    let ss = segments d i in
    let iea = last [] ss in
    (not (is_terminated d i) ⇒ 23) ∷
    (not (enveloped most_groups ss) ⇒ 22) ∷
    (not (has_two iea) ⇒ 22) ∷
    (not (closes iea (field (isa i) 13)) ⇒ 1) ∷
    (not (counts_groups (length (groups_of ss)) iea) ⇒ 21) ∷
    []

unfoldable pub former_verdict : Bytes → Verdict
former_verdict i = verdict_by (first (former_note_code_rules i))

unfoldable pub former_interchange_refusal : Bytes → Call → ℕ
former_interchange_refusal i call = first (call_rules call ++ former_head_rules i ++ (not (asks_for_ta1 i) ⇒ 15) ∷ [])

unfoldable pub former_interchange_response : Bytes → Call → Bytes
former_interchange_response i call =
    let d = former_delimiters i in
    out d (isa_out d (isa i) call ∷ ta1 (isa i) (former_verdict i) ∷ iea_out 0 call.control ∷ [])

abbrev pub former_interchange_acknowledgment : Replies
former_interchange_acknowledgment i call =
    record { refusal = former_interchange_refusal i call; response = former_interchange_response i call }

-- 2. Each definition and its former one, for delimiters without a repetition separator.
-- a last rule that does not apply gives nothing
every_but : (rs : List Rule) (n : ℕ) → every (rs ++ (false ⇒ n) ∷ []) ≡ every rs
unfolding every
every_but [] n = refl
every_but ((true ⇒ m) ∷ rs) n = ap (λ (ms : List ℕ). m ∷ ms) (every_but rs n)
every_but ((false ⇒ m) ∷ rs) n = every_but rs n

-- the former law knew no code 12
module _ (d : Delimiters) (r : Row) where
  low : (e : Bytes) → former_element_code d r e ≤ 9
  unfolding former_element_code
  low [] = first_low 1 9 _ refl
  low (b ∷ e) = first_low 1 9 _ refl

  not_12 : (e : Bytes) → eqb (former_element_code d r e) 12 ≡ false
  not_12 e = ne_eqb (former_element_code d r e) 12 (λ q. omega (arith, low e, q))

module _ (d : Delimiters) (unused : d.repetition ≡ None) where
  same_marks : marks d ≡ former_marks d
  unfolding marks former_marks
  same_marks = rw unused

  same_valid : valid d ≡ former_valid d
  unfolding valid former_valid
  same_valid = fun_ext (λ b. rw same_marks)

  same_text : (lo hi : ℕ) (bs : Bytes) → text d lo hi bs ≡ former_text d lo hi bs
  unfolding text former_text
  same_text lo hi bs = rw same_valid

  pub no_repeats : (e : Bytes) → repeats d e ≡ false
  unfolding any separates_repetitions
  no_repeats [] = refl
  no_repeats (b ∷ e) = rw (no_repeats e, unused)

  same_code : (r : Row) (e : Bytes) → element_code d r e ≡ former_element_code d r e
  unfolding element_code former_element_code first
  same_code r [] = refl
  same_code r (b ∷ e) = rw (no_repeats (b ∷ e), same_valid)

  same_echo : (c : ℕ) (r : Row) (e : Bytes) → echo_of c (element_code d r e) e ≡ former_echo_of c (former_element_code d r e) e
  unfolding echo_of former_echo_of any
  same_echo c r e = rw (same_code r e, not_12 d r e, or_none (eqb (former_element_code d r e) 6))

  same_place : (notes : List Syntax) (s : Segment) (r : Row) (n : ℕ) → place_codes d notes s r n ≡ former_place_codes d notes s r n
  unfolding place_codes former_place_codes
  same_place notes s r n =
      let own = former_element_code d r (field s n) in
      rw (same_code r (field s n), not_12 d r (field s n))
      (every_but ((eqb own 1 ⇒ 1) ∷ (lacks notes s n ⇒ 2) ∷ (between 4 9 own ⇒ own) ∷ (shuts_out notes s n ⇒ 10) ∷ []) 12)

  same_found : (s : Segment) (r : Row) (n : ℕ) → found d s r n ≡ former_found d s r n
  same_found s r n = fun_ext (λ c. rw (same_echo c r (field s n)))

  same_findings_from : (notes : List Syntax) (s : Segment) (n : ℕ) (rs : List Row)
      → findings_from d notes s n rs ≡ former_findings_from d notes s n rs
  unfolding findings_from former_findings_from
  same_findings_from notes s n [] = refl
  same_findings_from notes s n (r ∷ rs) =
      ap (λ (f : ℕ → Finding). map f (place_codes d notes s r n) ++ findings_from d notes s (n + 1) rs) (same_found s r n)
      ∙ rw (same_place notes s r n, same_findings_from notes s (n + 1) rs)

  same_findings : (e : Entry) (s : Segment) → findings d e s ≡ former_findings d e s
  unfolding findings former_findings
  same_findings e s = same_findings_from e.notes s 1 e.rows

  same_findings_by : (t : Table) (st : Standing) (s : Segment) → findings_by d t st s ≡ former_findings_by d t st s
  same_findings_by t unknown s = refl
  same_findings_by t unlisted s = refl
  same_findings_by t (before k) s = same_findings (entry_at t k) s
  same_findings_by t (again k) s = same_findings (entry_at t k) s
  same_findings_by t (later k) s = same_findings (entry_at t k) s

  same_walk : (t : Table) (closed : Bool) (p : Present) (n : ℕ) (ss : List Segment) → walk d t closed p n ss ≡ former_walk d t closed p n ss
  unfolding walk former_walk
  same_walk t closed p n [] = refl
  same_walk t closed p n (s ∷ ss) =
      let st = standing t p (field s 0) in
      rw (same_findings_by t st s, same_walk t closed (moved p st) (n + 1) ss)

  same_notes : (t : Option Table) (s : Set) → notes_in d t s ≡ former_notes_in d t s
  unfolding notes_of former_notes_of
  same_notes None s = refl
  same_notes (Some t) s =
      rw (same_findings (entry_at t 0) s.header, same_walk t (not (is_none s.trailer)) (record { index = 0; used = 1 }) 2 (s.body ++ option_to_list s.trailer))

  same_set_reports : (table : Set → Option Table) (earlier : List Bytes) (ss : List Set)
      → set_reports d table earlier ss ≡ former_set_reports d table earlier ss
  unfolding set_reports former_set_reports set_report former_set_report
  same_set_reports table earlier [] = refl
  same_set_reports table earlier (s ∷ ss) = rw (same_notes (table s) s, same_set_reports table (control_of s ∷ earlier) ss)

  same_group_report : group_report d ≡ former_group_report d
  unfolding group_report former_group_report
  same_group_report = fun_ext (λ g. rw (same_set_reports (table_in g.header) [] (sets g)))

  same_isa : (s : Segment) → good_isa d s ≡ former_good_isa d s
  unfolding good_isa former_good_isa
  same_isa s = rw (same_valid, unused)

  same_gs : (s : Segment) → good_gs d s ≡ former_good_gs d s
  unfolding good_gs former_good_gs
  same_gs s =
      rw (same_text 2 15 (field s 2), same_text 2 15 (field s 3), same_text 1 2 (field s 7), same_text 1 12 (field s 8))

  same_st : good_st d ≡ former_good_st d
  unfolding good_st former_good_st
  same_st = fun_ext (λ st. rw (same_text 4 9 (field st 2)))

  same_groups_rules : (gs : List Group) → groups_rules d gs ≡ former_groups_rules d gs
  unfolding groups_rules former_groups_rules group_rules former_group_rules header_rules set_rules former_set_rules
  same_groups_rules [] = refl
  same_groups_rules (g ∷ gs) = rw (same_gs g.header, same_st, same_groups_rules gs)

-- 3. The answers, now and before.
module _ (i : Bytes) (unused : repetition_in i ≡ None) where
  same_delimiters : delimiters i ≡ former_delimiters i
  unfolding delimiters former_delimiters
  same_delimiters = rw unused

  abbrev d : Delimiters
  d = former_delimiters i

  former_unused : d.repetition ≡ None
  unfolding former_delimiters
  former_unused = refl

  same_head : head_rules i ≡ former_head_rules i
  unfolding head_rules former_head_rules
  same_head = rw (same_delimiters, same_marks d former_unused, same_isa d former_unused (isa i))

  -- TA1's verdict is the former one. Shut out: another cut, or another verdict.
  pub same_verdict : interchange_verdict i ≡ former_verdict i
  unfolding interchange_verdict former_verdict note_code_rules former_note_code_rules
  same_verdict = rw same_delimiters

  module _ (call : Call) where
    -- Every refusal is the former one. Shut out: a program that holds ISA11 to rule 4, or leaves it out of 5.
    pub same_refusal : refusal i call ≡ former_refusal i call
    unfolding refusal refusal_rules former_refusal former_rules
    same_refusal = rw (same_head, same_delimiters, same_groups_rules d former_unused (groups_of (segments d i)))

    -- The response is the former one, too, byte by byte. Shut out: code 12 or another echo.
    pub same_response : response i call ≡ former_response i call
    unfolding response respond former_response former_respond
    same_response = rw (same_delimiters, same_group_report d former_unused)

    pub same_interchange_refusal : interchange_refusal i call ≡ former_interchange_refusal i call
    unfolding interchange_refusal interchange_rules former_interchange_refusal
    same_interchange_refusal = rw same_head

    pub same_interchange_response : interchange_response i call ≡ former_interchange_response i call
    unfolding interchange_response interchange_respond former_interchange_response
    same_interchange_response = rw (same_delimiters, same_verdict)

    -- The outcome of a call is the former one: number, length and every byte of the buffer.
    pub as_before : (lent : Bytes) → called (functional_acknowledgment i call) lent ≡ called (former_acknowledgment i call) lent
    as_before lent = rw (same_refusal, same_response)

    pub interchange_as_before : (lent : Bytes)
        → called (interchange_acknowledgment i call) lent ≡ called (former_interchange_acknowledgment i call) lent
    interchange_as_before lent = rw (same_interchange_refusal, same_interchange_response)

-- 4. When ISA11 is a delimiter, by the bytes of ISA.
module _ (i : Bytes) where
  abbrev isa11 : ℕ
  isa11 = get_or i 82 0

  abbrev isa12 : Bytes
  isa12 = field (isa i) 12

  -- It is none where it is `U`. Shut out: a program that cuts at `U`.
  pub unused_u : isa11 ≡ 85 → repetition_in i ≡ None
  unfolding repetition_in
  unused_u e = rw e (go (knows_repetition isa12))
    where
      u : ℕ
      u = 85

      go : (b : Bool) → (if b && false then Some u else None) ≡ None
      go true = refl
      go false = refl

  -- It is none where ISA12 is not five digits. Shut out: a program that reads a version out of other bytes.
  pub unused_not_digits : digits 5 5 isa12 ≡ false → repetition_in i ≡ None
  unfolding repetition_in knows_repetition
  unused_not_digits e = rw e

  -- It is none where the value of ISA12 is below 402. Shut out: a program that separates repetitions in 00401.
  pub unused_early : value isa12 < 402 → repetition_in i ≡ None
  unfolding repetition_in knows_repetition
  unused_early h = rw (lt-leb 402 (value isa12) h) (go (digits 5 5 isa12))
    where
      go : (b : Bool) → (if b && false && not (eqb isa11 85) then Some isa11 else None) ≡ None
      go true = refl
      go false = refl

  -- Else it is one. Shut out: a law that is kept by never separating repetitions.
  pub separates : (isa11 ≡ 85 → ⊥) → digits 5 5 isa12 ≡ true → 402 ≤ value isa12 → repetition_in i ≡ Some isa11
  unfolding repetition_in knows_repetition
  separates u t h = rw (ne_eqb isa11 85 u, t, le-leb 402 (value isa12) h)
