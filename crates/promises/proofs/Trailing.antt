-- "Empty trailing elements are left off": the last field of every segment of a response is filled.
use Rattle.std.specs.Prelude.{if◌then◌else◌, Option, None, Some}
use mathlib.Core.Path.{◌≡◌, refl}
use mathlib.Core.Bool.{Bool, true, false, ◌&&◌, not, false≢true}
use mathlib.Core.List.{List, [], ◌∷◌, ◌++◌, map}
use Prim.Native.Nat.{ℕ, suc, ◌+◌, ◌/◌, ◌%◌}
use borrow.Author.Tests.{not-false}
use lib.Dec.{eqb}
use lib.ListN.{length}
use Rattle.rules.specs.Base.{Bytes, ascii, null, all, last, is_upper_or_digit, keep, first, every, ◌⇒◌}
use Rattle.rules.specs.Cutting.{Segment, field, delimiters, text}
use Rattle.rules.specs.Numbers.{digits, is_date, is_time, padded, decimal}
use Rattle.rules.specs.Tables.{Table, Entry}
use Rattle.rules.specs.Elements.{Finding}
use Rattle.rules.specs.Segments.{Note, missing, echoed, noted, segment_note, walk, notes_of}
use Rattle.rules.specs.Sets.{Set, control_of, notes_in, SetReport, set_report, accepted}
use Rattle.rules.specs.Groups.{Group, sets, table_in, set_reports, GroupReport, group_report}
use Rattle.rules.specs.Refusals.{good_gs, good_st, header_rules, answer_rules, set_rules, group_rules, refusal}
use Rattle.rules.specs.Response.{trailing, ak4, ak3, ak3s, ak2, ak5, block, blocks, ak1, ak9, st_out, se_out, told, transaction_set, transaction_sets, isa_out, gs_out, ge_out, iea_out, respond}
use Rattle.rules.specs.Damage.{groups_in}
use Rattle.rules.specs.declared.Call.{Call}
use Rattle.rules.specs.declared.Delimiters.{Delimiters}
use Rattle.rules.proofs.Logic.{and_left, and_right, all_head, all_tail, all_cons, all_append, last_all, silent, Each, each_map}
use Rattle.rules.proofs.Envelope.{clear}
use Rattle.rules.proofs.Lengths.{either}
use Rattle.promises.proofs.Numerals.{decimal_some}

abbrev pub is_filled : Bytes → Bool
is_filled bs = not (null bs)

-- no empty element at the end
abbrev pub is_trim : Segment → Bool
is_trim s = is_filled (last [] s)

-- 1. What a report must have for it: GS06, every ST02, and a code in every note.
abbrev pub is_coded : Note → Bool
is_coded n = not (null n.codes)

abbrev pub is_named_set : SetReport → Bool
is_named_set r = is_filled r.st02 && all is_coded r.notes

pub record Filled (g : GroupReport) : Type 0 where
  pub gs06 : is_filled g.gs06 ≡ true
  pub sets : all is_named_set g.sets ≡ true

-- 2. Numbers are never empty.
number_filled : (n : ℕ) → is_filled (decimal n) ≡ true
number_filled n = rw (decimal_some n)

numbers_filled : (ns : List ℕ) → all is_filled (map decimal ns) ≡ true
unfolding all
numbers_filled [] = refl
numbers_filled (n ∷ ns) = rw (decimal_some n) (numbers_filled ns)

append_filled : (bs : Bytes) (b : ℕ) → is_filled (bs ++ b ∷ []) ≡ true
append_filled [] b = refl
append_filled (x ∷ bs) b = refl

padded_filled : (w n : ℕ) → is_filled (padded (suc w) n) ≡ true
unfolding padded
padded_filled w n = append_filled (padded w (n / 10)) (48 + n % 10)

-- 3. The segments, one after the other.
trailing_trim : (first e : Bytes) → is_filled first ≡ true → is_filled (last first (trailing e)) ≡ true
unfolding trailing last
trailing_trim first [] h = h
trailing_trim first (b ∷ e) h = refl

ak4s_trim : (fs : List Finding) → all is_trim (map ak4 fs) ≡ true
unfolding all ak4 last
ak4s_trim [] = refl
ak4s_trim (f ∷ fs) = rw (trailing_trim (decimal f.code) f.echo (number_filled f.code)) (ak4s_trim fs)

codes_trim : (first : Bytes) (ns : List ℕ) → is_filled first ≡ true → is_filled (last first (map decimal ns)) ≡ true
codes_trim first ns e = last_all is_filled first (map decimal ns) e (numbers_filled ns)

coded_trim : (ns : List ℕ) → not (null ns) ≡ true → is_filled (last [] (map decimal ns)) ≡ true
unfolding last
coded_trim [] e = absurd (false≢true e)
coded_trim (n ∷ ns) e = codes_trim (decimal n) ns (number_filled n)

ak3_trim : (n : Note) → is_coded n ≡ true → all is_trim (ak3 n) ≡ true
unfolding ak3 all last
ak3_trim n e = rw (coded_trim n.codes e) (ak4s_trim n.findings)

ak3s_trim : (ns : List Note) → all is_coded ns ≡ true → all is_trim (ak3s ns) ≡ true
unfolding ak3s all
ak3s_trim [] e = refl
ak3s_trim (n ∷ ns) e = all_append is_trim (ak3 n) (ak3s ns) (ak3_trim n (all_head is_coded n ns e)) (ak3s_trim ns (all_tail is_coded n ns e))

ak5_trim : (r : SetReport) → is_trim (ak5 r) ≡ true
unfolding ak5 last
ak5_trim r =
    codes_trim (if accepted r then ascii "A" else ascii "R") r.codes
    (either (λ (bs : Bytes). is_filled bs ≡ true) (accepted r) refl refl)

ak9_trim : (g : GroupReport) → is_trim (ak9 g) ≡ true
unfolding ak9 last
ak9_trim g = codes_trim (decimal g.allowed) g.codes (number_filled g.allowed)

block_trim : (r : SetReport) → is_named_set r ≡ true → all is_trim (block r) ≡ true
unfolding block ak2 last all
block_trim r e =
    let st02 = is_filled r.st02 in
    let notes = all is_coded r.notes in
    all_cons is_trim (ak2 r) (ak3s r.notes ++ ak5 r ∷ []) (and_left st02 notes e)
    (all_append is_trim (ak3s r.notes) (ak5 r ∷ []) (ak3s_trim r.notes (and_right st02 notes e)) (all_cons is_trim (ak5 r) [] (ak5_trim r) refl))

blocks_trim : (rs : List SetReport) → all is_named_set rs ≡ true → all is_trim (blocks rs) ≡ true
unfolding blocks all
blocks_trim [] e = refl
blocks_trim (r ∷ rs) e =
    all_append is_trim (block r) (blocks rs) (block_trim r (all_head is_named_set r rs e)) (blocks_trim rs (all_tail is_named_set r rs e))

transaction_trim : (st02 : Bytes) (g : GroupReport) → is_filled st02 ≡ true → Filled g → all is_trim (transaction_set st02 g) ≡ true
unfolding transaction_set told st_out se_out ak1 last all
transaction_trim st02 g e f =
    let n = length (told st02 g) + 1 in
    all_append is_trim (told st02 g) (se_out n st02 ∷ [])
    (all_cons is_trim (st_out st02) (ak1 g ∷ (blocks g.sets ++ ak9 g ∷ [])) e
    (all_cons is_trim (ak1 g) (blocks g.sets ++ ak9 g ∷ []) f.gs06
    (all_append is_trim (blocks g.sets) (ak9 g ∷ []) (blocks_trim g.sets f.sets) (all_cons is_trim (ak9 g) [] (ak9_trim g) refl))))
    (all_cons is_trim (se_out n st02) [] e refl)

transactions_trim : (n : ℕ) (gs : List GroupReport) → Each Filled gs → all is_trim (transaction_sets n gs) ≡ true
unfolding transaction_sets Each all
transactions_trim n [] f = refl
transactions_trim n (g ∷ gs) f =
    all_append is_trim (transaction_set (padded 4 n) g) (transaction_sets (n + 1) gs) (transaction_trim (padded 4 n) g (padded_filled 3 n) f.0)
    (transactions_trim (n + 1) gs f.1)

-- Every segment that is written for groups whose reports have these parts ends with a filled element. A writer that puts a separator for an
-- element that is not there, as AK5 without codes or an AK3 without a code, is shut out.
pub respond_trim : (i : Bytes) (gs : List Group) (call : Call) → Each (λ g. Filled (group_report (delimiters i) g)) gs
    → all is_trim (respond i gs call) ≡ true
unfolding respond isa_out gs_out ge_out iea_out last all
respond_trim i gs call f =
    let d = delimiters i in
    let reports = map (group_report d) gs in
    let ge = ge_out (length gs) call.control in
    let iea = iea_out 1 call.control in
    all_append is_trim (transaction_sets 1 reports) (ge ∷ iea ∷ []) (transactions_trim 1 reports (each_map Filled (group_report d) gs f))
    (all_cons is_trim ge (iea ∷ []) (number_filled call.control)
    (all_cons is_trim iea [] (padded_filled 8 call.control) refl))

-- 4. What is reported of each group of an interchange that is not refused has these parts.
missing_coded : (n : ℕ) (es : List Entry) → all is_coded (missing n es) ≡ true
unfolding missing all
missing_coded n es = go (keep (λ e. e.mandatory) es)
  where
    go : (es : List Entry) → all is_coded (map (λ e. record { id = e.id; position = n; codes = 3 ∷ []; findings = [] }) es) ≡ true
    go [] = refl
    go (e ∷ es) = go es

noted_coded : (id : Bytes) (n : ℕ) (cs : List ℕ) (fs : List Finding) → all is_coded (noted id n cs fs) ≡ true
unfolding all
noted_coded id n [] fs = refl
noted_coded id n (c ∷ cs) fs = refl

segment_coded : (n c : ℕ) (id : Bytes) (fs : List Finding) → all is_coded (segment_note n c id fs) ≡ true
unfolding segment_note
segment_coded n c id fs = noted_coded (echoed id) n (every ((not (eqb c 0) ⇒ c) ∷ (not (null fs) ⇒ 8) ∷ [])) fs

none_coded : all is_coded [] ≡ true
unfolding all
none_coded = refl

walk_coded : (d : Delimiters) (t : Table) (closed : Bool) (p : _) (n : ℕ) (ss : List Segment) → all is_coded (walk d t closed p n ss) ≡ true
unfolding walk
walk_coded d t true p n [] = none_coded
walk_coded d t false p n [] = missing_coded _ _
walk_coded d t closed p n (s ∷ ss) =
    let rest : (p : _) (n : ℕ) → all is_coded (walk d t closed p n ss) ≡ true = λ p n. walk_coded d t closed p n ss in
    all_append is_coded _ _ (all_append is_coded _ _ (missing_coded _ _) (segment_coded _ _ _ _)) (rest _ _)

notes_coded : (d : Delimiters) (t : Option Table) (s : Set) → all is_coded (notes_in d t s) ≡ true
unfolding notes_of
notes_coded d None s = none_coded
notes_coded d (Some t) s = all_append is_coded _ _ (segment_coded _ _ _ _) (walk_coded d t _ _ _ _)

text_filled : (d : Delimiters) (bs : Bytes) → text d 4 9 bs ≡ true → is_filled bs ≡ true
unfolding text
text_filled d [] e = e
text_filled d (b ∷ bs) e = refl

digits_filled : (bs : Bytes) → digits 1 9 bs ≡ true → is_filled bs ≡ true
unfolding digits
digits_filled [] e = e
digits_filled (b ∷ bs) e = refl

reports_named : (d : Delimiters) (table : Set → Option Table) (controls : List Bytes) (ss : List Set) → all (λ s. good_st d s.header) ss ≡ true
    → all is_named_set (set_reports d table controls ss) ≡ true
unfolding set_reports set_report good_st all
reports_named d table controls [] e = refl
reports_named d table controls (s ∷ ss) e =
    let good : Set → Bool = λ s. good_st d s.header in
    let st02 = text_filled d (control_of s) (and_right (digits 3 3 (field s.header 1)) (text d 4 9 (control_of s)) (all_head good s ss e)) in
    rw (st02, notes_coded d (table s) s) (reports_named d table (control_of s ∷ controls) ss (all_tail good s ss e))

-- GS04 and GS06 of a group that is not refused
pub header_parts : (d : Delimiters) (g : Group) → first (group_rules d g) ≡ 0
    → (is_date (field g.header 4) ≡ true) × (digits 1 9 (field g.header 6) ≡ true)
unfolding group_rules header_rules answer_rules set_rules good_gs
header_parts d g e =
    let gs = g.header in
    let good = not-false (good_gs d gs) (silent (group_rules d g) tt e).0 in
    let before =
    eqb (length gs) 9
    && eqb (length (field gs 1)) 2 && all is_upper_or_digit (field gs 1)
    && text d 2 15 (field gs 2) && text d 2 15 (field gs 3) in
    let gs04 = is_date (field gs 4) in
    let gs05 = is_time (field gs 5) in
    let gs06 = digits 1 9 (field gs 6) in
    let gs07 = text d 1 2 (field gs 7) in
    let up_to = before && gs04 && gs05 && gs06 in
    let e6 = and_left up_to gs07 (and_left (up_to && gs07) (text d 1 12 (field gs 8)) good) in
    (and_right before gs04 (and_left (before && gs04) gs05 (and_left (before && gs04 && gs05) gs06 e6)), and_right (before && gs04 && gs05) gs06 e6)

group_filled : (d : Delimiters) (g : Group) → first (group_rules d g) ≡ 0 → Filled (group_report d g)
unfolding group_rules header_rules answer_rules set_rules group_report
group_filled d g e = record {
  gs06 = digits_filled (field g.header 6) (header_parts d g e).1;
  sets =
      reports_named d (table_in g.header) [] (sets g)
      (not-false (all (λ s. good_st d s.header) (sets g)) (silent (group_rules d g) tt e).1.1.1.1.0);
}

groups_filled : (d : Delimiters) (gs : List Group) → Each (λ g. first (group_rules d g) ≡ 0) gs → Each (λ g. Filled (group_report d g)) gs
unfolding Each
groups_filled d [] e = tt
groups_filled d (g ∷ gs) e = (group_filled d g e.0, groups_filled d gs e.1)

-- A refusal that lets an empty GS06 or ST02 pass in any group is shut out.
pub answered_filled : (i : Bytes) (call : Call) → refusal i call ≡ 0 → Each (λ g. Filled (group_report (delimiters i) g)) (groups_in i)
answered_filled i call e = groups_filled (delimiters i) (groups_in i) (clear i call e).groups

-- Every segment of the response to an interchange that is not refused ends with a filled element. A program that writes a separator for an
-- element that is not there is shut out.
pub response_trim : (i : Bytes) (call : Call) → refusal i call ≡ 0 → all is_trim (respond i (groups_in i) call) ≡ true
response_trim i call e = respond_trim i (groups_in i) call (answered_filled i call e)
