-- Codes 9 and 10 of AK4 are never given by document 01's tables: no row of theirs is a time, and no note of theirs shuts an element out. So no
-- AK4 of any response says 9 or 10.
use mathlib.Core.Path.{◌≡◌, refl, sym, ◌∙◌}
use mathlib.Core.Bool.{Bool, true, false, ◌&&◌, ◌||◌, not, false≢true}
use mathlib.Core.List.{List, [], ◌∷◌, map}
use Rattle.std.specs.Prelude.{Option, None, Some}
use Prim.Native.Nat.{ℕ, zero, suc, ◌+◌}
use native.Mathlib.Omega.{arith}
use borrow.Author.Tests.{not-true, eqb-true, ne_eqb, leb-true, lt-ltb}
use lib.Dec.{leb, ltb, eqb}
use lib.ListN.{length, get_or}
use Rattle.rules.specs.Base.{Bytes, Rule, ◌⇒◌, first, every, null, all, any, ascii, same, member, keep}
use Rattle.rules.specs.Cutting.{Segment, field, is_named, delimiters}
use Rattle.rules.specs.Numbers.{padded, digits_of, decimal}
use Rattle.rules.specs.Tables.{Row, Syntax, Entry, Table, st_rows, st_rows6, se_rows, b1_rows, l11_rows, l11_notes, k1_rows, table006010, table004010, edition_table, set_table}
use Rattle.rules.specs.Elements.{is_tm, element_code, excluded, shuts_out, place_codes, Finding, found, findings_from, findings}
use Rattle.rules.specs.Segments.{Note, Present, Standing, unknown, unlisted, before, again, later, no_entry, entry_at, standing, moved, findings_by, missing, echoed, noted, segment_note, walk, notes_of}
use Rattle.rules.specs.Sets.{Set, control_of, notes_in, SetReport, set_report}
use Rattle.rules.specs.Groups.{Group, sets, supported, edition, table_in, set_reports, group_report}
use Rattle.rules.specs.Response.{ak4, ak3, ak3s, ak2, ak5, block, blocks, ak1, ak9, st_out, se_out, told, transaction_set, transaction_sets, isa_out, gs_out, ge_out, iea_out, respond}
use Rattle.rules.specs.declared.Call.{Call}
use Rattle.rules.specs.declared.Delimiters.{Delimiters}
use Rattle.rules.specs.declared.Relation.{Relation}
use Rattle.rules.specs.declared.Relation.TheVariants.{P, R, E, C, L}
use Rattle.rules.proofs.Logic.{and_left, and_right, all_head, all_tail, all_append, Given}
use Rattle.rules.proofs.Lengths.{either}

-- a code of an element other than 9 and 10: one of 1 to 8, 12, or 0 for none
abbrev pub is_used : ℕ → Bool
is_used c = leb c 8 || eqb c 12

-- 1. Rules: what holds of the number of every rule that may apply holds of those that are given.
first_given : (p : ℕ → Bool) → p 0 ≡ true → (rs : List Rule) → Given (λ n. p n ≡ true) rs → p (first rs) ≡ true
unfolding first
first_given p z [] h = z
first_given p z ((true ⇒ n) ∷ rs) h = h.0 refl
first_given p z ((false ⇒ n) ∷ rs) h = first_given p z rs h.1

all_given : (p : ℕ → Bool) (rs : List Rule) → Given (λ n. p n ≡ true) rs → all p (every rs) ≡ true
unfolding every all
all_given p [] h = refl
all_given p ((true ⇒ n) ∷ rs) h = rw (h.0 refl) (all_given p rs h.1)
all_given p ((false ⇒ n) ∷ rs) h = all_given p rs h.1

-- 2. A table without times and without notes E.
abbrev is_e : Relation → Bool
is_e E = true
is_e P = false
is_e R = false
is_e C = false
is_e L = false

abbrev pub is_plain : Entry → Bool
is_plain e = all (λ r. not (is_tm r.kind)) e.rows && all (λ c. not (is_e c.relation)) e.notes

own_used : (d : Delimiters) (r : Row) (e : Bytes) → not (is_tm r.kind) ≡ true → is_used (element_code d r e) ≡ true
unfolding element_code
own_used d r e h =
    either (λ (c : ℕ). is_used c ≡ true) (null e)
    (first_given is_used refl _ (λ b. refl, tt))
    (first_given is_used refl _
    (λ b. refl, (λ b. refl, (λ b. refl, (λ b. refl, (λ b. refl, (λ b. refl, (λ b. absurd (false≢true (rw (not-true (is_tm r.kind) h) at b)), tt))))))))

relation_admits : (k : Relation) → not (is_e k) ≡ true → (s : Segment) (ps : List ℕ) (n : ℕ) → excluded s k ps n ≡ false
relation_admits P h s ps n = refl
relation_admits R h s ps n = refl
relation_admits E h s ps n = absurd (false≢true h)
relation_admits C h s ps n = refl
relation_admits L h s ps n = refl

notes_admit : (notes : List Syntax) → all (λ c. not (is_e c.relation)) notes ≡ true → (s : Segment) (n : ℕ) → shuts_out notes s n ≡ false
unfolding shuts_out any
notes_admit [] h s n = refl
notes_admit (c ∷ cs) h s n =
    let p : Syntax → Bool = λ c. not (is_e c.relation) in
    rw (relation_admits c.relation (all_head p c cs h) s c.places n) (notes_admit cs (all_tail p c cs h) s n)

found_used : (d : Delimiters) (s : Segment) (r : Row) (n : ℕ) (cs : List ℕ) → all is_used cs ≡ true
    → all (λ f. is_used f.code) (map (found d s r n) cs) ≡ true
unfolding all
found_used d s r n [] h = refl
found_used d s r n (c ∷ cs) h = rw (all_head is_used c cs h) (found_used d s r n cs (all_tail is_used c cs h))

module _ (d : Delimiters) (notes : List Syntax) (s : Segment) (h : all (λ c. not (is_e c.relation)) notes ≡ true) where
  place_used : (r : Row) (n : ℕ) → not (is_tm r.kind) ≡ true → all is_used (place_codes d notes s r n) ≡ true
  unfolding place_codes
  place_used r n k =
      all_given is_used _
      (λ b. refl, (λ b. refl, (λ b. own_used d r (field s n) k, (λ b. absurd (false≢true (sym (notes_admit notes h s n) ∙ b)), (λ b. refl, tt)))))

  findings_used : (n : ℕ) (rows : List Row) → all (λ r. not (is_tm r.kind)) rows ≡ true
      → all (λ f. is_used f.code) (findings_from d notes s n rows) ≡ true
  unfolding findings_from all
  findings_used n [] k = either (λ (fs : List Finding). all (λ f. is_used f.code) fs ≡ true) (ltb n (length s)) refl refl
  findings_used n (r ∷ rs) k =
      let p : Row → Bool = λ r. not (is_tm r.kind) in
      all_append (λ f. is_used f.code) (map (found d s r n) (place_codes d notes s r n)) (findings_from d notes s (n + 1) rs)
      (found_used d s r n (place_codes d notes s r n) (place_used r n (all_head p r rs k)))
      (findings_used (n + 1) rs (all_tail p r rs k))

-- By an entry without times and without notes E no finding has the code 9 or 10. A definition that tests a date as a time is shut out.
pub plain_findings : (d : Delimiters) (e : Entry) (s : Segment) → is_plain e ≡ true → all (λ f. is_used f.code) (findings d e s) ≡ true
unfolding findings
plain_findings d e s h =
    let times = all (λ r. not (is_tm r.kind)) e.rows in
    let notes = all (λ c. not (is_e c.relation)) e.notes in
    findings_used d e.notes s (and_right times notes h) 1 e.rows (and_left times notes h)

-- 3. Document 01's tables are such.
abbrev pub plain_in : Option Table → Bool
plain_in None = true
plain_in (Some t) = all is_plain t.entries

-- A table with a time or with a note E in it is shut out.
pub editions_plain : (edition : Bytes) → plain_in (edition_table edition) ≡ true
unfolding edition_table table006010 table004010 st_rows st_rows6 se_rows b1_rows l11_rows l11_notes k1_rows all
editions_plain edition =
    let Q : Option Table → Type 0 = λ t. plain_in t ≡ true in
    either Q (same edition (ascii "006010")) refl (either Q (same edition (ascii "004010")) refl refl)

table_plain : (gs : Segment) (s : Set) → plain_in (table_in gs s) ≡ true
unfolding table_in set_table
table_plain gs s =
    let Q : Option Table → Type 0 = λ t. plain_in t ≡ true in
    either Q (supported gs) (either Q (same (field s.header 1) (ascii "990")) (editions_plain (edition gs)) refl) refl

-- 4. The walk of a set through such a table.
-- no finding of a note has one of these codes
abbrev is_used_in : Note → Bool
is_used_in n = all (λ f. is_used f.code) n.findings

entry_plain : (es : List Entry) (k : ℕ) → all is_plain es ≡ true → is_plain (get_or es k no_entry) ≡ true
unfolding all
entry_plain [] k h = refl
entry_plain (e ∷ es) zero h = all_head is_plain e es h
entry_plain (e ∷ es) (suc k) h = entry_plain es k (all_tail is_plain e es h)

none_used : all is_used_in [] ≡ true
unfolding all
none_used = refl

missing_used : (n : ℕ) (es : List Entry) → all is_used_in (missing n es) ≡ true
unfolding missing all
missing_used n es = go (keep (λ e. e.mandatory) es)
  where
    go : (es : List Entry) → all is_used_in (map (λ e. record { id = e.id; position = n; codes = 3 ∷ []; findings = [] }) es) ≡ true
    go [] = refl
    go (e ∷ es) = go es

noted_used : (id : Bytes) (n : ℕ) (cs : List ℕ) (fs : List Finding) → all (λ f. is_used f.code) fs ≡ true → all is_used_in (noted id n cs fs) ≡ true
unfolding all
noted_used id n [] fs h = refl
noted_used id n (c ∷ cs) fs h = rw h

segment_used : (n c : ℕ) (id : Bytes) (fs : List Finding) → all (λ f. is_used f.code) fs ≡ true → all is_used_in (segment_note n c id fs) ≡ true
unfolding segment_note
segment_used n c id fs h = noted_used (echoed id) n (every ((not (eqb c 0) ⇒ c) ∷ (not (null fs) ⇒ 8) ∷ [])) fs h

module _ (d : Delimiters) (t : Table) (h : all is_plain t.entries ≡ true) where
  by_used : (st : Standing) (s : Segment) → all (λ f. is_used f.code) (findings_by d t st s) ≡ true
  unfolding all
  by_used unknown s = refl
  by_used unlisted s = refl
  by_used (before k) s = plain_findings d (entry_at t k) s (entry_plain t.entries k h)
  by_used (again k) s = plain_findings d (entry_at t k) s (entry_plain t.entries k h)
  by_used (later k) s = plain_findings d (entry_at t k) s (entry_plain t.entries k h)

  walk_used : (closed : Bool) (p : Present) (n : ℕ) (ss : List Segment) → all is_used_in (walk d t closed p n ss) ≡ true
  unfolding walk
  walk_used true p n [] = none_used
  walk_used false p n [] = missing_used _ _
  walk_used closed p n (s ∷ ss) =
      let st = standing t p (field s 0) in
      all_append is_used_in _ _ (all_append is_used_in _ _ (missing_used _ _) (segment_used _ _ _ _ (by_used st s))) (walk_used closed (moved p st) (n + 1) ss)

notes_used : (d : Delimiters) (t : Option Table) (s : Set) → plain_in t ≡ true → all is_used_in (notes_in d t s) ≡ true
unfolding notes_of
notes_used d None s h = none_used
notes_used d (Some t) s h =
    all_append is_used_in _ _
    (segment_used _ _ _ _ (plain_findings d (entry_at t 0) s.header (entry_plain t.entries 0 h)))
    (walk_used d t h _ _ _ _)

-- 5. The response: no AK4 of it says 9 or 10.
-- a segment that is no AK4 with the code 9 or 10
abbrev pub is_spared : Segment → Bool
is_spared s = not (is_named (ascii "AK4") s && member (field s 3) (ascii "9" ∷ ascii "10" ∷ []))

and_none : (b : Bool) → b && false ≡ false
and_none true = refl
and_none false = refl

code_spared : (c : ℕ) → is_used c ≡ true → member (decimal c) (ascii "9" ∷ ascii "10" ∷ []) ≡ false
unfolding decimal digits_of any same
code_spared c h = go (leb c 8) refl h
  where
    go : (b : Bool) → leb c 8 ≡ b → b || eqb c 12 ≡ true → member (decimal c) (ascii "9" ∷ ascii "10" ∷ []) ≡ false
    go true e h =
        let few = leb-true c 8 e in
        rw (lt-ltb c 10 (omega (arith, few)), ne_eqb (48 + c) 57 (λ e. omega (arith, few, e)), and_none (eqb (48 + c) 49))
    go false e h = rw (eqb-true c 12 h)

ak4s_spared : (fs : List Finding) → all (λ f. is_used f.code) fs ≡ true → all is_spared (map ak4 fs) ≡ true
unfolding all ak4 same
ak4s_spared [] h = refl
ak4s_spared (f ∷ fs) h =
    let p : Finding → Bool = λ f. is_used f.code in
    rw (code_spared f.code (all_head p f fs h)) (ak4s_spared fs (all_tail p f fs h))

ak3s_spared : (ns : List Note) → all is_used_in ns ≡ true → all is_spared (ak3s ns) ≡ true
unfolding ak3s ak3 all same
ak3s_spared [] h = refl
ak3s_spared (n ∷ ns) h =
    all_append is_spared (ak3 n) (ak3s ns) (ak4s_spared n.findings (all_head is_used_in n ns h)) (ak3s_spared ns (all_tail is_used_in n ns h))

block_spared : (r : SetReport) → all is_used_in r.notes ≡ true → all is_spared (block r) ≡ true
unfolding block ak2 ak5 all same
block_spared r h = all_append is_spared (ak3s r.notes) (ak5 r ∷ []) (ak3s_spared r.notes h) refl

reports_spared : (d : Delimiters) (gs : Segment) (controls : List Bytes) (ss : List Set)
    → all is_spared (blocks (set_reports d (table_in gs) controls ss)) ≡ true
unfolding set_reports set_report blocks all
reports_spared d gs controls [] = refl
reports_spared d gs controls (s ∷ ss) =
    let r = set_report d (table_in gs s) controls s in
    all_append is_spared (block r) (blocks (set_reports d (table_in gs) (control_of s ∷ controls) ss))
    (block_spared r (notes_used d (table_in gs s) s (table_plain gs s)))
    (reports_spared d gs (control_of s ∷ controls) ss)

module _ (d : Delimiters) where
  set_spared : (st02 : Bytes) (g : Group) → all is_spared (transaction_set st02 (group_report d g)) ≡ true
  unfolding transaction_set told st_out ak1 ak9 se_out group_report all same
  set_spared st02 g =
      let bs = blocks (set_reports d (table_in g.header) [] (sets g)) in
      all_append is_spared (told st02 (group_report d g)) (se_out (length (told st02 (group_report d g)) + 1) st02 ∷ [])
      (all_append is_spared bs (ak9 (group_report d g) ∷ []) (reports_spared d g.header [] (sets g)) refl)
      refl

  sets_spared : (n : ℕ) (gs : List Group) → all is_spared (transaction_sets n (map (group_report d) gs)) ≡ true
  unfolding transaction_sets all
  sets_spared n [] = refl
  sets_spared n (g ∷ gs) =
      all_append is_spared (transaction_set (padded 4 n) (group_report d g)) (transaction_sets (n + 1) (map (group_report d) gs))
      (set_spared (padded 4 n) g)
      (sets_spared (n + 1) gs)

-- No segment of a response is such an AK4. A program that tells of a bad date by 9, or of an element too many by 10, is shut out.
pub respond_spared : (i : Bytes) (gs : List Group) (call : Call) → all is_spared (respond i gs call) ≡ true
unfolding respond isa_out gs_out ge_out iea_out all same
respond_spared i gs call =
    all_append is_spared (transaction_sets 1 (map (group_report (delimiters i)) gs)) (ge_out (length gs) call.control ∷ iea_out 1 call.control ∷ [])
    (sets_spared (delimiters i) 1 gs)
    refl
