-- What a response may hold: in its elements valid bytes and nothing else, but for ISA16; so the repetition separator stands nowhere in it.
use Rattle.std.specs.Prelude.{if◌then◌else◌, Option, None, Some, ℕ}
use mathlib.Core.Path.{◌≡◌, refl, sym, ap, ◌∙◌}
use mathlib.Core.Bool.{Bool, true, false, ◌&&◌, ◌||◌, not, or-true, false≢true}
use mathlib.Core.List.{List, [], ◌∷◌, ◌++◌, map}
use Prim.Native.Nat.{ℕ, zero, suc, ◌+◌, ◌/◌, ◌%◌, ◌<◌}
use native.Mathlib.Omega.{arith}
use borrow.Author.Tests.{not-true, not-false, eqb-false, eq-eqb, ne_eqb, le-leb, ltb-true}
use lib.Dec.{ltb, eqb, lit<}
use lib.ListN.{length, take, drop, get_or}
use lib.Seq.{get_or-take, get_or-drop}
use Rattle.rules.specs.Base.{Bytes, ascii, null, all, any, between, is_digit, is_upper, is_lower, is_upper_or_digit, same, keep, first, every, ◌⇒◌}
use Rattle.rules.specs.Cutting.{Segment, field, isa, repetition_in, delimiters, marks, separates_repetitions, valid, text}
use Rattle.rules.specs.Numbers.{digits, is_date, is_time, padded, digits_of, decimal}
use Rattle.rules.specs.Tables.{Table, Entry, table006010, table004010, edition_table, set_table}
use Rattle.rules.specs.Elements.{Finding}
use Rattle.rules.specs.Segments.{Note, Present, Standing, unknown, unlisted, before, again, later, missing, echoed, noted, segment_note, walk, notes_of, skipped, standing, moved}
use Rattle.rules.specs.Sets.{Set, segments_of, control_of, notes_in, SetReport, set_report, accepted}
use Rattle.rules.specs.Groups.{Group, supported, edition, sets, table_in, set_reports, group_codes, accepted_in, GroupReport, group_report}
use Rattle.rules.specs.Refusals.{plain, distinct, text_fields, good_marks, good_isa, good_gs, good_st, call_rules, head_rules, header_rules, answer_rules, set_rules, group_rules, refusal}
use Rattle.rules.specs.Response.{fields_out, segment_out, out, trailing, ak4, ak3, ak3s, ak2, ak5, block, blocks, ak1, ak9, st_out, se_out, told, transaction_set, transaction_sets, isa_out, gs_out, ge_out, iea_out, first_header, respond, response}
use Rattle.rules.specs.InterchangeAcknowledgment.{note_code_rules, verdict_by, interchange_verdict, interchange_refusal, ta1, interchange_respond, interchange_response}
use Rattle.rules.specs.Damage.{free, groups_in}
use Rattle.rules.specs.declared.Call.{Call}
use Rattle.rules.specs.declared.Delimiters.{Delimiters}
use Rattle.rules.proofs.Logic.{and_left, and_right, all_head, all_tail, all_cons, all_append, all_left, all_right, all_take, all_drop, all_anywhere, all_weaken, silent, Each, each_none, each_append, each_weaken, each_all}
use Rattle.rules.proofs.Lengths.{either}
use Rattle.rules.proofs.Echo.{Points, notes_point}
use Rattle.rules.proofs.Cuts.{valid_apart, digit_common, common_valid}
use Rattle.rules.proofs.Envelope.{Clear, clear}
use Rattle.rules.proofs.InterchangeAcknowledgment.{opening_rules, asked_passes}
use Rattle.rules.proofs.Separator.{distinct_snoc}

-- 1. Letters, digits and the space: numbers have nothing else.
abbrev is_common : ℕ → Bool
is_common b = not (plain b)

digit_of : (k : ℕ) → k < 10 → is_common (48 + k) ≡ true
digit_of k h = digit_common (48 + k) (rw (le-leb 48 (48 + k) (omega arith), le-leb (48 + k) 57 (omega (arith, h))))

snoc_common : (bs : Bytes) (n : ℕ) → all is_common bs ≡ true → all is_common (bs ++ (48 + n % 10) ∷ []) ≡ true
unfolding all
snoc_common bs n e = all_append is_common bs ((48 + n % 10) ∷ []) e (rw (digit_of (n % 10) (omega arith)))

digits_common : (f n : ℕ) → all is_common (digits_of f n) ≡ true
unfolding digits_of all
digits_common zero n = rw (digit_of (n % 10) (omega arith))
digits_common (suc f) n = go (ltb n 10) refl (digits_common f (n / 10))
  where
    go : (b : Bool) → ltb n 10 ≡ b → all is_common (digits_of f (n / 10)) ≡ true
        → all is_common (if b then (48 + n) ∷ [] else digits_of f (n / 10) ++ (48 + n % 10) ∷ []) ≡ true
    go true q left = rw (digit_of n (ltb-true n 10 q))
    go false q left = snoc_common (digits_of f (n / 10)) n left

padded_common : (w n : ℕ) → all is_common (padded w n) ≡ true
unfolding padded all
padded_common zero n = refl
padded_common (suc w) n = snoc_common (padded w (n / 10)) n (padded_common w (n / 10))

caps_common : (c : ℕ) → is_upper_or_digit c ≡ true → is_common c ≡ true
caps_common c e = go (is_upper c) (is_lower c) (is_digit c) (eqb c 32) e
  where
    go : (u l n s : Bool) → u || n ≡ true → not (not (u || l || n || s)) ≡ true
    go true l n s e = refl
    go false true n s e = refl
    go false false true s e = refl
    go false false false s e = absurd (false≢true e)

-- a fixed text, which is computed
abbrev commons : Bytes → Bool
commons [] = true
commons (b ∷ bs) = is_common b && commons bs

commons_all : (bs : Bytes) → commons bs ≡ true → all is_common bs ≡ true
unfolding all
commons_all [] e = refl
commons_all (b ∷ bs) e = all_cons is_common b bs (and_left (is_common b) (commons bs) e) (commons_all bs (and_right (is_common b) (commons bs) e))

-- 2. The ids of the tables are such.
abbrev is_titled : Entry → Bool
is_titled e = commons e.id

abbrev titled_in : Option Table → Bool
titled_in None = true
titled_in (Some t) = all is_titled t.entries

table_titled : (gs : Segment) (s : Set) → titled_in (table_in gs s) ≡ true
unfolding table_in set_table edition_table table006010 table004010 all
table_titled gs s =
    let Q : Option Table → Type 0 = λ t. titled_in t ≡ true in
    either Q (supported gs)
    (either Q (same (field s.header 1) (ascii "990"))
    (either Q (same (edition gs) (ascii "006010")) refl (either Q (same (edition gs) (ascii "004010")) refl refl)) refl) refl

-- 3. The segments, one after the other.
module _ (d : Delimiters) (p : all plain (marks d) ≡ true) where
  -- a field of valid bytes, and a segment of such fields
  abbrev clean : Bytes → Type 0
  clean bs = all (valid d) bs ≡ true

  abbrev Clean : Segment → Type 0
  Clean s = Each clean s

  common_clean : (bs : Bytes) → all is_common bs ≡ true → clean bs
  common_clean = all_weaken is_common (valid d) (common_valid d p)

  fixed : (bs : Bytes) → commons bs ≡ true → clean bs
  fixed bs e = common_clean bs (commons_all bs e)

  number_clean : (n : ℕ) → clean (decimal n)
  unfolding decimal
  number_clean n = common_clean (decimal n) (digits_common 19 n)

  padded_clean : (w n : ℕ) → clean (padded w n)
  padded_clean w n = common_clean (padded w n) (padded_common w n)

  numbers_clean : (ns : List ℕ) → Clean (map decimal ns)
  unfolding Each
  numbers_clean [] = tt
  numbers_clean (n ∷ ns) = (number_clean n, numbers_clean ns)

  digits_clean : (lo hi : ℕ) (bs : Bytes) → digits lo hi bs ≡ true → clean bs
  unfolding digits
  digits_clean lo hi bs e = common_clean bs (all_weaken is_digit is_common digit_common bs (and_right (between lo hi (length bs)) (all is_digit bs) e))

  text_clean : (lo hi : ℕ) (bs : Bytes) → text d lo hi bs ≡ true → clean bs
  unfolding text
  text_clean lo hi bs e = and_right (between lo hi (length bs)) (all (valid d) bs) e

  caps_clean : (bs : Bytes) → all is_upper_or_digit bs ≡ true → clean bs
  caps_clean bs e = common_clean bs (all_weaken is_upper_or_digit is_common caps_common bs e)

  -- what is shown of a set's notes
  abbrev Titled : Note → Type 0
  Titled n = clean n.id

  abbrev Quoted : Note → Type 0
  Quoted n = Each (λ (f : Finding). clean f.echo) n.findings

  trailing_clean : (e : Bytes) → clean e → Clean (trailing e)
  unfolding trailing Each
  trailing_clean [] h = tt
  trailing_clean (b ∷ e) h = (h, tt)

  ak4s_clean : (fs : List Finding) → Each (λ (f : Finding). clean f.echo) fs → Each Clean (map ak4 fs)
  unfolding ak4 Each
  ak4s_clean [] h = tt
  ak4s_clean (f ∷ fs) h =
      let reference = either clean (eqb f.reference 0) (fixed [] refl) (number_clean f.reference) in
      let last : Clean (drop 3 (ak4 f)) = (number_clean f.code, trailing_clean f.echo h.0) in
      ((fixed (ascii "AK4") refl, (number_clean f.place, (reference, last))), ak4s_clean fs h.1)

  ak3s_clean : (ns : List Note) → Each Titled ns → Each Quoted ns → Each Clean (ak3s ns)
  unfolding ak3s ak3 Each
  ak3s_clean [] t q = tt
  ak3s_clean (n ∷ ns) t q =
      let first : Clean (get_or (ak3 n) 0 []) = (fixed (ascii "AK3") refl, (t.0, (number_clean n.position, (fixed [] refl, numbers_clean n.codes)))) in
      each_append Clean (ak3 n) (ak3s ns) (first, ak4s_clean n.findings q.0) (ak3s_clean ns t.1 q.1)

  -- a set whose report may be written
  record Writable (r : SetReport) : Type 0 where
    st01 : clean r.st01
    st02 : clean r.st02
    titles : Each Titled r.notes
    quotes : Each Quoted r.notes

  blocks_clean : (rs : List SetReport) → Each Writable rs → Each Clean (blocks rs)
  unfolding blocks block ak2 ak5 Each
  blocks_clean [] h = tt
  blocks_clean (r ∷ rs) h =
      let verdict = either clean (accepted r) (fixed (ascii "A") refl) (fixed (ascii "R") refl) in
      let closing : Clean (ak5 r) = (fixed (ascii "AK5") refl, (verdict, numbers_clean r.codes)) in
      let notes = each_append Clean (ak3s r.notes) (ak5 r ∷ []) (ak3s_clean r.notes h.0.titles h.0.quotes) (closing, tt) in
      each_append Clean (block r) (blocks rs) ((fixed (ascii "AK2") refl, (h.0.st01, (h.0.st02, tt))), notes) (blocks_clean rs h.1)

  -- a group whose report may be written
  record WritableGroup (g : GroupReport) : Type 0 where
    gs01 : clean g.gs01
    gs06 : clean g.gs06
    verdict : clean g.verdict
    sets : Each Writable g.sets

  transaction_clean : (st02 : Bytes) (g : GroupReport) → clean st02 → WritableGroup g → Each Clean (transaction_set st02 g)
  unfolding transaction_set told st_out se_out ak1 ak9 Each
  transaction_clean st02 g e h =
      let n = length (told st02 g) + 1 in
      let counts : Clean (drop 2 (ak9 g)) = (number_clean g.included, (number_clean g.received, (number_clean g.allowed, numbers_clean g.codes))) in
      let closing : Clean (ak9 g) = (fixed (ascii "AK9") refl, (h.verdict, counts)) in
      let sets = each_append Clean (blocks g.sets) (ak9 g ∷ []) (blocks_clean g.sets h.sets) (closing, tt) in
      each_append Clean (told st02 g) (se_out n st02 ∷ [])
      ((fixed (ascii "ST") refl, (fixed (ascii "997") refl, (e, tt))), ((fixed (ascii "AK1") refl, (h.gs01, (h.gs06, tt))), sets))
      ((fixed (ascii "SE") refl, (number_clean n, (e, tt))), tt)

  transactions_clean : (n : ℕ) (gs : List GroupReport) → Each WritableGroup gs → Each Clean (transaction_sets n gs)
  unfolding transaction_sets Each
  transactions_clean n [] h = tt
  transactions_clean n (g ∷ gs) h =
      each_append Clean (transaction_set (padded 4 n) g) (transaction_sets (n + 1) gs) (transaction_clean (padded 4 n) g (padded_clean 4 n) h.0)
      (transactions_clean (n + 1) gs h.1)

  -- 4. What is reported may be written.
  echoed_clean : (id : Bytes) → clean (echoed id)
  unfolding echoed
  echoed_clean id = go (between 2 3 (length id)) (all is_upper_or_digit id) refl
    where
      go : (b c : Bool) → all is_upper_or_digit id ≡ c → clean (if b && c then id else ascii "ZZZ")
      go false c q = fixed (ascii "ZZZ") refl
      go true false q = fixed (ascii "ZZZ") refl
      go true true q = caps_clean id q

  missing_titled : (n : ℕ) (es : List Entry) → all is_titled es ≡ true → Each Titled (missing n es)
  unfolding missing keep Each
  missing_titled n [] h = tt
  missing_titled n (e ∷ es) h = go e.mandatory (fixed e.id (all_head is_titled e es h)) (missing_titled n es (all_tail is_titled e es h))
    where
      go : (b : Bool) → clean e.id → Each Titled (missing n es)
          → let r = keep (λ e. e.mandatory) es in
          Each Titled (map (λ e. record { id = e.id; position = n; codes = 3 ∷ []; findings = [] }) (if b then e ∷ r else r))
      go true here more = (here, more)
      go false here more = more

  segment_titled : (n c : ℕ) (id : Bytes) (fs : List Finding) → Each Titled (segment_note n c id fs)
  unfolding segment_note Each
  segment_titled n c id fs = go (every ((not (eqb c 0) ⇒ c) ∷ (not (null fs) ⇒ 8) ∷ []))
    where
      go : (cs : List ℕ) → Each Titled (noted (echoed id) n cs fs)
      go [] = tt
      go (c ∷ cs) = (echoed_clean id, tt)

  module _ (t : Table) (h : all is_titled t.entries ≡ true) where
    skipped_titled : (at : Present) (st : Standing) → all is_titled (skipped t at st) ≡ true
    unfolding all
    skipped_titled at unknown = refl
    skipped_titled at unlisted = refl
    skipped_titled at (before k) = refl
    skipped_titled at (again k) = refl
    skipped_titled at (later k) = all_drop is_titled (at.index + 1) (take k t.entries) (all_take is_titled k t.entries h)

    walk_titled : (closed : Bool) (at : Present) (n : ℕ) (ss : List Segment) → Each Titled (walk d t closed at n ss)
    unfolding walk
    walk_titled true at n [] = each_none Titled
    walk_titled false at n [] = missing_titled n _ (skipped_titled at (standing t at (ascii "SE")))
    walk_titled closed at n (s ∷ ss) =
        let st = standing t at (field s 0) in
        each_append Titled _ _ (each_append Titled _ _ (missing_titled n _ (skipped_titled at st)) (segment_titled n _ _ _))
        (walk_titled closed (moved at st) (n + 1) ss)

  notes_titled : (t : Option Table) (s : Set) → titled_in t ≡ true → Each Titled (notes_in d t s)
  unfolding notes_of
  notes_titled None s h = each_none Titled
  notes_titled (Some t) s h = each_append Titled _ _ (segment_titled 1 0 _ _) (walk_titled t h _ _ 2 _)

  notes_quoted : (t : Option Table) (s : Set) → Each Quoted (notes_in d t s)
  notes_quoted t s =
      each_weaken (Points d 1 (segments_of s)) Quoted
      (λ n at. each_weaken _ (λ (f : Finding). clean f.echo) (λ f shown. shown.clean) n.findings at.shows) (notes_in d t s) (notes_point d t s)

  st_clean : (st : Segment) → good_st d st ≡ true → clean (field st 1) × clean (field st 2)
  unfolding good_st
  st_clean st e =
      let st01 = digits 3 3 (field st 1) in
      let st02 = text d 4 9 (field st 2) in
      (digits_clean 3 3 (field st 1) (and_left st01 st02 e), text_clean 4 9 (field st 2) (and_right st01 st02 e))

  reports_writable : (gs : Segment) (earlier : List Bytes) (ss : List Set) → all (λ s. good_st d s.header) ss ≡ true
      → Each Writable (set_reports d (table_in gs) earlier ss)
  unfolding set_reports set_report Each
  reports_writable gs earlier [] e = tt
  reports_writable gs earlier (s ∷ ss) e =
      let good : Set → Bool = λ s. good_st d s.header in
      let here = st_clean s.header (all_head good s ss e) in (
        record {
          st01 = here.0;
          st02 = here.1;
          titles = notes_titled (table_in gs s) s (table_titled gs s);
          quotes = notes_quoted (table_in gs s) s;
        },
        reports_writable gs (control_of s ∷ earlier) ss (all_tail good s ss e),
      )

  -- GS of a group that is not refused: GS01, GS02, GS03, GS06, GS07 and GS08
  abbrev CleanHeader : Segment → Type 0
  CleanHeader gs = clean (field gs 1) × clean (field gs 2) × clean (field gs 3) × clean (field gs 6) × clean (field gs 7) × clean (field gs 8)

  header_clean : (g : Group) → first (group_rules d g) ≡ 0 → CleanHeader g.header
  unfolding group_rules header_rules answer_rules set_rules good_gs
  header_clean g e =
      let gs = g.header in
      let two = eqb (length gs) 9 && eqb (length (field gs 1)) 2 in
      let gs01 = all is_upper_or_digit (field gs 1) in
      let gs02 = text d 2 15 (field gs 2) in
      let gs03 = text d 2 15 (field gs 3) in
      let gs04 = is_date (field gs 4) in
      let gs05 = is_time (field gs 5) in
      let gs06 = digits 1 9 (field gs 6) in
      let gs07 = text d 1 2 (field gs 7) in
      let gs08 = text d 1 12 (field gs 8) in
      let names = two && gs01 && gs02 && gs03 in
      let numbers = names && gs04 && gs05 && gs06 in
      let good = not-false (good_gs d gs) (silent (group_rules d g) tt e).0 in
      let e7 = and_left (numbers && gs07) gs08 good in
      let e6 = and_left numbers gs07 e7 in
      let e3 = and_left names gs04 (and_left (names && gs04) gs05 (and_left (names && gs04 && gs05) gs06 e6)) in
      let e2 = and_left (two && gs01 && gs02) gs03 e3 in (
        caps_clean (field gs 1) (and_right two gs01 (and_left (two && gs01) gs02 e2)),
        text_clean 2 15 (field gs 2) (and_right (two && gs01) gs02 e2),
        text_clean 2 15 (field gs 3) (and_right (two && gs01 && gs02) gs03 e3),
        digits_clean 1 9 (field gs 6) (and_right (names && gs04 && gs05) gs06 e6),
        text_clean 1 2 (field gs 7) (and_right numbers gs07 e7),
        text_clean 1 12 (field gs 8) (and_right (numbers && gs07) gs08 good),
      )

  -- and its ST segments
  headers_good : (g : Group) → first (group_rules d g) ≡ 0 → all (λ s. good_st d s.header) (sets g) ≡ true
  unfolding group_rules header_rules answer_rules set_rules
  headers_good g e = not-false (all (λ s. good_st d s.header) (sets g)) (silent (group_rules d g) tt e).1.1.1.1.0

  group_writable : (g : Group) → first (group_rules d g) ≡ 0 → WritableGroup (group_report d g)
  unfolding group_report
  group_writable g e =
      let header = header_clean g e in
      let rs = set_reports d (table_in g.header) [] (sets g) in
      record {
        gs01 = header.0;
        gs06 = header.3;
        verdict =
            either clean (not (null (group_codes g)) || eqb (accepted_in rs) 0) (fixed (ascii "R") refl)
            (either clean (eqb (accepted_in rs) (length rs)) (fixed (ascii "A") refl) (fixed (ascii "P") refl));
        sets = reports_writable g.header [] (sets g) (headers_good g e);
      }

  groups_writable : (gs : List Group) → Each (λ g. first (group_rules d g) ≡ 0) gs → Each WritableGroup (map (group_report d) gs)
  unfolding Each
  groups_writable [] h = tt
  groups_writable (g ∷ gs) h = (group_writable g h.0, groups_writable gs h.1)

  -- 5. The envelope.
  field_clean : (ss : List Bytes) → all (all (valid d)) ss ≡ true → (k : ℕ) → clean (field ss k)
  unfolding all
  field_clean ss h k = all_anywhere (all (valid d)) [] refl ss h k

  -- the fields of ISA but ISA11, whatever it is
  module _ (s : Segment) (texts : all (all (valid d)) (text_fields d.repetition s) ≡ true) where
    before_clean : all (all (valid d)) (take 11 s) ≡ true
    before_clean = go d.repetition texts
      where
        go : (r : Option ℕ) → all (all (valid d)) (text_fields r s) ≡ true → all (all (valid d)) (take 11 s) ≡ true
        go None e = all_take (all (valid d)) 11 s e
        go (Some b) e = all_left (all (valid d)) (take 11 s) (drop 12 s) e

    after_clean : all (all (valid d)) (drop 12 s) ≡ true
    after_clean = go d.repetition texts
      where
        go : (r : Option ℕ) → all (all (valid d)) (text_fields r s) ≡ true → all (all (valid d)) (drop 12 s) ≡ true
        go None e = all_drop (all (valid d)) 12 s e
        go (Some b) e = all_right (all (valid d)) (take 11 s) (drop 12 s) e

    early : (k : ℕ) → k < 11 → clean (field s k)
    early k h = rw (get_or-take 11 s k [] h) at (field_clean (take 11 s) before_clean k)

    late : (k : ℕ) → clean (field s (12 + k))
    late k = rw (get_or-drop 12 s k []) at (field_clean (drop 12 s) after_clean k)

    isa_clean : (call : Call) → Clean (take 16 (isa_out d s call))
    unfolding isa_out Each
    isa_clean call =
        let fields = take 16 (isa_out d s call) in
        let spaces = fixed (ascii "          ") refl in
        let last : Clean (drop 11 fields) =
        (fixed (ascii "U") refl, (fixed (ascii "00401") refl, (padded_clean 9 call.control, (fixed (ascii "0") refl, (late 3, tt))))) in
        let dated : Clean (drop 9 fields) = (padded_clean 6 call.date, (padded_clean 4 call.time, last)) in
        let named : Clean (drop 5 fields) = (early 7 (lit< tt), (early 8 (lit< tt), (early 5 (lit< tt), (early 6 (lit< tt), dated)))) in
        (fixed (ascii "ISA") refl, (fixed (ascii "00") refl, (spaces, (fixed (ascii "00") refl, (spaces, named)))))

    ta1_clean : (n : ℕ) → Clean (ta1 s (verdict_by n))
    unfolding ta1 Each
    ta1_clean n =
        let verdict : clean (if eqb n 0 then ascii "A" else ascii "R") = either clean (eqb n 0) (fixed (ascii "A") refl) (fixed (ascii "R") refl) in
        (fixed (ascii "TA1") refl, (late 1, (early 9 (lit< tt), (early 10 (lit< tt), (verdict, (padded_clean 3 n, tt))))))

  gs_clean : (gs : Segment) (call : Call) → clean (field gs 3) → clean (field gs 2) → Clean (gs_out gs call)
  unfolding gs_out Each
  gs_clean gs call e f =
      let last : Clean (drop 6 (gs_out gs call)) = (number_clean call.control, (fixed (ascii "X") refl, (fixed (ascii "004010") refl, tt))) in
      (fixed (ascii "GS") refl, (fixed (ascii "FA") refl, (e, (f, (padded_clean 8 call.date, (padded_clean 4 call.time, last))))))

  first_clean : (gs : List Group) (call : Call) → Each (λ g. first (group_rules d g) ≡ 0) gs → Clean (gs_out (first_header gs) call)
  unfolding Each
  first_clean [] call h = gs_clean [] call (fixed [] refl) (fixed [] refl)
  first_clean (g ∷ gs) call h = let header = header_clean g h.0 in gs_clean g.header call header.2 header.1

  ge_clean : (n control : ℕ) → Clean (ge_out n control)
  unfolding ge_out Each
  ge_clean n control = (fixed (ascii "GE") refl, (number_clean n, (number_clean control, tt)))

  iea_clean : (n control : ℕ) → Clean (iea_out n control)
  unfolding iea_out Each
  iea_clean n control = (fixed (ascii "IEA") refl, (number_clean n, (padded_clean 9 control, tt)))

-- 6. The bytes of a response.
-- the segments of a response without ISA16, its component separator
abbrev pub text_of : List Segment → List Segment
text_of [] = []
text_of (isa ∷ ss) = take 16 isa ∷ ss

-- a byte that may be sent: a valid one, or one of three delimiters
abbrev pub is_sendable : Delimiters → ℕ → Bool
is_sendable d c = valid d c || any (eqb c) (d.element ∷ d.component ∷ d.terminator ∷ [])

free_none : (b : ℕ) (ms : List ℕ) → free b ms ≡ true → any (eqb b) ms ≡ false
unfolding any
free_none b [] e = refl
free_none b (m ∷ ms) e =
    let other = eqb-false m b (not-true (eqb m b) (all_head (λ m. not (eqb m b)) m ms e)) in
    rw (ne_eqb b m (λ q. other (sym q))) (free_none b ms (all_tail (λ m. not (eqb m b)) m ms e))

module _ (d : Delimiters) where
  element_sendable : is_sendable d d.element ≡ true
  unfolding any
  element_sendable = rw (eq-eqb d.element d.element refl, or-true (valid d d.element))

  component_sendable : is_sendable d d.component ≡ true
  unfolding any
  component_sendable =
      rw (eq-eqb d.component d.component refl, or-true (eqb d.component d.element), or-true (valid d d.component))

  terminator_sendable : is_sendable d d.terminator ≡ true
  unfolding any
  terminator_sendable =
      rw (
        eq-eqb d.terminator d.terminator refl,
        or-true (eqb d.terminator d.component),
        or-true (eqb d.terminator d.element),
        or-true (valid d d.terminator),
      )

  fields_sendable : (fs : List Bytes) → all (all (is_sendable d)) fs ≡ true → all (is_sendable d) (fields_out d fs) ≡ true
  unfolding fields_out all
  fields_sendable [] e = refl
  fields_sendable (f ∷ fs) e =
      let q = is_sendable d in
      all_cons q d.element (f ++ fields_out d fs) element_sendable
      (all_append q f (fields_out d fs) (all_head (all q) f fs e) (fields_sendable fs (all_tail (all q) f fs e)))

  out_sendable : (ss : List Segment) → all (all (all (is_sendable d))) ss ≡ true → all (is_sendable d) (out d ss) ≡ true
  unfolding out all
  out_sendable [] e = refl
  out_sendable ([] ∷ ss) e = out_sendable ss e
  out_sendable ((f ∷ fs) ∷ ss) e =
      let q = is_sendable d in
      let here = all_head (all (all q)) (f ∷ fs) ss e in
      all_append q (segment_out d (f ∷ fs)) (out d ss)
      (all_append q (f ++ fields_out d fs) (d.terminator ∷ [])
      (all_append q f (fields_out d fs) (all_head (all q) f fs here) (fields_sendable fs (all_tail (all q) f fs here)))
      (rw terminator_sendable))
      (out_sendable ss (all_tail (all (all q)) (f ∷ fs) ss e))

  -- from the fields but ISA16, which is the component separator
  whole_sendable : (s : Segment) (call : Call) (ss : List Segment) → all (all (all (valid d))) (text_of (isa_out d s call ∷ ss)) ≡ true
      → all (is_sendable d) (out d (isa_out d s call ∷ ss)) ≡ true
  unfolding isa_out all
  whole_sendable s call ss e =
      let q = is_sendable d in
      let fields = all_weaken (valid d) q (λ c h. rw h) in
      let segments = all_weaken (all (valid d)) (all q) fields in
      let isa = isa_out d s call in
      out_sendable (isa ∷ ss)
      (all_cons (all (all q)) isa ss
      (all_append (all q) (take 16 isa) ((d.component ∷ []) ∷ []) (segments (take 16 isa) (all_head (all (all (valid d))) (take 16 isa) ss e)) (rw component_sendable))
      (all_weaken (all (all (valid d))) (all (all q)) segments ss (all_tail (all (all (valid d))) (take 16 isa) ss e)))

  -- the repetition separator is no such byte
  separator_barred : good_marks (marks d) ≡ true → (b : ℕ) → d.repetition ≡ Some b → is_sendable d b ≡ false
  unfolding good_marks marks separates_repetitions any
  separator_barred m b e = rw (invalid (valid d b) refl, free_none b three single)
    where
      three : List ℕ
      three = d.element ∷ d.component ∷ d.terminator ∷ []

      single : free b three ≡ true
      single =
          let differ : distinct (three ++ b ∷ []) ≡ true = rw e at (and_left (distinct (marks d)) (all plain (marks d)) m) in
          and_right (distinct three) (free b three) (sym (distinct_snoc three b) ∙ differ)

      invalid : (c : Bool) → valid d b ≡ c → c ≡ false
      invalid true q = absurd (false≢true (sym (valid_apart d b q).3 ∙ rw (e, eq-eqb b b refl)))
      invalid false q = refl

  separator_free : good_marks (marks d) ≡ true → (b : ℕ) → d.repetition ≡ Some b → (bs : Bytes) → all (is_sendable d) bs ≡ true → free b bs ≡ true
  separator_free m b e = all_weaken (is_sendable d) (λ c. not (eqb c b)) apart
    where
      apart : (c : ℕ) → is_sendable d c ≡ true → not (eqb c b) ≡ true
      apart c h = rw (ne_eqb c b (λ q. false≢true (sym (separator_barred m b e) ∙ ap (is_sendable d) (sym q) ∙ h)))

  clean_free : good_marks (marks d) ≡ true → (b : ℕ) → d.repetition ≡ Some b → (bs : Bytes) → all (valid d) bs ≡ true → free b bs ≡ true
  clean_free m b e bs h = separator_free m b e bs (all_weaken (valid d) (is_sendable d) (λ c v. rw v) bs h)

-- a group without the byte b in the texts of its GS and in its control numbers ST02
pub record Without (b : ℕ) (g : Group) : Type 0 where
  pub gs02 : free b (field g.header 2) ≡ true
  pub gs03 : free b (field g.header 3) ≡ true
  pub gs07 : free b (field g.header 7) ≡ true
  pub gs08 : free b (field g.header 8) ≡ true
  pub st02s : Each (λ s. free b (field s.header 2) ≡ true) (sets g)

module _ (d : Delimiters) (m : good_marks (marks d) ≡ true) (p : all plain (marks d) ≡ true) (b : ℕ) (e : d.repetition ≡ Some b) where
  sets_without : (ss : List Set) → all (λ s. good_st d s.header) ss ≡ true → Each (λ s. free b (field s.header 2) ≡ true) ss
  unfolding Each
  sets_without [] h = tt
  sets_without (s ∷ ss) h =
      let good : Set → Bool = λ s. good_st d s.header in
      (clean_free d m b e (field s.header 2) (st_clean d p s.header (all_head good s ss h)).1, sets_without ss (all_tail good s ss h))

  group_without : (g : Group) → first (group_rules d g) ≡ 0 → Without b g
  group_without g h =
      let header = header_clean d p g h in
      record {
        gs02 = clean_free d m b e (field g.header 2) header.1;
        gs03 = clean_free d m b e (field g.header 3) header.2;
        gs07 = clean_free d m b e (field g.header 7) header.4;
        gs08 = clean_free d m b e (field g.header 8) header.5;
        st02s = sets_without (sets g) (headers_good d p g h);
      }

-- 7. What is sent.
-- what 4 and 5 leave: the marks are plain, and the fields of ISA that are text are valid
marks_plain : (ms : List ℕ) → good_marks ms ≡ true → all plain ms ≡ true
unfolding good_marks
marks_plain ms e = and_right (distinct ms) (all plain ms) e

isa_texts : (d : Delimiters) (s : Segment) → good_isa d s ≡ true → all (all (valid d)) (text_fields d.repetition s) ≡ true
unfolding good_isa
isa_texts d s e =
    let texts = all (all (valid d)) (text_fields d.repetition s) in
    let nine = digits 9 9 (field s 13) in
    and_left texts nine (and_left (texts && nine) _ e)

-- segments of valid bytes, as one test
all_clean : (d : Delimiters) (p : all plain (marks d) ≡ true) (ss : List Segment) → Each (Clean d p) ss → all (all (all (valid d))) ss ≡ true
all_clean d p ss h =
    each_all (all (all (valid d))) ss (each_weaken (Clean d p) (λ s. all (all (valid d)) s ≡ true) (each_all (all (valid d))) ss h)

module _ (i : Bytes) (call : Call) (e : refusal i call ≡ 0) where
  abbrev c : Clear i call
  c = clear i call e

  -- Every element of a response is of valid bytes, but for ISA16. Shut out: a delimiter or a control byte that gets into the response with an echo, an
  -- id, a control number or a name.
  pub sent_valid : all (all (all (valid (delimiters i)))) (text_of (respond i (groups_in i) call)) ≡ true
  unfolding respond Each
  sent_valid =
      let d = delimiters i in
      let gs = groups_in i in
      let p = marks_plain (marks d) c.passed.marked in
      all_clean d p _ (
        isa_clean d p (isa i) (isa_texts d (isa i) c.passed.headed) call,
        (
          first_clean d p gs call c.groups,
          each_append (Clean d p) (transaction_sets 1 (map (group_report d) gs)) (ge_out (length gs) call.control ∷ iea_out 1 call.control ∷ [])
              (transactions_clean d p 1 (map (group_report d) gs) (groups_writable d p gs c.groups))
              (ge_clean d p (length gs) call.control, (iea_clean d p 1 call.control, tt)),
        ),
      )

  -- So every byte of it is valid, or one of the three delimiters that the interchange brings.
  pub sent_sendable : all (is_sendable (delimiters i)) (response i call) ≡ true
  unfolding response respond
  sent_sendable = whole_sendable (delimiters i) (isa i) call _ sent_valid

  -- The repetition separator of the interchange stands nowhere in its response. Shut out: an echo of a repeated element, and ISA11 given back as it came.
  pub separator_unsent : (b : ℕ) → repetition_in i ≡ Some b → free b (response i call) ≡ true
  unfolding delimiters
  separator_unsent b r = separator_free (delimiters i) c.passed.marked b r (response i call) sent_sendable

  -- It stands in no text of a GS and in no ST02 of the groups that are answered. Shut out: a program that looks at those of the first group only.
  pub separator_unadmitted : (b : ℕ) → repetition_in i ≡ Some b → Each (Without b) (groups_in i)
  unfolding delimiters
  separator_unadmitted b r =
      let d = delimiters i in
      each_weaken (λ (g : Group). first (group_rules d g) ≡ 0) (Without b)
      (group_without d c.passed.marked (marks_plain (marks d) c.passed.marked) b r) (groups_in i) c.groups

module _ (i : Bytes) (call : Call) (e : interchange_refusal i call ≡ 0) where
  -- 4 and 5 pass
  head_good : (good_marks (marks (delimiters i)) ≡ true) × (good_isa (delimiters i) (isa i) ≡ true)
  unfolding call_rules head_rules
  head_good =
      let r = silent (opening_rules i call) tt (asked_passes i call e).0 in
      (not-false (good_marks (marks (delimiters i))) r.1.1.1.0, not-false (good_isa (delimiters i) (isa i)) r.1.1.1.1.0)

  -- The same of a TA1. Shut out: a delimiter that gets into it with a name, a date or a time.
  pub sent_valid_ta1 : all (all (all (valid (delimiters i)))) (text_of (interchange_respond i call)) ≡ true
  unfolding interchange_respond interchange_verdict Each
  sent_valid_ta1 =
      let d = delimiters i in
      let p = marks_plain (marks d) head_good.0 in
      let texts = isa_texts d (isa i) head_good.1 in
      all_clean d p _ (isa_clean d p (isa i) texts call, (ta1_clean d p (isa i) texts (first (note_code_rules i)), (iea_clean d p 0 call.control, tt)))

  pub sent_sendable_ta1 : all (is_sendable (delimiters i)) (interchange_response i call) ≡ true
  unfolding interchange_response interchange_respond
  sent_sendable_ta1 = whole_sendable (delimiters i) (isa i) call _ sent_valid_ta1

  pub separator_unsent_ta1 : (b : ℕ) → repetition_in i ≡ Some b → free b (interchange_response i call) ≡ true
  unfolding delimiters
  separator_unsent_ta1 b r = separator_free (delimiters i) head_good.0 b r (interchange_response i call) sent_sendable_ta1
