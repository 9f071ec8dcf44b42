-- The response to an interchange of at most 65,536 bytes, refused or not, has less than 2^42 bytes, over tables within a named limit.
use Rattle.std.specs.Prelude.{if◌then◌else◌, option_to_list, is_none, Option, None, Some}
use Prim.Native.Nat.{ℕ, zero, suc, ◌+◌, ◌*◌, ◌≤◌, ◌<◌}
use mathlib.Core.Path.{◌≡◌, refl}
use mathlib.Core.Bool.{Bool, true, false, ◌&&◌, ◌||◌, not}
use mathlib.Core.List.{List, [], ◌∷◌, ◌++◌, map}
use native.Mathlib.Omega.{arith}
use lib.Dec.{leb, ltb, eqb}
use lib.ListN.{length, take, drop, get_or, length-append}
use borrow.Author.Tests.{leb-true}
use Rattle.rules.specs.Base.{Bytes, Rule, ◌⇒◌, every, null, all, keep, push, front, last, is_upper_or_digit, ascii, same}
use Rattle.rules.specs.Cutting.{Segment, field, delimiters, cut_at, split, pieces, segments}
use Rattle.rules.specs.Numbers.{padded}
use Rattle.rules.specs.Tables.{Row, Syntax, Entry, Table, edition_table, set_table, table006010, table004010, st_rows, st_rows6, se_rows, b1_rows, l11_rows, k1_rows}
use Rattle.rules.specs.Elements.{element_code, place_codes, Finding, found, findings_from, findings}
use Rattle.rules.specs.Segments.{Note, Present, Standing, unknown, unlisted, before, again, later, no_entry, entry_at, standing, own_code, moved, findings_by, skipped, missing, echoed, noted, segment_note, walk, notes_of}
use Rattle.rules.specs.Sets.{Set, is_st, is_se, body_of, trailer_of, sets_of, control_of, notes_in, set_codes, set_report}
use Rattle.rules.specs.Groups.{Group, is_ge, group_with, cut_after_ge, groups_of, supported, edition, table_in, set_reports, group_codes, verdict, accepted_in, group_report}
use Rattle.rules.specs.Response.{fields_out, segment_out, out, ak3s, block, blocks, st_out, se_out, told, transaction_set, transaction_sets, ge_out, iea_out, first_header, respond, response}
use Rattle.rules.specs.declared.Call.{Call}
use Rattle.rules.specs.declared.Delimiters.{Delimiters}
use Rattle.rules.proofs.Echo.{echo_short}
use Rattle.rules.proofs.Lengths.{either, padded_length, decimal_short, every_short, weight, weight_append, out_nil, out_cons, length_out_append, field_short, ak3_short, ak3s_append, ak2_short, ak5_short, ak1_short, ak9_short, isa_out_short, gs_out_short}

-- 1. The limit of a table.
-- the number of entries, of the bytes of their ids and of their rows, together
unfoldable pub load : List Entry → ℕ
load [] = 0
load (e ∷ es) = 1 + length e.id + length e.rows + load es

-- room for 64 entries with ids of three bytes and 60 rows each
abbrev pub limit : ℕ
limit = 4096

abbrev pub Limited : Table → Type 0
Limited t = load t.entries ≤ limit

abbrev pub load_in : Option Table → ℕ
load_in None = 0
load_in (Some t) = load t.entries

-- the tables of document 01 are limited
pub edition_table_limited : (edition : Bytes) → load_in (edition_table edition) ≤ limit
unfolding edition_table table006010 table004010 st_rows st_rows6 se_rows b1_rows l11_rows k1_rows load
edition_table_limited edition =
    let P : Option Table → Type 0 = λ t. load_in t ≤ limit in
    either P (same edition (ascii "006010")) (omega arith) (either P (same edition (ascii "004010")) (omega arith) (omega arith))

table_in_limited : (gs : Segment) (s : Set) → load_in (table_in gs s) ≤ limit
unfolding table_in set_table
table_in_limited gs s =
    let P : Option Table → Type 0 = λ t. load_in t ≤ limit in
    either P (supported gs)
    (either P (same (field s.header 1) (ascii "990")) (edition_table_limited (edition gs)) (omega arith))
    (omega arith)

-- 2. The entries that a segment passes over, and the one that it is checked by.
drop_load : (k : ℕ) (es : List Entry) → load (drop k es) ≤ load es
unfolding load
drop_load zero es = omega arith
drop_load (suc k) [] = omega arith
drop_load (suc k) (e ∷ es) = omega (arith, drop_load k es)

take_load : (k : ℕ) (es : List Entry) → load (take k es) ≤ load es
unfolding load
take_load zero es = omega arith
take_load (suc k) [] = omega arith
take_load (suc k) (e ∷ es) = omega (arith, take_load k es)

skipped_load : (t : Table) (p : Present) (st : Standing) → load (skipped t p st) ≤ load t.entries
unfolding load
skipped_load t p unknown = omega arith
skipped_load t p unlisted = omega arith
skipped_load t p (before k) = omega arith
skipped_load t p (again k) = omega arith
skipped_load t p (later k) = omega (arith, drop_load (p.index + 1) (take k t.entries), take_load k t.entries)

entry_rows : (k : ℕ) (es : List Entry) → length (get_or es k no_entry).rows ≤ load es
unfolding load
entry_rows zero [] = omega arith
entry_rows (suc k) [] = omega arith
entry_rows zero (e ∷ es) = omega arith
entry_rows (suc k) (e ∷ es) = omega (arith, entry_rows k es)

-- 3. The notes of a set.
place_codes_short : (d : Delimiters) (notes : List Syntax) (s : Segment) (r : Row) (n : ℕ) → length (place_codes d notes s r n) ≤ 5
unfolding place_codes
place_codes_short d notes s r n = every_short _

-- the most bytes of the AK4 of a finding
abbrev per_finding : ℕ
per_finding = 167

found_short : (d : Delimiters) (s : Segment) (r : Row) (n : ℕ) (cs : List ℕ) → weight (map (found d s r n) cs) ≤ per_finding * length cs
unfolding weight
found_short d s r n [] = omega arith
found_short d s r n (c ∷ cs) =
    omega (arith, echo_short c (element_code d r (field s n)) (field s n), found_short d s r n cs)

findings_from_short : (d : Delimiters) (notes : List Syntax) (s : Segment) (n : ℕ) (rs : List Row)
    → weight (findings_from d notes s n rs) ≤ per_finding * (5 * length rs + 1)
unfolding findings_from weight
findings_from_short d notes s n [] =
    either (λ (fs : List Finding). weight fs ≤ per_finding) (ltb n (length s)) (omega arith) (omega arith)
findings_from_short d notes s n (r ∷ rs) =
    simp weight_append
    (omega (
      arith,
      found_short d s r n (place_codes d notes s r n),
      place_codes_short d notes s r n,
      findings_from_short d notes s (n + 1) rs,
    ))

entry_short : (d : Delimiters) (t : Table) (k : ℕ) (s : Segment)
    → weight (findings d (entry_at t k) s) ≤ per_finding * (5 * load t.entries + 1)
unfolding findings
entry_short d t k s =
    omega (arith, findings_from_short d (entry_at t k).notes s 1 (entry_at t k).rows, entry_rows k t.entries)

findings_by_short : (d : Delimiters) (t : Table) (st : Standing) (s : Segment)
    → weight (findings_by d t st s) ≤ per_finding * (5 * load t.entries + 1)
unfolding weight
findings_by_short d t unknown s = omega arith
findings_by_short d t unlisted s = omega arith
findings_by_short d t (before k) s = entry_short d t k s
findings_by_short d t (again k) s = entry_short d t k s
findings_by_short d t (later k) s = entry_short d t k s

echoed_short : (id : Bytes) → length (echoed id) ≤ 3
unfolding echoed
echoed_short id = pick (leb 2 (length id)) (leb (length id) 3) (all is_upper_or_digit id) (leb-true (length id) 3)
  where
    pick : (a b c : Bool) → (b ≡ true → length id ≤ 3) → length (if (a && b) && c then id else ascii "ZZZ") ≤ 3
    pick true true true h = h refl
    pick true true false h = omega arith
    pick true false c h = omega arith
    pick false b c h = omega arith

-- what a segment of a set can cause, in bytes
abbrev per_segment : ℕ
per_segment = 3640000

module _ (d : Delimiters) where
  missing_short : (n : ℕ) (es : List Entry) → length (out d (ak3s (missing n es))) ≤ 50 * load es
  unfolding out ak3s missing keep load weight
  missing_short n [] = omega arith
  missing_short n (e ∷ es) = pick e.mandatory (keep (λ e. e.mandatory) es) (missing_short n es)
    where
      note : Entry → Note
      note e = record { id = e.id; position = n; codes = 3 ∷ []; findings = [] }

      pick : (b : Bool) (l : List Entry) → length (out d (ak3s (map note l))) ≤ 50 * load es
          → length (out d (ak3s (map note (if b then e ∷ l else l)))) ≤ 50 * load (e ∷ es)
      pick true l h = simp length_out_append (omega (arith, ak3_short d (note e)))
      pick false l h = omega arith

  noted_short : (id : Bytes) (n : ℕ) (cs : List ℕ) (fs : List Finding) → length id ≤ 3 → length cs ≤ 2
      → length (out d (ak3s (noted id n cs fs))) ≤ 73 + weight fs
  unfolding ak3s out
  noted_short id n [] fs h k = omega arith
  noted_short id n (c ∷ cs) fs h k =
      simp length_out_append (omega (arith, ak3_short d (record { id = id; position = n; codes = c ∷ cs; findings = fs })))

  segment_note_short : (n c : ℕ) (id : Bytes) (fs : List Finding) → length (out d (ak3s (segment_note n c id fs))) ≤ 73 + weight fs
  unfolding segment_note
  segment_note_short n c id fs =
      let rules : List Rule = (not (eqb c 0) ⇒ c) ∷ (not (null fs) ⇒ 8) ∷ [] in
      noted_short (echoed id) n (every rules) fs (echoed_short id) (every_short rules)

  module _ (t : Table) (limited : Limited t) (closed : Bool) where
    -- 50 bytes for each entry passed over and byte of its id, and 167 for each finding
    walk_short : (p : Present) (n : ℕ) (ss : List Segment) → length (out d (ak3s (walk d t closed p n ss))) ≤ per_segment * (length ss + 1)
    unfolding walk out ak3s
    walk_short p n [] =
        let st = standing t p (ascii "SE") in
        either (λ (ns : List Note). length (out d (ak3s ns)) ≤ per_segment) closed
        (omega arith)
        (omega (arith, missing_short n (skipped t p st), skipped_load t p st))
    walk_short p n (s ∷ ss) =
        let st = standing t p (field s 0) in
        simp ak3s_append
        (omega (
          arith,
          missing_short n (skipped t p st),
          skipped_load t p st,
          segment_note_short n (own_code t p st) (field s 0) (findings_by d t st s),
          findings_by_short d t st s,
          walk_short (moved p st) (n + 1) ss,
        ))

-- 4. The sets of a group.
-- what a set can cause besides: it has two segments more than its body, and may lack its trailer
abbrev per_set : ℕ
per_set = 10920300

listed_short : (o : Option Segment) → length (option_to_list o) ≤ 1
listed_short None = omega arith
listed_short (Some s) = omega arith

module _ (d : Delimiters) where
  notes_in_short : (t : Option Table) → load_in t ≤ limit → (s : Set) → length (out d (ak3s (notes_in d t s))) ≤ per_segment * (length s.body + 3)
  unfolding notes_of ak3s out
  notes_in_short None h s = omega arith
  notes_in_short (Some t) h s =
      simp ak3s_append
      (omega (
        arith,
        segment_note_short d 1 0 (field s.header 0) (findings d (entry_at t 0) s.header),
        entry_short d t 0 s.header,
        walk_short d t h (not (is_none s.trailer)) (record { index = 0; used = 1 }) 2 (s.body ++ option_to_list s.trailer),
        length-append s.body (option_to_list s.trailer),
        listed_short s.trailer,
      ))

  set_codes_short : (t : Option Table) (ns : List Note) (earlier : List Bytes) (s : Set) → length (set_codes t ns earlier s) ≤ 6
  unfolding set_codes
  set_codes_short t ns earlier s = every_short _

  pub block_short : (t : Option Table) → load_in t ≤ limit → (earlier : List Bytes) (s : Set)
      → length (out d (block (set_report d t earlier s))) ≤ per_segment * length s.body + per_set + 2 * length (segment_out d s.header)
  unfolding block set_report
  block_short t h earlier s =
      simp (out_cons d, length_out_append d, out_nil d)
      (omega (
        arith,
        ak2_short d (set_report d t earlier s),
        field_short d s.header 1,
        field_short d s.header 2,
        notes_in_short t h s,
        ak5_short d (set_report d t earlier s),
        set_codes_short t (notes_in d t s) earlier s,
      ))

  -- segments and their bytes
  abbrev size : List Segment → ℕ
  size ss = length ss + length (out d ss)

  -- the segments before the next set are counted with those of the sets
  sets_short : (gs : Segment) (earlier : List Bytes) (ss : List Segment)
      → length (out d (blocks (set_reports d (table_in gs) earlier (sets_of ss)))) + per_segment * length (body_of ss) ≤ per_set * size ss
  unfolding out blocks set_reports sets_of body_of
  sets_short gs earlier [] = omega arith
  sets_short gs earlier (s ∷ ss) = pick (is_st s) (is_se s) (λ es. sets_short gs es ss)
    where
      set : Set
      set = record { header = s; body = body_of ss; trailer = trailer_of ss }

      bytes : List Bytes → List Set → ℕ
      bytes es sets = length (out d (blocks (set_reports d (table_in gs) es sets)))

      pick : (b c : Bool) → ((es : List Bytes) → bytes es (sets_of ss) + per_segment * length (body_of ss) ≤ per_set * size ss)
          → bytes earlier (if b then set ∷ sets_of ss else sets_of ss) + per_segment * length (if b || c then [] else s ∷ body_of ss)
          ≤ per_set * size (s ∷ ss)
      pick true c h =
          simp (length_out_append d, out_cons d)
          (omega (arith, block_short (table_in gs set) (table_in_limited gs set) earlier set, h (control_of set ∷ earlier)))
      pick false true h = simp (out_cons d) (omega (arith, h earlier))
      pick false false h = simp (out_cons d) (omega (arith, h earlier))

  -- 5. The segments of an interchange.
  cut_at_short : (c : Bool) (b : ℕ) (s : Segment) → length (segment_out d (cut_at c b s)) ≤ length (segment_out d s) + 2
  unfolding fields_out
  cut_at_short true b [] = omega arith
  cut_at_short true b (f ∷ fs) = simp length-append (omega arith)
  cut_at_short false b [] = omega arith
  cut_at_short false b (f ∷ fs) = simp length-append (omega arith)

  segments_size : (i : Bytes) → size (segments d i) ≤ 4 * length i
  unfolding segments pieces split out fields_out
  segments_size [] = omega arith
  segments_size (b ∷ i) = pick (eqb b d.terminator) (pieces d.terminator i) (segments_size i)
    where
      cut : List Bytes → List Segment
      cut = map (split d.element)

      longer : (s : Segment) → length (segment_out d (cut_at (eqb b d.element) b s)) ≤ length (segment_out d s) + 2
      longer = cut_at_short (eqb b d.element) b

      pick : (c : Bool) (ps : List Bytes) → size (cut ps) ≤ 4 * length i → size (cut (cut_at c b ps)) ≤ 4 * length (b ∷ i)
      pick true ps h = omega arith
      pick false [] h = simp (out_cons d) (omega (arith, longer ([] ∷ [])))
      pick false (p ∷ ps) h =
          simp (out_cons d) (omega (arith, longer (split d.element p), out_cons d (split d.element p) (cut ps)))

  header_short : (gs : Bytes) → length (segment_out d (split d.element gs)) ≤ 2 * length gs + 1
  unfolding split fields_out
  header_short [] = omega arith
  header_short (b ∷ gs) = omega (arith, cut_at_short (eqb b d.element) b (split d.element gs), header_short gs)

  front_size : (ss : List Segment) → size (front ss) ≤ size ss
  unfolding front out
  front_size [] = omega arith
  front_size (s ∷ []) = omega arith
  front_size (s ∷ (r ∷ ss)) = simp (out_cons d) (omega (arith, front_size (r ∷ ss), out_cons d r ss))

  -- The pieces of an interchange, each by its first segment and those after it: together they have no more than the interchange.
  unfoldable pieces_size : List (List Segment) → ℕ
  pieces_size [] = 0
  pieces_size (p ∷ ps) = size (get_or p 0 [] ∷ drop 1 p) + pieces_size ps

  piece_size : (p : List Segment) → size p ≤ size (get_or p 0 [] ∷ drop 1 p)
  unfolding out
  piece_size [] = omega arith
  piece_size (s ∷ ss) = omega arith

  push_size : (s : Segment) (ps : List (List Segment)) → pieces_size (push s ps) ≤ size (s ∷ []) + pieces_size ps
  unfolding pieces_size
  push_size s [] = omega arith
  push_size s (p ∷ ps) = omega (arith, piece_size p, out_cons d s p, out_cons d s [], out_nil d)

  cut_size : (ss : List Segment) → pieces_size (cut_after_ge ss) ≤ size ss
  unfolding cut_after_ge pieces_size
  cut_size [] = omega arith
  cut_size (s ∷ ss) =
      simp (out_cons d)
      (either (λ (ps : List (List Segment)). pieces_size ps ≤ suc (length ss) + (length (segment_out d s) + length (out d ss))) (is_ge s)
      (omega (arith, cut_size ss, out_cons d s [], out_nil d))
      (omega (arith, cut_size ss, push_size s (cut_after_ge ss), out_cons d s [], out_nil d)))

  -- the groups of an interchange, each by its GS and its body
  unfoldable groups_size : List Group → ℕ
  groups_size [] = 0
  groups_size (g ∷ gs) = size (g.header ∷ g.body) + groups_size gs

  group_size : (gs : Segment) (inner : List Segment) → size ((group_with gs inner).header ∷ (group_with gs inner).body) ≤ size (gs ∷ inner)
  unfolding group_with
  group_size gs inner =
      either (λ (g : Group). size (g.header ∷ g.body) ≤ size (gs ∷ inner)) (is_ge (last [] inner))
      (simp (out_cons d) (omega (arith, front_size inner)))
      (omega arith)

  grouped_size : (ps : List (List Segment)) → groups_size (map (λ piece. group_with (get_or piece 0 []) (drop 1 piece)) ps) ≤ pieces_size ps
  unfolding groups_size pieces_size
  grouped_size [] = omega arith
  grouped_size (p ∷ ps) = omega (arith, group_size (get_or p 0 []) (drop 1 p), grouped_size ps)

  rest_size : (ss : List Segment) → size (drop 1 ss) ≤ size ss
  unfolding out
  rest_size [] = omega arith
  rest_size (s ∷ ss) = simp (out_cons d) (omega arith)

  groups_size_lem : (ss : List Segment) → groups_size (groups_of ss) ≤ size ss
  unfolding groups_of
  groups_size_lem ss =
      let inner = front (drop 1 ss) in
      omega (arith, grouped_size (cut_after_ge inner), cut_size inner, front_size (drop 1 ss), rest_size ss)

  -- 6. The response.
  verdict_short : (codes : List ℕ) (received ok : ℕ) → length (verdict codes received ok) ≤ 1
  verdict_short codes received ok =
      let P : Bytes → Type 0 = λ bs. length bs ≤ 1 in
      either P (not (null codes) || eqb ok 0) (omega arith) (either P (eqb ok received) (omega arith) (omega arith))

  group_codes_short : (g : Group) → length (group_codes g) ≤ 5
  unfolding group_codes
  group_codes_short g = every_short _

  told_short : (st02 : Bytes) (g : Group)
      → length (out d (told st02 (group_report d g))) ≤ 200 + length st02 + 2 * length (segment_out d g.header) + per_set * size g.body
  unfolding told st_out group_report fields_out
  told_short st02 g =
      let r = group_report d g in
      simp (out_cons d, length_out_append d, out_nil d, length-append)
      (omega (
        arith,
        ak1_short d r,
        field_short d g.header 1,
        field_short d g.header 6,
        sets_short g.header [] g.body,
        ak9_short d r,
        verdict_short (group_codes g) (length r.sets) (accepted_in r.sets),
        group_codes_short g,
      ))

  transaction_set_short : (st02 : Bytes) (g : Group)
      → length (out d (transaction_set st02 (group_report d g)))
      ≤ 300 + 2 * length st02 + 2 * length (segment_out d g.header) + per_set * size g.body
  unfolding transaction_set se_out fields_out
  transaction_set_short st02 g =
      simp (length_out_append d, out_cons d, out_nil d, length-append)
      (omega (arith, told_short st02 g, decimal_short (length (told st02 (group_report d g)) + 1)))

  -- a group has a segment at least, which pays for what its 997 has besides the blocks
  transaction_sets_short : (n : ℕ) (gs : List Group) → length (out d (transaction_sets n (map (group_report d) gs))) ≤ per_set * groups_size gs
  unfolding transaction_sets groups_size out
  transaction_sets_short n [] = omega arith
  transaction_sets_short n (g ∷ gs) =
      simp (length_out_append d, out_cons d)
      (omega (
        arith,
        transaction_set_short (padded 4 n) g,
        padded_length 4 n,
        transaction_sets_short (n + 1) gs,
      ))

  first_header_short : (gs : List Group) → length (segment_out d (first_header gs)) ≤ groups_size gs
  unfolding groups_size
  first_header_short [] = omega arith
  first_header_short (g ∷ gs) = simp (out_cons d) (omega arith)

pub response_bound : (i : Bytes) (call : Call) → length i ≤ 65536 → length (response i call) < 4398046511104
unfolding response respond ge_out iea_out fields_out
response_bound i call h =
    let d = delimiters i in
    let gs = groups_of (segments d i) in
    simp (length_out_append d, out_cons d, out_nil d, length-append, padded_length)
    (omega (
      arith,
      isa_out_short d i call,
      gs_out_short d (first_header gs) call,
      first_header_short d gs,
      transaction_sets_short d 1 gs,
      groups_size_lem d (segments d i),
      segments_size d i,
      decimal_short (length gs),
      decimal_short 1,
      decimal_short call.control,
    ))

-- One 997, by the bytes of its group: GS and the body.
pub transaction_bound : (d : Delimiters) (n : ℕ) (gs body : Bytes) (ge : Option Segment) → length gs ≤ 65536 → length body ≤ 65536
    → length (out d (transaction_set (padded 4 n) (group_report d (record { header = split d.element gs; body = segments d body; trailer = ge })))) < 4398046511104
transaction_bound d n gs body ge h k =
    omega (
      arith,
      transaction_set_short d (padded 4 n) (record { header = split d.element gs; body = segments d body; trailer = ge }),
      padded_length 4 n,
      header_short d gs,
      segments_size d body,
    )
