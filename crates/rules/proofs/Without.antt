-- Change request 9: an interchange whose groups do not hold its repetition separator is answered as the same one with `U` in ISA11.
use Rattle.std.specs.Prelude.{if◌then◌else◌, option_to_list, is_none, Option, None, Some}
use mathlib.Core.Path.{◌≡◌, refl, sym, ap, ◌∙◌, fun_ext}
use mathlib.Core.Bool.{Bool, true, false, ◌&&◌, ◌||◌, not}
use mathlib.Core.List.{List, [], ◌∷◌, ◌++◌, map}
use Prim.Native.Nat.{ℕ, zero, suc, ◌+◌, ◌≤◌, ◌<◌}
use native.Mathlib.Omega.{arith}
use borrow.Author.Tests.{not-true}
use lib.Dec.{eqb, lit<}
use lib.ListN.{length, drop, get_or, set}
use lib.Seq.{drop-set-lt}
use Rattle.rules.specs.Base.{Bytes, Rule, ◌⇒◌, ascii, first, all, any, push, front, last}
use Rattle.rules.specs.Cutting.{Segment, field, is_named, segments, isa, repetition_in, delimiters, marks, separates_repetitions, valid, text}
use Rattle.rules.specs.Tables.{Row, Syntax, Entry, Table}
use Rattle.rules.specs.Elements.{repeats, element_code, Finding, place_codes, found, findings_from, findings}
use Rattle.rules.specs.Segments.{Present, Standing, unknown, unlisted, before, again, later, entry_at, standing, moved, findings_by, walk, notes_of}
use Rattle.rules.specs.Sets.{Set, is_st, is_se, body_of, trailer_of, sets_of, control_of, notes_in, set_report}
use Rattle.rules.specs.Groups.{Group, is_ge, group_with, cut_after_ge, groups_of, sets, table_in, set_reports, group_report}
use Rattle.rules.specs.Refusals.{call_rules, head_rules, is_terminated, end_rules, is_whole_group, enveloped, most_groups, envelope_rules, has_two, closes, counts_groups, trailer_rules, good_gs, header_rules, good_st, set_rules, group_rules, groups_rules, refusal}
use Rattle.rules.specs.Response.{fields_out, out, isa_out, respond, response}
use Rattle.rules.specs.InterchangeAcknowledgment.{note_code_rules, verdict_by, interchange_verdict, interchange_rules, interchange_refusal, ta1, interchange_respond, interchange_response}
use Rattle.rules.specs.Answers.{functional_acknowledgment, interchange_acknowledgment, called}
use Rattle.rules.specs.Damage.{free}
use Rattle.rules.specs.declared.Call.{Call}
use Rattle.rules.specs.declared.Delimiters.{Delimiters}
use Rattle.rules.proofs.Logic.{all_head, all_tail, all_cons, all_append, all_anywhere, silent, Each, each_map, each_weaken}
use Rattle.rules.proofs.Cuts.{segments_other}
use Rattle.rules.proofs.Facts.{first_of, refusal_blocks}
use Rattle.rules.proofs.Envelope.{rest_cut}
use Rattle.rules.proofs.Unrepeated.{no_repeats}
use Rattle.rules.proofs.Separator.{with_u, isa_before, isa13_kept, isa14_kept, isa15_kept, by_u, header_of, head_with}

-- the same delimiters, but no repetition separator
abbrev without : Delimiters → Delimiters
without d = record { element = d.element; component = d.component; terminator = d.terminator; repetition = None }

-- 1. Bytes that do not hold it, in what is cut out of them.
module _ (b : ℕ) where
  -- a segment that does not hold it
  abbrev is_free : Segment → Bool
  is_free = all (free b)

  field_free : (s : Segment) (n : ℕ) → is_free s ≡ true → free b (field s n) ≡ true
  unfolding all
  field_free s n e = all_anywhere (free b) [] refl s e n

  front_free : (ss : List Segment) → all is_free ss ≡ true → all is_free (front ss) ≡ true
  unfolding front all
  front_free [] e = refl
  front_free (s ∷ []) e = refl
  front_free (s ∷ (t ∷ ss)) e = all_cons is_free s (front (t ∷ ss)) (all_head is_free s (t ∷ ss) e) (front_free (t ∷ ss) (all_tail is_free s (t ∷ ss) e))

  -- a set, and a group, in which it stands nowhere
  abbrev FreeSet : Set → Type 0
  FreeSet s = (is_free s.header ≡ true) × (all is_free (s.body ++ option_to_list s.trailer) ≡ true)

  abbrev FreeGroup : Group → Type 0
  FreeGroup g = (is_free g.header ≡ true) × (all is_free g.body ≡ true)

  body_free : (ss : List Segment) → all is_free ss ≡ true → all is_free (body_of ss) ≡ true
  unfolding body_of all
  body_free [] e = refl
  body_free (s ∷ ss) e = go (is_st s || is_se s) (body_free ss (all_tail is_free s ss e))
    where
      go : (c : Bool) → all is_free (body_of ss) ≡ true → all is_free (if c then [] else s ∷ body_of ss) ≡ true
      go true h = refl
      go false h = all_cons is_free s (body_of ss) (all_head is_free s ss e) h

  trailer_free : (ss : List Segment) → all is_free ss ≡ true → all is_free (option_to_list (trailer_of ss)) ≡ true
  unfolding trailer_of all
  trailer_free [] e = refl
  trailer_free (s ∷ ss) e = go (is_se s) (is_st s) (trailer_free ss (all_tail is_free s ss e))
    where
      go : (c k : Bool) → all is_free (option_to_list (trailer_of ss)) ≡ true → all is_free (option_to_list (if c then Some s else (if k then None else trailer_of ss))) ≡ true
      go true k h = rw (all_head is_free s ss e)
      go false true h = refl
      go false false h = h

  sets_free : (ss : List Segment) → all is_free ss ≡ true → Each FreeSet (sets_of ss)
  unfolding sets_of Each
  sets_free [] e = tt
  sets_free (s ∷ ss) e = let after = all_tail is_free s ss e in go (is_st s) after (sets_free ss after)
    where
      go : (c : Bool) → all is_free ss ≡ true → Each FreeSet (sets_of ss)
          → Each FreeSet (if c then record { header = s; body = body_of ss; trailer = trailer_of ss } ∷ sets_of ss else sets_of ss)
      go true after h =
          ((all_head is_free s ss e, all_append is_free (body_of ss) (option_to_list (trailer_of ss)) (body_free ss after) (trailer_free ss after)), h)
      go false after h = h

  cut_free : (ss : List Segment) → all is_free ss ≡ true → Each (λ p. all is_free p ≡ true) (cut_after_ge ss)
  unfolding cut_after_ge Each all
  cut_free [] e = tt
  cut_free (s ∷ ss) e = go (is_ge s) (cut_after_ge ss) (cut_free ss (all_tail is_free s ss e))
    where
      go : (c : Bool) (ps : List (List Segment)) → Each (λ p. all is_free p ≡ true) ps
          → Each (λ p. all is_free p ≡ true) (if c then (s ∷ []) ∷ ps else push s ps)
      go true ps h = (all_cons is_free s [] (all_head is_free s ss e) refl, h)
      go false [] h = (all_cons is_free s [] (all_head is_free s ss e) refl, tt)
      go false (p ∷ ps) h = (all_cons is_free s p (all_head is_free s ss e) h.0, h.1)

  with_free : (gs : Segment) (inner : List Segment) → is_free gs ≡ true → all is_free inner ≡ true → FreeGroup (group_with gs inner)
  unfolding group_with
  with_free gs inner e h = go (is_ge (last [] inner))
    where
      go : (c : Bool)
          → FreeGroup (if c then record { header = gs; body = front inner; trailer = Some (last [] inner) } else record { header = gs; body = inner; trailer = None })
      go true = (e, front_free inner h)
      go false = (e, h)

  group_free : (p : List Segment) → all is_free p ≡ true → FreeGroup (group_with (get_or p 0 []) (drop 1 p))
  unfolding all
  group_free [] e = with_free [] [] refl refl
  group_free (s ∷ ss) e = with_free s ss (all_head is_free s ss e) (all_tail is_free s ss e)

  -- the first segment is in no group
  groups_free : (x : Segment) (ss : List Segment) → all is_free ss ≡ true → Each FreeGroup (groups_of (x ∷ ss))
  unfolding groups_of
  groups_free x ss e =
      let ps = cut_after_ge (front ss) in
      let group : List Segment → Group = λ p. group_with (get_or p 0 []) (drop 1 p) in
      each_map FreeGroup group ps (each_weaken (λ p. all is_free p ≡ true) (λ p. FreeGroup (group p)) group_free ps (cut_free (front ss) (front_free ss e)))

-- 2. Each definition with the separator and without it, on what does not hold it.
module _ (d : Delimiters) (b : ℕ) (separates : d.repetition ≡ Some b) where
  valid_without : (c : ℕ) → eqb c b ≡ false → valid d c ≡ valid (without d) c
  unfolding valid marks any
  valid_without c n = rw (separates, n)

  all_without : (bs : Bytes) → free b bs ≡ true → all (valid d) bs ≡ all (valid (without d)) bs
  unfolding all
  all_without [] e = refl
  all_without (c ∷ bs) e =
      rw (valid_without c (not-true (eqb c b) (all_head (λ c. not (eqb c b)) c bs e)), all_without bs (all_tail (λ c. not (eqb c b)) c bs e))

  text_without : (lo hi : ℕ) (bs : Bytes) → free b bs ≡ true → text d lo hi bs ≡ text (without d) lo hi bs
  unfolding text
  text_without lo hi bs e = rw (all_without bs e)

  unrepeated : (bs : Bytes) → free b bs ≡ true → repeats d bs ≡ false
  unfolding any separates_repetitions
  unrepeated [] e = refl
  unrepeated (c ∷ bs) e =
      rw (unrepeated bs (all_tail (λ c. not (eqb c b)) c bs e), separates, not-true (eqb c b) (all_head (λ c. not (eqb c b)) c bs e))

  code_without : (r : Row) (e : Bytes) → free b e ≡ true → element_code d r e ≡ element_code (without d) r e
  unfolding element_code first
  code_without r [] f = refl
  code_without r (c ∷ e) f = rw (unrepeated (c ∷ e) f, no_repeats (without d) refl (c ∷ e), all_without (c ∷ e) f)

  module _ (s : Segment) (f : is_free b s ≡ true) where
    place_without : (notes : List Syntax) (r : Row) (n : ℕ) → place_codes d notes s r n ≡ place_codes (without d) notes s r n
    unfolding place_codes
    place_without notes r n = rw (code_without r (field s n) (field_free b s n f))

    found_without : (r : Row) (n : ℕ) → found d s r n ≡ found (without d) s r n
    found_without r n = fun_ext (λ c. rw (code_without r (field s n) (field_free b s n f)))

    from_without : (notes : List Syntax) (n : ℕ) (rs : List Row) → findings_from d notes s n rs ≡ findings_from (without d) notes s n rs
    unfolding findings_from
    from_without notes n [] = refl
    from_without notes n (r ∷ rs) =
        ap (λ (g : ℕ → Finding). map g (place_codes d notes s r n) ++ findings_from d notes s (n + 1) rs) (found_without r n)
        ∙ rw (place_without notes r n, from_without notes (n + 1) rs)

    findings_without : (e : Entry) → findings d e s ≡ findings (without d) e s
    unfolding findings
    findings_without e = from_without e.notes 1 e.rows

    by_without : (t : Table) (st : Standing) → findings_by d t st s ≡ findings_by (without d) t st s
    by_without t unknown = refl
    by_without t unlisted = refl
    by_without t (before k) = findings_without (entry_at t k)
    by_without t (again k) = findings_without (entry_at t k)
    by_without t (later k) = findings_without (entry_at t k)

    gs_without : good_gs d s ≡ good_gs (without d) s
    unfolding good_gs
    gs_without =
        rw (
          text_without 2 15 (field s 2) (field_free b s 2 f),
          text_without 2 15 (field s 3) (field_free b s 3 f),
          text_without 1 2 (field s 7) (field_free b s 7 f),
          text_without 1 12 (field s 8) (field_free b s 8 f),
        )

    st_without : good_st d s ≡ good_st (without d) s
    unfolding good_st
    st_without = rw (text_without 4 9 (field s 2) (field_free b s 2 f))

  walk_without : (t : Table) (closed : Bool) (p : Present) (n : ℕ) (ss : List Segment) → all (is_free b) ss ≡ true
      → walk d t closed p n ss ≡ walk (without d) t closed p n ss
  unfolding walk
  walk_without t closed p n [] e = refl
  walk_without t closed p n (s ∷ ss) e =
      let st = standing t p (field s 0) in
      rw (by_without s (all_head (is_free b) s ss e) t st, walk_without t closed (moved p st) (n + 1) ss (all_tail (is_free b) s ss e))

  notes_without : (t : Option Table) (s : Set) → FreeSet b s → notes_in d t s ≡ notes_in (without d) t s
  unfolding notes_of
  notes_without None s h = refl
  notes_without (Some t) s h =
      rw (
        findings_without s.header h.0 (entry_at t 0),
        walk_without t (not (is_none s.trailer)) (record { index = 0; used = 1 }) 2 (s.body ++ option_to_list s.trailer) h.1,
      )

  reports_without : (table : Set → Option Table) (earlier : List Bytes) (ss : List Set) → Each (FreeSet b) ss
      → set_reports d table earlier ss ≡ set_reports (without d) table earlier ss
  unfolding set_reports set_report Each
  reports_without table earlier [] h = refl
  reports_without table earlier (s ∷ ss) h = rw (notes_without (table s) s h.0, reports_without table (control_of s ∷ earlier) ss h.1)

  group_without : (gs : List Group) → Each (FreeGroup b) gs → map (group_report d) gs ≡ map (group_report (without d)) gs
  unfolding group_report Each
  group_without [] h = refl
  group_without (g ∷ gs) h = rw (reports_without (table_in g.header) [] (sets g) (sets_free b g.body h.0.1), group_without gs h.1)

  headers_without : (ss : List Set) → Each (FreeSet b) ss → all (λ s. good_st d s.header) ss ≡ all (λ s. good_st (without d) s.header) ss
  unfolding all Each
  headers_without [] h = refl
  headers_without (s ∷ ss) h = rw (st_without s.header h.0.0, headers_without ss h.1)

  rules_without : (gs : List Group) → Each (FreeGroup b) gs → groups_rules d gs ≡ groups_rules (without d) gs
  unfolding groups_rules group_rules header_rules set_rules Each
  rules_without [] h = refl
  rules_without (g ∷ gs) h =
      rw (
        gs_without g.header h.0.0,
        headers_without (sets_of g.body) (sets_free b g.body h.0.1),
        rules_without gs h.1,
      )

-- writing does not read it
module _ (d : Delimiters) where
  fields_out_lem : (s : Segment) → fields_out d s ≡ fields_out (without d) s
  unfolding fields_out
  fields_out_lem [] = refl
  fields_out_lem (f ∷ fs) = rw (fields_out_lem fs)

  out_without : (ss : List Segment) → out d ss ≡ out (without d) ss
  unfolding out
  out_without [] = refl
  out_without ([] ∷ ss) = out_without ss
  out_without ((f ∷ fs) ∷ ss) = rw (fields_out_lem fs, out_without ss)

-- 3. The interchange with `U` in the separator's place.
-- a byte before the last is not the last
last_set : (x : ℕ) (xs : Bytes) (n v : ℕ) → n + 1 < length xs → last x (set xs n v) ≡ last x xs
unfolding last
last_set x [] n v h = refl
last_set x (y ∷ []) n v h = absurd (omega (arith, h))
last_set x (y ∷ (z ∷ zs)) zero v h = refl
last_set x (y ∷ (z ∷ zs)) (suc n) v h = last_set y (z ∷ zs) n v (omega (arith, h))

-- the first segment alone is no envelope
lone : (x : Segment) → enveloped most_groups (x ∷ []) ≡ false
unfolding enveloped groups_of cut_after_ge front
lone x = go (is_named (ascii "IEA") (last [] (x ∷ [])))
  where
    go : (c : Bool) → c && false && all is_whole_group [] ≡ false
    go true = refl
    go false = refl

-- so 7 and 8 do not look at the first segment; ns are the numbers of the later blocks
abbrev from_seven : Bytes → List ℕ → List Segment → ℕ
from_seven isa13 ns ss =
    first_of (first (envelope_rules most_groups ss) ∷ (first (trailer_rules (last [] ss) (length (groups_of ss)) isa13) ∷ ns))

lone_seven : (x : Segment) (isa13 : Bytes) (ns : List ℕ) → from_seven isa13 ns (x ∷ []) ≡ 7
unfolding first_of envelope_rules first
lone_seven x isa13 ns = rw (lone x)

seven_same : (x y : Segment) (ss : List Segment) (isa13 : Bytes) (ns : List ℕ) → from_seven isa13 ns (x ∷ ss) ≡ from_seven isa13 ns (y ∷ ss)
unfolding envelope_rules last groups_of enveloped
seven_same x y [] isa13 ns = lone_seven x isa13 ns ∙ sym (lone_seven y isa13 ns)
seven_same x y (s ∷ ss) isa13 ns = refl

-- nor does the verdict of a TA1
abbrev note_rules : Bool → Bytes → List Segment → List Rule
note_rules ended isa13 ss =
    (not ended ⇒ 23) ∷
    (not (enveloped most_groups ss) ⇒ 22) ∷
    (not (has_two (last [] ss)) ⇒ 22) ∷
    (not (closes (last [] ss) isa13) ⇒ 1) ∷
    (not (counts_groups (length (groups_of ss)) (last [] ss)) ⇒ 21) ∷
    []

lone_note : (x : Segment) (ended : Bool) (isa13 : Bytes) → first (note_rules ended isa13 (x ∷ [])) ≡ if ended then 22 else 23
unfolding first
lone_note x true isa13 = rw (lone x)
lone_note x false isa13 = refl

note_same : (x y : Segment) (ss : List Segment) (ended : Bool) (isa13 : Bytes) → first (note_rules ended isa13 (x ∷ ss)) ≡ first (note_rules ended isa13 (y ∷ ss))
unfolding last groups_of enveloped
note_same x y [] ended isa13 = lone_note x ended isa13 ∙ sym (lone_note y ended isa13)
note_same x y (s ∷ ss) ended isa13 = refl

blocks_same : (a b c : ℕ) (ns ms : List ℕ) → first_of ns ≡ first_of ms → first_of (a ∷ (b ∷ (c ∷ ns))) ≡ first_of (a ∷ (b ∷ (c ∷ ms)))
unfolding first_of
blocks_same a b c ns ms e = rw e

module _ (i : Bytes) (b : ℕ) (separates : repetition_in i ≡ Some b) (e : first (head_rules i) ≡ 0) where
  abbrev d : Delimiters
  d = delimiters i

  separates_d : d.repetition ≡ Some b
  unfolding delimiters
  separates_d = separates

  headed : first (head_rules (with_u i)) ≡ 0
  headed = ((head_with i b separates).0 e).0

  long : 106 ≤ length i
  long = (header_of i e).long

  delimiters_u : delimiters (with_u i) ≡ without d
  unfolding delimiters
  delimiters_u = by_u i long

  last_u : last 0 (with_u i) ≡ last 0 i
  last_u = last_set 0 i 82 85 (omega (arith, long))

  abbrev rest : List Segment
  rest = segments d (drop 106 i)

  cut_u : segments (without d) (with_u i) ≡ get_or (segments (without d) (with_u i)) 0 [] ∷ rest
  unfolding segments
  cut_u = rw (delimiters_u, drop-set-lt 106 i 82 85 (lit< tt)) at (rest_cut (with_u i) (header_of (with_u i) headed))

  groups_u : groups_of (segments (without d) (with_u i)) ≡ groups_of (segments d i)
  unfolding groups_of
  groups_u = rw (cut_u, rest_cut i (header_of i e))

  verdict_u : interchange_verdict i ≡ interchange_verdict (with_u i)
  unfolding interchange_verdict note_code_rules
  verdict_u =
      ap verdict_by
      (rw (delimiters_u, last_u, isa13_kept i, rest_cut i (header_of i e), cut_u) (note_same _ _ rest (is_terminated d i) (field (isa i) 13)))

  seven_u : (isa13 : Bytes) (ns : List ℕ) → from_seven isa13 ns (segments d i) ≡ from_seven isa13 ns (segments (without d) (with_u i))
  seven_u isa13 ns = rw (rest_cut i (header_of i e), cut_u) (seven_same _ _ rest isa13 ns)

  isa_out_u : (call : Call) → isa_out d (isa i) call ≡ isa_out (without d) (isa (with_u i)) call
  unfolding isa_out
  isa_out_u call = rw (isa_before i 5 (lit< tt), isa_before i 6 (lit< tt), isa_before i 7 (lit< tt), isa_before i 8 (lit< tt), isa15_kept i)

  module _ (call : Call) where
    refusal_ta1 : interchange_refusal i call ≡ interchange_refusal (with_u i) call
    unfolding interchange_refusal interchange_rules call_rules head_rules
    refusal_ta1 =
        let r = silent (head_rules i) tt e in
        let u = silent (head_rules (with_u i)) tt headed in
        rw (r.0, r.1.0, r.1.1.0, r.1.1.1.0, u.0, u.1.0, u.1.1.0, u.1.1.1.0, isa14_kept i)

    response_ta1 : interchange_response i call ≡ interchange_response (with_u i) call
    unfolding interchange_response interchange_respond ta1
    response_ta1 =
        out_without d _ ∙ rw (delimiters_u, isa_out_u call, verdict_u, isa13_kept i, isa_before i 9 (lit< tt), isa_before i 10 (lit< tt))

    -- What is answered for a TA1 is the same as with `U`, whatever the groups hold. Shut out: a TA1 that tells of a separator.
    pub same_without_ta1 : (lent : Bytes) → called (interchange_acknowledgment i call) lent ≡ called (interchange_acknowledgment (with_u i) call) lent
    same_without_ta1 lent = rw (refusal_ta1, response_ta1)

    module _ (clean : free b (drop 106 i) ≡ true) where
      groups_clean : Each (FreeGroup b) (groups_of (segments d i))
      groups_clean = rw (rest_cut i (header_of i e)) (groups_free b _ rest (segments_other d b (drop 106 i) clean))

      rules_u : groups_rules d (groups_of (segments d i)) ≡ groups_rules (without d) (groups_of (segments (without d) (with_u i)))
      rules_u = rules_without d b separates_d (groups_of (segments d i)) groups_clean ∙ ap (groups_rules (without d)) (sym groups_u)

      refusal_u : refusal i call ≡ refusal (with_u i) call
      unfolding end_rules
      refusal_u =
          refusal_blocks i call
          ∙ rw (delimiters_u, last_u, isa13_kept i, e, headed, rules_u)
          (blocks_same _ _ _ _ _ (seven_u (field (isa i) 13) _))
          ∙ sym (refusal_blocks (with_u i) call)

      response_u : response i call ≡ response (with_u i) call
      unfolding response respond
      response_u =
          out_without d _
          ∙ rw (delimiters_u, groups_u, isa_out_u call, group_without d b separates_d (groups_of (segments d i)) groups_clean)

      -- Where the groups do not hold the separator, so is what is answered for a 997: number, length and every byte. Shut out: a program that, once there is
      -- a separator, judges other values otherwise, as one that takes a B101 of five bytes then.
      pub same_without : (lent : Bytes) → called (functional_acknowledgment i call) lent ≡ called (functional_acknowledgment (with_u i) call) lent
      same_without lent = rw (refusal_u, response_u)
