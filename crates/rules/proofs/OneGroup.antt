-- Change request 6 lets an interchange have several groups. The law before it, which knew one group alone, is written down again here. Only
-- the answer to a batch, which passes check 7 with two groups or more, differs from it, and a batch was refused with 7. What later requests
-- changed is in it too.
use Rattle.std.specs.Prelude.{if◌then◌else◌}
use mathlib.Core.Path.{◌≡◌, refl, sym, ◌∙◌, ap}
use mathlib.Core.Bool.{Bool, true, false, ◌&&◌, not, false≢true, true≢false}
use mathlib.Core.Logic.{◌⊎◌, inl, inr}
use mathlib.Core.List.{List, [], ◌∷◌, ◌++◌, map, append-nil, append_assoc}
use Prim.Native.Nat.{ℕ, ◌≤◌}
use native.Mathlib.Omega.{arith}
use borrow.Author.Tests.{not-true, eqb-true, eqb-false, ne_eqb, le-leb, lt-leb}
use lib.Dec.{T, leb, eqb}
use lib.ListN.{length, drop, get_or, length-map}
use Rattle.rules.specs.Base.{Bytes, Rule, ◌⇒◌, first, all, between, ascii, same, push, front, last}
use Rattle.rules.specs.Cutting.{Segment, field, is_named, delimiters, isa, segments}
use Rattle.rules.specs.Numbers.{padded}
use Rattle.rules.specs.Groups.{Group, is_ge, group_with, cut_after_ge, groups_of, group_report}
use Rattle.rules.specs.Refusals.{call_rules, head_rules, is_terminated, end_rules, is_envelope, is_whole_group, enveloped, most_groups, envelope_rules, has_two, closes, counts_groups, trailer_rules, group_rules, groups_rules, refusal_rules, refusal}
use Rattle.rules.specs.Response.{out, transaction_set, transaction_sets, isa_out, gs_out, ge_out, iea_out, respond, response}
use Rattle.rules.specs.InterchangeAcknowledgment.{note_code_rules, Verdict, verdict_by, interchange_verdict, interchange_refusal, ta1, interchange_respond, interchange_response}
use Rattle.rules.specs.Answers.{Reply, Replies, functional_acknowledgment, interchange_acknowledgment, answer, called}
use Rattle.rules.specs.Damage.{groups_in}
use Rattle.rules.specs.declared.Call.{Call}
use Rattle.rules.specs.declared.Delimiters.{Delimiters}
use Rattle.rules.proofs.Logic.{numbered, or_else, first_append, and_left, and_right, all_head, all_tail, all_cons, all_left, all_weaken, front_last, same→eq}
use Rattle.rules.proofs.Lengths.{either}
use Rattle.rules.proofs.SetLaws.{is_outer}
use Rattle.rules.proofs.GroupLaws.{is_open, outer_open, group_from}
use Rattle.rules.proofs.Envelope.{gs_open}

-- 1. The law before several groups.
-- the group of an interchange ISA, GS, .., IEA
unfoldable pub former_group : List Segment → Group
former_group ss = group_with (get_or ss 1 []) (front (drop 2 ss))

-- 7: ISA, GS, GE and IEA stand first, second, next to last and last, and nowhere else
unfoldable pub former_enveloped : List Segment → Bool
former_enveloped ss =
    is_named (ascii "GS") (get_or ss 1 []) && is_named (ascii "IEA") (last [] ss)
    && all (λ s. not (is_envelope s)) (former_group ss).body

-- 1 to 13, in the order of checking; 8 wants the count 1
unfoldable pub former_rules : Bytes → Call → List Rule
former_rules i call =
    let d = delimiters i in
    let ss = segments d i in
    call_rules call ++ head_rules i ++ end_rules d i
    ++ (not (former_enveloped ss) ⇒ 7) ∷ [] ++ trailer_rules (last [] ss) 1 (field (isa i) 13) ++ group_rules d (former_group ss)

unfoldable pub former_refusal : Bytes → Call → ℕ
former_refusal i call = first (former_rules i call)

-- the response, with one 997
unfoldable pub former_respond : Bytes → Group → Call → List Segment
former_respond i g call =
    let d = delimiters i in
    isa_out d (isa i) call
    ∷ (gs_out g.header call
    ∷ (transaction_set (ascii "0001") (group_report d g)
    ++ ge_out 1 call.control ∷ iea_out 1 call.control ∷ []))

unfoldable pub former_response : Bytes → Call → Bytes
former_response i call =
    let d = delimiters i in
    out d (former_respond i (former_group (segments d i)) call)

-- the acknowledgment of the group, as it was
abbrev pub former_acknowledgment : Replies
former_acknowledgment i call = record { refusal = former_refusal i call; response = former_response i call }

-- TA1: the verdict on the interchange, and the response
unfoldable pub former_note_code_rules : Bytes → List Rule
former_note_code_rules i =
    let d = delimiters i in
    let ss = segments d i in
    let iea = last [] ss in
    (not (is_terminated d i) ⇒ 23) ∷
    (not (former_enveloped ss) ⇒ 22) ∷
    (not (has_two iea) ⇒ 22) ∷
    (not (closes iea (field (isa i) 13)) ⇒ 1) ∷
    (not (counts_groups 1 iea) ⇒ 21) ∷
    []

unfoldable pub former_verdict : Bytes → Verdict
former_verdict i = verdict_by (first (former_note_code_rules i))

unfoldable pub former_interchange_response : Bytes → Call → Bytes
former_interchange_response i call =
    out (delimiters i) (isa_out (delimiters i) (isa i) call ∷ ta1 (isa i) (former_verdict i) ∷ iea_out 0 call.control ∷ [])

abbrev pub former_interchange_acknowledgment : Replies
former_interchange_acknowledgment i call =
    record { refusal = interchange_refusal i call; response = former_interchange_response i call }

-- 2. The groups and the former group, for every list of segments.
-- a GE before the last segment makes a second piece, and without one there is one piece
cut_some : (s : Segment) (ss : List Segment) → 1 ≤ length (cut_after_ge (s ∷ ss))
unfolding cut_after_ge
cut_some s ss = go (is_ge s) (cut_after_ge ss)
  where
    go : (b : Bool) (r : List (List Segment)) → 1 ≤ length (if b then (s ∷ []) ∷ r else push s r)
    go true r = omega arith
    go false [] = omega arith
    go false (p ∷ ps) = omega arith

cut_one : (s : Segment) (ss : List Segment) → all is_open (front (s ∷ ss)) ≡ true → cut_after_ge (s ∷ ss) ≡ (s ∷ ss) ∷ []
unfolding cut_after_ge front
cut_one s [] e = either (λ (ps : List (List Segment)). ps ≡ (s ∷ []) ∷ []) (is_ge s) refl refl
cut_one s (t ∷ ss) e =
    rw (not-true (is_ge s) (all_head is_open s (front (t ∷ ss)) e), cut_one t ss (all_tail is_open s (front (t ∷ ss)) e))

cut_more : (s : Segment) (ss : List Segment) → all is_open (front (s ∷ ss)) ≡ false → 2 ≤ length (cut_after_ge (s ∷ ss))
unfolding cut_after_ge front all
cut_more s [] e = absurd (true≢false e)
cut_more s (t ∷ ss) e = go (is_ge s) (cut_after_ge (t ∷ ss)) e (cut_some t ss) (cut_more t ss)
  where
    go : (b : Bool) (r : List (List Segment)) → not b && all is_open (front (t ∷ ss)) ≡ false → 1 ≤ length r
        → (all is_open (front (t ∷ ss)) ≡ false → 2 ≤ length r) → 2 ≤ length (if b then (s ∷ []) ∷ r else push s r)
    go true r e h k = omega arith
    go false [] e h k = absurd (omega arith)
    go false (p ∷ ps) e h k = k e

former_header : (ss : List Segment) → (former_group ss).header ≡ get_or ss 1 []
unfolding former_group group_with
former_header ss = either (λ (g : Group). g.header ≡ get_or ss 1 []) (is_ge (last [] (front (drop 2 ss)))) refl refl

-- a whole group has no GE before its last segment
whole_open : (gs : Segment) (inner : List Segment) → is_named (ascii "GS") gs ≡ true → all is_outer (group_with gs inner).body ≡ true
    → all is_open (front (gs ∷ inner)) ≡ true
unfolding front all group_with
whole_open gs [] g e = refl
whole_open gs (s ∷ ss) g e = all_cons is_open gs (front (s ∷ ss)) (rw (gs_open gs g)) (go (is_ge (last [] (s ∷ ss))) refl e)
  where
    open_outer : (xs : List Segment) → all is_outer xs ≡ true → all is_open xs ≡ true
    open_outer = all_weaken is_outer is_open outer_open

    go : (b : Bool) → is_ge (last [] (s ∷ ss)) ≡ b → all is_outer (group_with gs (s ∷ ss)).body ≡ true → all is_open (front (s ∷ ss)) ≡ true
    go true q e = open_outer (front (s ∷ ss)) (rw q at e)
    go false q e =
        all_left is_open (front (s ∷ ss)) (last [] (s ∷ ss) ∷ []) (rw (front_last [] s ss) (open_outer (s ∷ ss) (rw q at e)))

-- Either the former group is the only one, or there is none, or there are several; then the former check 7 fails.
data Count (ss : List Segment) : Type 0 where
  none_cut : length (groups_of ss) ≡ 0 → former_enveloped ss ≡ false → Count ss
  one_cut : groups_of ss ≡ former_group ss ∷ [] → Count ss
  several_cut : 2 ≤ length (groups_of ss) → former_enveloped ss ≡ false → Count ss

count : (ss : List Segment) → Count ss
unfolding groups_of cut_after_ge former_group former_enveloped front last same
count [] = none_cut refl refl
count (a ∷ []) = none_cut refl refl
count (a ∷ (b ∷ [])) = none_cut refl (go (is_named (ascii "GS") b) refl)
  where
    outer : Bool
    outer = all is_outer (former_group (a ∷ (b ∷ []))).body

    go : (g : Bool) → is_named (ascii "GS") b ≡ g → g && is_named (ascii "IEA") b && outer ≡ false
    go false e = refl
    go true e = rw (same→eq (field b 0) (ascii "GS") e)
count (a ∷ (b ∷ (c ∷ cs))) = go (all is_open (front (b ∷ front (c ∷ cs)))) refl
  where
    ss : List Segment
    ss = a ∷ (b ∷ (c ∷ cs))

    inner : List Segment
    inner = front (c ∷ cs)

    faulty : all is_open (front (b ∷ inner)) ≡ false → (e : Bool) → former_enveloped ss ≡ e → former_enveloped ss ≡ false
    faulty h false q = q
    faulty h true q =
        let gs = is_named (ascii "GS") b in
        let iea = is_named (ascii "IEA") (last [] ss) in
        let body = all is_outer (group_with b inner).body in
        absurd (false≢true (sym h ∙ whole_open b inner (and_left gs iea (and_left (gs && iea) body q)) (and_right (gs && iea) body q)))

    go : (o : Bool) → all is_open (front (b ∷ inner)) ≡ o → Count ss
    go true e = one_cut (ap (map group_from) (cut_one b inner e))
    go false e =
        several_cut (omega (arith, cut_more b inner e, length-map (cut_after_ge (b ∷ inner)) group_from)) (faulty e (former_enveloped ss) refl)

-- with one group, check 7 with any limit but 0 is the former one
one_enveloped : (limit : ℕ) (ss : List Segment) → 1 ≤ limit → groups_of ss ≡ former_group ss ∷ [] → enveloped limit ss ≡ former_enveloped ss
unfolding enveloped former_enveloped all
one_enveloped limit ss h e =
    rw (e, le-leb 1 limit h, former_header ss)
    (go (is_named (ascii "IEA") (last [] ss)) (is_named (ascii "GS") (get_or ss 1 [])) (all is_outer (former_group ss).body))
  where
    go : (iea gs body : Bool) → (iea && true) && ((gs && body) && true) ≡ (gs && iea) && body
    go true true true = refl
    go true true false = refl
    go true false body = refl
    go false true body = refl
    go false false body = refl

-- with none, or with more than the limit, it fails
module _ (limit : ℕ) (ss : List Segment) where
  beyond : between 1 limit (length (groups_of ss)) ≡ false → enveloped limit ss ≡ false
  unfolding enveloped
  beyond e = rw e (go (is_named (ascii "IEA") (last [] ss)) (all is_whole_group (groups_of ss)))
    where
      go : (iea groups : Bool) → (iea && false) && groups ≡ false
      go true groups = refl
      go false groups = refl

  none_enveloped : length (groups_of ss) ≡ 0 → enveloped limit ss ≡ false
  none_enveloped e = beyond (rw e)

  more_enveloped : leb (length (groups_of ss)) limit ≡ false → enveloped limit ss ≡ false
  more_enveloped e = beyond (rw e (go (leb 1 (length (groups_of ss)))))
    where
      go : (b : Bool) → b && false ≡ false
      go true = refl
      go false = refl

-- Check 7 with the limit 1 is the former one, whatever the segments. Shut out: a check that takes or refuses one group otherwise.
pub limit_one : (ss : List Segment) → enveloped 1 ss ≡ former_enveloped ss
limit_one ss = go (count ss)
  where
    go : Count ss → enveloped 1 ss ≡ former_enveloped ss
    go (none_cut n f) = none_enveloped 1 ss n ∙ sym f
    go (one_cut e) = one_enveloped 1 ss (omega arith) e
    go (several_cut n f) = more_enveloped 1 ss (lt-leb (length (groups_of ss)) 1 n) ∙ sym f

-- 3. The refusals and the response, now and before.
-- the interchange passes check 7 with two groups or more
abbrev pub is_batch : Bytes → Bool
is_batch i = leb 2 (length (groups_in i)) && enveloped most_groups (segments (delimiters i) i)

module _ (i : Bytes) where
  abbrev d : Delimiters
  d = delimiters i

  abbrev ss : List Segment
  ss = segments d i

  -- An interchange that is no batch has one group, or check 7 fails now as before.
  data Alike : Type 0 where
    one_alike : groups_in i ≡ former_group ss ∷ [] → Alike
    both_fail : enveloped most_groups ss ≡ false → former_enveloped ss ≡ false → Alike

  alike : is_batch i ≡ false → Alike
  alike b = go (count ss)
    where
      go : Count ss → Alike
      go (none_cut n f) = both_fail (none_enveloped most_groups ss n) f
      go (one_cut e) = one_alike e
      go (several_cut n f) = both_fail (rw (le-leb 2 (length (groups_in i)) n) at b) f

  -- On a batch the former check 7 fails.
  batch_fails : is_batch i ≡ true → former_enveloped ss ≡ false
  batch_fails b = go (count ss)
    where
      go : Count ss → former_enveloped ss ≡ false
      go (none_cut n f) = f
      go (one_cut e) = absurd (false≢true (rw e at b))
      go (several_cut n f) = f

  -- 1 to 6
  abbrev pub early_rules : Call → List Rule
  early_rules call = call_rules call ++ (head_rules i ++ end_rules d i)

  -- 8 to 13, now and before
  abbrev later_rules : List Rule
  later_rules = trailer_rules (last [] ss) (length (groups_in i)) (field (isa i) 13) ++ groups_rules d (groups_in i)

  abbrev former_later : List Rule
  former_later = trailer_rules (last [] ss) 1 (field (isa i) 13) ++ group_rules d (former_group ss)

  module _ (call : Call) where
    -- the refusal by 1 to 6, or else by what follows
    abbrev after_six : ℕ → ℕ
    after_six n = or_else (first (early_rules call)) (eqb (first (early_rules call)) 0) n

    early_numbered : T (numbered (early_rules call))
    unfolding call_rules head_rules end_rules
    early_numbered = tt

    staged : refusal i call ≡ after_six (first ((not (enveloped most_groups ss) ⇒ 7) ∷ later_rules))
    unfolding refusal refusal_rules envelope_rules call_rules head_rules
    staged = simp append_assoc (first_append (early_rules call) ((not (enveloped most_groups ss) ⇒ 7) ∷ later_rules) early_numbered)

    former_staged : former_refusal i call ≡ after_six (first ((not (former_enveloped ss) ⇒ 7) ∷ former_later))
    unfolding former_refusal former_rules call_rules head_rules
    former_staged = simp append_assoc (first_append (early_rules call) ((not (former_enveloped ss) ⇒ 7) ∷ former_later) early_numbered)

    -- where check 7 fails
    fails : enveloped most_groups ss ≡ false → refusal i call ≡ after_six 7
    unfolding first
    fails e = staged ∙ rw e

    former_fails : former_enveloped ss ≡ false → former_refusal i call ≡ after_six 7
    unfolding first
    former_fails e = former_staged ∙ rw e

    after_six_some : after_six 7 ≡ 0 → ⊥
    after_six_some e = go (eqb (first (early_rules call)) 0) refl e
      where
        go : (b : Bool) → eqb (first (early_rules call)) 0 ≡ b → or_else (first (early_rules call)) b 7 ≡ 0 → ⊥
        go true q e = omega (arith, e)
        go false q e = eqb-false (first (early_rules call)) 0 q e

    one_refusal : groups_in i ≡ former_group ss ∷ [] → refusal i call ≡ former_refusal i call
    unfolding groups_rules
    one_refusal e =
        staged ∙ rw (one_enveloped most_groups ss (omega arith) e, e, append-nil (group_rules d (former_group ss))) (sym former_staged)

    -- the response to one group, refused or not
    one_response : groups_in i ≡ former_group ss ∷ [] → response i call ≡ former_response i call
    unfolding response former_response respond former_respond transaction_sets padded
    one_response e = rw (e, append-nil (transaction_set (ascii "0001") (group_report d (former_group ss))))

  -- TA1's verdict: with one group, and where check 7 fails
  one_verdict : groups_in i ≡ former_group ss ∷ [] → interchange_verdict i ≡ former_verdict i
  unfolding interchange_verdict former_verdict note_code_rules former_note_code_rules
  one_verdict e = rw (one_enveloped most_groups ss (omega arith) e, e)

  abbrev verdict_by_7 : Verdict
  verdict_by_7 = verdict_by (first ((not (is_terminated d i) ⇒ 23) ∷ (true ⇒ 22) ∷ []))

  no_say : (t : Bool) (rest : List Rule) → first ((not t ⇒ 23) ∷ (true ⇒ 22) ∷ rest) ≡ first ((not t ⇒ 23) ∷ (true ⇒ 22) ∷ [])
  unfolding first
  no_say true rest = refl
  no_say false rest = refl

  fails_verdict : enveloped most_groups ss ≡ false → interchange_verdict i ≡ verdict_by_7
  unfolding interchange_verdict note_code_rules
  fails_verdict e = rw e (ap verdict_by (no_say (is_terminated d i) _))

  former_fails_verdict : former_enveloped ss ≡ false → former_verdict i ≡ verdict_by_7
  unfolding former_verdict former_note_code_rules
  former_fails_verdict e = rw e (ap verdict_by (no_say (is_terminated d i) _))

  ended : is_terminated d i ≡ true → verdict_by_7 ≡ verdict_by 22
  unfolding first
  ended t = rw t

  unended : is_terminated d i ≡ false → interchange_verdict i ≡ verdict_by 23
  unfolding interchange_verdict note_code_rules first
  unended t = rw t

  former_unended : is_terminated d i ≡ false → former_verdict i ≡ verdict_by 23
  unfolding former_verdict former_note_code_rules first
  former_unended t = rw t

-- 4. Only to a batch may another answer be given.
-- what is answered depends on the response only where there is no refusal
called_alike : (r s : Reply) (lent : Bytes) → r.refusal ≡ s.refusal → (r.refusal ≡ 0 → r.response ≡ s.response) → called r lent ≡ called s lent
unfolding called answer
called_alike r s lent e f = go (eqb r.refusal 0) refl
  where
    go : (b : Bool) → eqb r.refusal 0 ≡ b → called r lent ≡ called s lent
    go true q = rw (← e, f (eqb-true r.refusal 0 q))
    go false q = rw (← e, q)

module _ (i : Bytes) (call : Call) where
  -- Where it is no batch the refusal is the former one. Shut out: a program that refuses one group otherwise, or that refuses no group, more than 16,
  -- GE twice or a segment between groups with another number than 7.
  pub same_refusal : is_batch i ≡ false → refusal i call ≡ former_refusal i call
  same_refusal b = go (alike i b)
    where
      go : Alike i → refusal i call ≡ former_refusal i call
      go (one_alike e) = one_refusal i call e
      go (both_fail n f) = fails i call n ∙ sym (former_fails i call f)

  -- Without a refusal the response is the former one, too. Shut out: another byte in the answer to one group.
  pub same_response : is_batch i ≡ false → refusal i call ≡ 0 → response i call ≡ former_response i call
  same_response b z = go (alike i b)
    where
      go : Alike i → response i call ≡ former_response i call
      go (one_alike e) = one_response i call e
      go (both_fail n f) = absurd (after_six_some i call (sym (fails i call n) ∙ z))

  -- Whatever the groups are, 1 to 6 are as before. Shut out: 7 before 6.
  pub same_early : (first (early_rules i call) ≡ 0 → ⊥) → refusal i call ≡ former_refusal i call
  same_early h = staged i call ∙ rw (ne_eqb (first (early_rules i call)) 0 h) (sym (former_staged i call ∙ rw (ne_eqb (first (early_rules i call)) 0 h)))

  -- Without one of these, a batch was refused with 7. Shut out: a batch that is taken for one group.
  pub was_seven : is_batch i ≡ true → first (early_rules i call) ≡ 0 → former_refusal i call ≡ 7
  was_seven b e = former_fails i call (batch_fails i b) ∙ rw e

  module _ (lent : Bytes) where
    -- The outcome of a call is the former one: number, length and every byte of the buffer.
    abbrev pub AsBefore : Type 0
    AsBefore = called (functional_acknowledgment i call) lent ≡ called (former_acknowledgment i call) lent

    pub as_before : is_batch i ≡ false → AsBefore
    as_before b = called_alike (functional_acknowledgment i call) (former_acknowledgment i call) lent (same_refusal b) (same_response b)

    -- Shut out: a batch that is answered otherwise where 1 to 6 refuse it.
    pub batch_before : is_batch i ≡ true → AsBefore ⊎ (former_refusal i call ≡ 7)
    batch_before b = go (eqb (first (early_rules i call)) 0) refl
      where
        go : (z : Bool) → eqb (first (early_rules i call)) 0 ≡ z → AsBefore ⊎ (former_refusal i call ≡ 7)
        go true q = inr (was_seven b (eqb-true (first (early_rules i call)) 0 q))
        go false q =
            let early = eqb-false (first (early_rules i call)) 0 q in
            inl (called_alike (functional_acknowledgment i call) (former_acknowledgment i call) lent (same_early early)
            (λ z. absurd (early (sym (staged i call ∙ rw q) ∙ z))))

-- TA1's verdict on what is no batch is the former one. Shut out: another verdict on one group, or on groups that check 7 refuses.
pub same_verdict : (i : Bytes) → is_batch i ≡ false → interchange_verdict i ≡ former_verdict i
same_verdict i b = go (alike i b)
  where
    go : Alike i → interchange_verdict i ≡ former_verdict i
    go (one_alike e) = one_verdict i e
    go (both_fail n f) = fails_verdict i n ∙ sym (former_fails_verdict i f)

-- Its verdict on a batch is the former one, or the batch was rejected with 022. Shut out: another verdict on a batch that does not end in a terminator.
pub batch_verdict : (i : Bytes) → is_batch i ≡ true → (interchange_verdict i ≡ former_verdict i) ⊎ (former_verdict i ≡ verdict_by 22)
batch_verdict i b = go (is_terminated (delimiters i) i) refl
  where
    go : (t : Bool) → is_terminated (delimiters i) i ≡ t → (interchange_verdict i ≡ former_verdict i) ⊎ (former_verdict i ≡ verdict_by 22)
    go true t = inr (former_fails_verdict i (batch_fails i b) ∙ ended i t)
    go false t = inl (unended i t ∙ sym (former_unended i t))

-- a call for a TA1 is answered by the verdict alone
pub by_verdict : (i : Bytes) (call : Call) (lent : Bytes) → interchange_verdict i ≡ former_verdict i
    → called (interchange_acknowledgment i call) lent ≡ called (former_interchange_acknowledgment i call) lent
unfolding interchange_response interchange_respond former_interchange_response
by_verdict i call lent e =
    called_alike (interchange_acknowledgment i call) (former_interchange_acknowledgment i call) lent refl (λ z. rw e)
