-- The acknowledgment of the interchange itself: how long its response is, where its verdict stands in it, and that it agrees with the refusals of
-- the 997.
use Rattle.std.specs.Prelude.{if◌then◌else◌}
use Prim.Native.Nat.{ℕ, ◌-◌, ◌≤◌}
use mathlib.Core.Path.{◌≡◌, refl, sym, ap, ◌∙◌}
use mathlib.Core.Bool.{Bool, true, false, ◌&&◌, not}
use mathlib.Core.Logic.{◌⊎◌, inl, inr, ◌↔◌}
use mathlib.Core.List.{List, [], ◌∷◌, ◌++◌, append-nil, append_assoc}
use native.Mathlib.Omega.{arith}
use borrow.Author.Tests.{eqb-true, eqb-false, not-false, leb-true}
use lib.Dec.{T, leb, eqb}
use lib.ListN.{length, get_or, length-append}
use lib.Seq.{slice, slice-cons, slice_empty, length-slice, take_at, drop_at}
use Rattle.rules.specs.Base.{Bytes, Rule, ◌⇒◌, first, last, ascii, same}
use Rattle.rules.specs.Cutting.{Segment, field, separators, fields_at, delimiters, isa, segments}
use Rattle.rules.specs.Numbers.{padded, digits_of, decimal}
use Rattle.rules.specs.Groups.{groups_of}
use Rattle.rules.specs.Refusals.{good_call, call_rules, head_rules, is_terminated, end_rules, enveloped, most_groups, envelope_rules, has_two, closes, counts_groups, trailer_rules, groups_rules, refusal_rules, refusal}
use Rattle.rules.specs.Response.{fields_out, segment_out, out, isa_out, iea_out}
use Rattle.rules.specs.InterchangeAcknowledgment.{note_code_rules, Verdict, verdict_by, interchange_verdict, asks_for_ta1, interchange_rules, interchange_refusal, ta1, interchange_respond, interchange_response}
use Rattle.rules.specs.declared.Call.{Call}
use Rattle.rules.specs.declared.Delimiters.{Delimiters}
use Rattle.rules.proofs.Logic.{and_left, numbered, silent, first_append, first_in, first_low}
use Rattle.rules.proofs.Facts.{groups_numbered}
use Rattle.rules.proofs.Lengths.{padded_length}

-- what stands between two places of a text
between_parts : (p x q : Bytes) (from to : ℕ) → length p ≡ from → length (p ++ x) ≡ to → slice from to (p ++ (x ++ q)) ≡ x
between_parts p x q from to e f = rw (← append_assoc p x q, take_at (p ++ x) q to f) (drop_at p x from e)

-- 1. The response has 154 bytes, and its verdict stands from byte 132 on.
ta104_long : (n : ℕ) → length (verdict_by n).ta104 ≡ 1
ta104_long n = go (eqb n 0)
  where
    go : (b : Bool) → length (if b then ascii "A" else ascii "R") ≡ 1
    go true = refl
    go false = refl

-- the verdict in a buffer, at the places of TA104 and TA105
abbrev pub verdict_in : Bytes → Verdict
verdict_in left = record { ta104 = slice 132 133 left; ta105 = slice 134 137 left }

module _ (i : Bytes) (call : Call) (long : 106 ≤ length i) where
  abbrev d : Delimiters
  d = delimiters i

  abbrev v : Verdict
  v = interchange_verdict i

  piece : (from to : ℕ) → to ≤ 106 → length (slice from to i) ≡ to - from
  piece from to h = length-slice from to i (omega arith)

  pub isa_long : length (segment_out d (isa_out d (isa i) call)) ≡ 106
  unfolding isa_out fields_out isa fields_at separators
  isa_long =
      simp (length-append, padded_length)
      (omega (arith, piece 32 34 (omega arith), piece 35 50 (omega arith), piece 51 53 (omega arith), piece 54 69 (omega arith), piece 102 103 (omega arith)))

  isa14_is : field (isa i) 14 ≡ get_or i 100 0 ∷ []
  unfolding isa fields_at separators
  isa14_is = slice-cons 100 101 i 0 (omega arith) (omega arith) ∙ ap (λ (r : Bytes). get_or i 100 0 ∷ r) (slice_empty 101 i)

  -- A TA1 is asked for by the byte 1 before the separator at offset 101. Shut out: another byte taken for it.
  pub asks_by : asks_for_ta1 i ≡ eqb (get_or i 100 0) 49
  unfolding same
  asks_by = rw isa14_is (go (eqb (get_or i 100 0) 49))
    where
      go : (b : Bool) → (b && true) ≡ b
      go true = refl
      go false = refl

  -- what stands before the verdict, and behind it
  abbrev heading : Bytes
  heading =
      segment_out d (isa_out d (isa i) call)
      ++ (ascii "TA1" ++ (fields_out d (field (isa i) 13 ∷ field (isa i) 9 ∷ field (isa i) 10 ∷ []) ++ d.element ∷ []))

  abbrev closing : Bytes
  closing = d.terminator ∷ segment_out d (iea_out 0 call.control)

  heading_long : length heading ≡ 132
  unfolding fields_out isa fields_at separators
  heading_long =
      simp length-append (omega (arith, isa_long, piece 90 99 (omega arith), piece 70 76 (omega arith), piece 77 81 (omega arith)))

  closing_long : length closing ≡ 17
  unfolding fields_out iea_out decimal digits_of
  closing_long = simp (length-append, padded_length) (omega arith)

  in_parts : interchange_response i call ≡ heading ++ (v.ta104 ++ (d.element ∷ (v.ta105 ++ closing)))
  unfolding interchange_response interchange_respond ta1 out fields_out
  in_parts = go (segment_out d (isa_out d (isa i) call)) (field (isa i) 13) (field (isa i) 9) (field (isa i) 10) v.ta104 v.ta105
    where
      go : (h a b c x y : Bytes)
          → h ++ (segment_out d (ascii "TA1" ∷ a ∷ b ∷ c ∷ x ∷ y ∷ []) ++ (segment_out d (iea_out 0 call.control) ++ []))
          ≡ (h ++ (ascii "TA1" ++ (fields_out d (a ∷ b ∷ c ∷ []) ++ d.element ∷ []))) ++ (x ++ (d.element ∷ (y ++ closing)))
      go h a b c x y = simp (append_assoc, append-nil)

  pub response_long : length (interchange_response i call) ≡ 154
  unfolding interchange_verdict
  response_long =
      rw in_parts
      (simp (length-append heading, padded_length, length-append v.ta104, length-append v.ta105)
      (omega (arith, heading_long, closing_long, ta104_long (first (note_code_rules i)))))

  module _ (rest : Bytes) where
    ta104_stands : slice 132 133 (interchange_response i call ++ rest) ≡ v.ta104
    unfolding interchange_verdict
    ta104_stands =
        ap (λ (r : Bytes). slice 132 133 (r ++ rest)) in_parts
        ∙ ap (slice 132 133) (append_assoc heading _ rest ∙ ap (λ (r : Bytes). heading ++ r) (append_assoc v.ta104 _ rest))
        ∙ between_parts heading v.ta104 _ 132 133 heading_long
        (simp (length-append heading) (omega (arith, heading_long, ta104_long (first (note_code_rules i)))))

    before_ta105 : length (heading ++ (v.ta104 ++ d.element ∷ [])) ≡ 134
    unfolding interchange_verdict
    before_ta105 = simp (length-append heading, length-append v.ta104) (omega (arith, heading_long, ta104_long (first (note_code_rules i))))

    ta105_stands : slice 134 137 (interchange_response i call ++ rest) ≡ v.ta105
    unfolding interchange_verdict
    ta105_stands =
        ap (λ (r : Bytes). slice 134 137 (r ++ rest)) in_parts
        ∙ ap (slice 134 137) (go heading v.ta104 v.ta105 closing)
        ∙ between_parts (heading ++ (v.ta104 ++ d.element ∷ [])) v.ta105 (closing ++ rest) 134 137 before_ta105
        (length-append (heading ++ (v.ta104 ++ d.element ∷ [])) v.ta105 ∙ rw (before_ta105, padded_length 3 (first (note_code_rules i))))
      where
        go : (h x y z : Bytes) → (h ++ (x ++ (d.element ∷ (y ++ z)))) ++ rest ≡ (h ++ (x ++ d.element ∷ [])) ++ (y ++ (z ++ rest))
        go h x y z = simp append_assoc

  -- Whatever follows, the verdict stands there. Shut out: a program that writes it at another place.
  pub verdict_stands : (rest : Bytes) → verdict_in (interchange_response i call ++ rest) ≡ interchange_verdict i
  verdict_stands rest = rw (ta104_stands rest, ta105_stands rest)

-- 2. The verdict and the first of 6, 7 and 8 that applies.
-- A with 000
abbrev pub accepted_verdict : Verdict
accepted_verdict = record { ta104 = ascii "A"; ta105 = ascii "000" }

-- R with a note code
abbrev pub rejected_for : Bytes → Verdict
rejected_for code = record { ta104 = ascii "R"; ta105 = code }

-- 6, 7 or 8
abbrev pub OfVerdict : ℕ → Type 0
OfVerdict n = (6 ≤ n) × (n ≤ 8)

module _ (i : Bytes) where
  abbrev all_segments : List Segment
  all_segments = segments (delimiters i) i

  abbrev iea : Segment
  iea = last [] all_segments

  abbrev groups : ℕ
  groups = length (groups_of all_segments)

  -- 6, 7 and 8 as a block
  abbrev pub verdict_rules : List Rule
  verdict_rules = end_rules (delimiters i) i ++ (envelope_rules most_groups all_segments ++ trailer_rules iea groups (field (isa i) 13))

  -- A refusal of the interchange, 0 for none, and the verdict that stands for it, by the test that fails.
  pub data StandsFor : ℕ → Verdict → Type 0 where
    passed : StandsFor 0 accepted_verdict
    not_terminated : is_terminated (delimiters i) i ≡ false → StandsFor 6 (rejected_for (ascii "023"))
    out_of_place : enveloped most_groups all_segments ≡ false → StandsFor 7 (rejected_for (ascii "022"))
    not_two : has_two iea ≡ false → StandsFor 8 (rejected_for (ascii "022"))
    other_control : has_two iea ≡ true → closes iea (field (isa i) 13) ≡ false → StandsFor 8 (rejected_for (ascii "001"))
    other_count : has_two iea ≡ true → closes iea (field (isa i) 13) ≡ true → counts_groups groups iea ≡ false
        → StandsFor 8 (rejected_for (ascii "021"))

  stands : StandsFor (first verdict_rules) (interchange_verdict i)
  unfolding end_rules envelope_rules trailer_rules note_code_rules interchange_verdict first padded
  stands =
      go (is_terminated (delimiters i) i) (enveloped most_groups all_segments) (has_two iea) (closes iea (field (isa i) 13)) (counts_groups groups iea)
      refl refl refl refl refl
    where
      go : (t e n c g : Bool) → is_terminated (delimiters i) i ≡ t → enveloped most_groups all_segments ≡ e → has_two iea ≡ n
          → closes iea (field (isa i) 13) ≡ c → counts_groups groups iea ≡ g
          → StandsFor (first ((not t ⇒ 6) ∷ (not e ⇒ 7) ∷ (not n ⇒ 8) ∷ (not c ⇒ 8) ∷ (not g ⇒ 8) ∷ []))
          (verdict_by (first ((not t ⇒ 23) ∷ (not e ⇒ 22) ∷ (not n ⇒ 22) ∷ (not c ⇒ 1) ∷ (not g ⇒ 21) ∷ [])))
      go false e n c g pt pe pn pc pg = not_terminated pt
      go true false n c g pt pe pn pc pg = out_of_place pe
      go true true false c g pt pe pn pc pg = not_two pn
      go true true true false g pt pe pn pc pg = other_control pn pc
      go true true true true false pt pe pn pc pg = other_count pn pc pg
      go true true true true true pt pe pn pc pg = passed

  -- it is accepted, or one of the three applies and it is rejected
  abbrev Judged : ℕ → Verdict → Type 0
  Judged n v = ((n ≡ 0) × (v ≡ accepted_verdict)) ⊎ (OfVerdict n × (v.ta104 ≡ ascii "R"))

  either : {n : ℕ} {v : Verdict} → StandsFor n v → Judged n v
  either passed = inl (refl, refl)
  either (not_terminated t) = inr ((omega arith, omega arith), refl)
  either (out_of_place e) = inr ((omega arith, omega arith), refl)
  either (not_two n) = inr ((omega arith, omega arith), refl)
  either (other_control n c) = inr ((omega arith, omega arith), refl)
  either (other_count n c g) = inr ((omega arith, omega arith), refl)

  judged : Judged (first verdict_rules) (interchange_verdict i)
  judged = either stands

  a_or_r : {c : Bytes} → c ≡ ascii "A" → c ≡ ascii "R" → ⊥
  a_or_r a r = let z = ap (λ (c : Bytes). get_or c 0 0) (sym a ∙ r) in omega arith

  -- Of the bytes alone: A with 000 exactly if none of 6, 7 and 8 applies. Shut out: a verdict that another test has a say in.
  pub a_exactly : interchange_verdict i ≡ accepted_verdict ↔ first verdict_rules ≡ 0
  a_exactly = (λ e. clear e judged, λ z. accepted z judged)
    where
      clear : interchange_verdict i ≡ accepted_verdict → Judged (first verdict_rules) (interchange_verdict i) → first verdict_rules ≡ 0
      clear e (inl a) = a.0
      clear e (inr r) = absurd (a_or_r (ap (λ (v : Verdict). v.ta104) e) r.1)

      accepted : first verdict_rules ≡ 0 → Judged (first verdict_rules) (interchange_verdict i) → interchange_verdict i ≡ accepted_verdict
      accepted z (inl a) = a.1
      accepted z (inr r) = absurd (omega (arith, z, r.0))

-- 3. The refusals of the two entries, stage by stage.
-- Of two blocks the first decides, where it has a number, and else the second.
abbrev Turn : List Rule → List Rule → ℕ → Type 0
Turn rs ss n = ((first rs ≡ 0) × (n ≡ first ss)) ⊎ ((first rs ≡ 0 → ⊥) × (n ≡ first rs))

turn : (rs ss : List Rule) {n : ℕ} → T (numbered rs) → n ≡ first (rs ++ ss) → Turn rs ss n
turn rs ss {n} t q = go (eqb (first rs) 0) refl
  where
    go : (b : Bool) → eqb (first rs) 0 ≡ b → Turn rs ss n
    go true e = inl (eqb-true (first rs) 0 e, q ∙ first_append rs ss t ∙ rw e)
    go false e = inr (eqb-false (first rs) 0 e, q ∙ first_append rs ss t ∙ rw e)

fifteen : (asks : Bool) → first ((not asks ⇒ 15) ∷ []) ≡ (if asks then 0 else 15)
unfolding first
fifteen true = refl
fifteen false = refl

module _ (i : Bytes) (call : Call) where
  -- 1 to 5, with which both begin, and 9 to 13
  abbrev pub opening_rules : List Rule
  opening_rules = call_rules call ++ head_rules i

  abbrev body_rules : List Rule
  body_rules = groups_rules (delimiters i) (groups_of (segments (delimiters i) i))

  -- Which stage of the 997 decides: 1 to 5; else 6, 7 or 8; else what lies in the groups.
  data Decided : Type 0 where
    early : (first opening_rules ≡ 0 → ⊥) → refusal i call ≡ first opening_rules → refusal i call ≤ 5 → Decided
    envelope : first opening_rules ≡ 0 → (first (verdict_rules i) ≡ 0 → ⊥) → refusal i call ≡ first (verdict_rules i) → Decided
    inside : first opening_rules ≡ 0 → first (verdict_rules i) ≡ 0 → (refusal i call ≡ 0) ⊎ (9 ≤ refusal i call) → Decided

  opening_low : first opening_rules ≤ 5
  unfolding call_rules head_rules
  opening_low = first_low 1 5 opening_rules refl

  body_in : (first body_rules ≡ 0) ⊎ ((9 ≤ first body_rules) × (first body_rules ≤ 13))
  body_in = first_in 9 13 body_rules (groups_numbered 9 (omega arith) (delimiters i) (groups_of (segments (delimiters i) i)))

  opening_numbered : T (numbered opening_rules)
  unfolding call_rules head_rules
  opening_numbered = tt

  verdict_numbered : T (numbered (verdict_rules i))
  unfolding end_rules envelope_rules trailer_rules
  verdict_numbered = tt

  in_stages : refusal i call ≡ first (opening_rules ++ (verdict_rules i ++ body_rules))
  unfolding refusal refusal_rules
  in_stages = simp append_assoc

  decided : Decided
  decided = by_opening (turn opening_rules (verdict_rules i ++ body_rules) opening_numbered in_stages)
    where
      late : refusal i call ≡ first body_rules → (first body_rules ≡ 0) ⊎ ((9 ≤ first body_rules) × (first body_rules ≤ 13))
          → (refusal i call ≡ 0) ⊎ (9 ≤ refusal i call)
      late e (inl z) = inl (e ∙ z)
      late e (inr h) = inr (rw e h.0)

      by_verdict : first opening_rules ≡ 0 → Turn (verdict_rules i) body_rules (refusal i call) → Decided
      by_verdict o (inl p) = inside o p.0 (late p.1 body_in)
      by_verdict o (inr p) = envelope o p.0 p.1

      by_opening : Turn opening_rules (verdict_rules i ++ body_rules) (refusal i call) → Decided
      by_opening (inl p) = by_verdict p.0 (turn (verdict_rules i) body_rules verdict_numbered p.1)
      by_opening (inr p) = early p.0 p.1 (rw p.1 opening_low)

  -- the stages of the other entry
  asked_stages : Turn opening_rules ((not (asks_for_ta1 i) ⇒ 15) ∷ []) (interchange_refusal i call)
  unfolding interchange_refusal interchange_rules
  asked_stages = turn opening_rules _ opening_numbered (simp append_assoc)

  -- past them, 15 where ISA14 does not ask
  pub opened : first opening_rules ≡ 0 → interchange_refusal i call ≡ (if asks_for_ta1 i then 0 else 15)
  opened o = go asked_stages
    where
      go : Turn opening_rules ((not (asks_for_ta1 i) ⇒ 15) ∷ []) (interchange_refusal i call) → interchange_refusal i call ≡ (if asks_for_ta1 i then 0 else 15)
      go (inl p) = p.1 ∙ fifteen (asks_for_ta1 i)
      go (inr p) = absurd (p.0 o)

  pub unopened : (first opening_rules ≡ 0 → ⊥) → interchange_refusal i call ≡ first opening_rules
  unopened h = go asked_stages
    where
      go : Turn opening_rules ((not (asks_for_ta1 i) ⇒ 15) ∷ []) (interchange_refusal i call) → interchange_refusal i call ≡ first opening_rules
      go (inl p) = absurd (h p.0)
      go (inr p) = p.1

  -- One of 1 to 5 is the refusal of both. Shut out: 15 before one of them.
  pub same_early : refusal i call ≤ 5 → (refusal i call ≡ 0 → ⊥) → interchange_refusal i call ≡ refusal i call
  same_early h some = go decided (judged i)
    where
      go : Decided → Judged i (first (verdict_rules i)) (interchange_verdict i) → interchange_refusal i call ≡ refusal i call
      go (early o e low) p = unopened o ∙ sym e
      go (envelope o v e) (inl a) = absurd (v a.0)
      go (envelope o v e) (inr r) = absurd (omega (arith, e, r.0))
      go (inside o z (inl e)) p = absurd (some e)
      go (inside o z (inr e)) p = absurd (omega arith)

  -- without one of them they pass
  pub past_opening : (refusal i call ≡ 0) ⊎ (6 ≤ refusal i call) → first opening_rules ≡ 0
  past_opening h = go decided h
    where
      go : Decided → (refusal i call ≡ 0) ⊎ (6 ≤ refusal i call) → first opening_rules ≡ 0
      go (early o e low) (inl z) = sym e ∙ z
      go (early o e low) (inr l) = absurd (omega arith)
      go (envelope o v e) q = o
      go (inside o z late) q = o

  -- Past them, 15 is the refusal where ISA14 does not ask, and there is none where it does. Shut out: 15 where ISA14 is 1, or `Y` taken for it.
  pub past_early : (refusal i call ≡ 0) ⊎ (6 ≤ refusal i call) → interchange_refusal i call ≡ (if asks_for_ta1 i then 0 else 15)
  past_early h = opened (past_opening h)

  -- without a refusal of the other entry, 1 to 5 pass, and ISA14 asks
  pub asked_passes : interchange_refusal i call ≡ 0 → (first opening_rules ≡ 0) × (asks_for_ta1 i ≡ true)
  asked_passes e = go asked_stages
    where
      asks : (b : Bool) → ◌≡◌ {A = ℕ} (if b then 0 else 15) 0 → b ≡ true
      asks true z = refl
      asks false z = absurd (omega arith)

      go : Turn opening_rules ((not (asks_for_ta1 i) ⇒ 15) ∷ []) (interchange_refusal i call) → (first opening_rules ≡ 0) × (asks_for_ta1 i ≡ true)
      go (inl p) = (p.0, asks (asks_for_ta1 i) (sym (p.1 ∙ fifteen (asks_for_ta1 i)) ∙ e))
      go (inr p) = absurd (p.0 (sym p.1 ∙ e))

  -- and the interchange has an ISA
  pub long_enough : interchange_refusal i call ≡ 0 → 106 ≤ length i
  unfolding call_rules head_rules
  long_enough e =
      let short = (silent opening_rules tt (asked_passes e).0).1.0 in
      leb-true 106 (length i) (and_left (leb 106 (length i)) (leb (length i) 65536) (not-false _ short))

-- 2 to 5 do not depend on the caller's numbers: where they pass with some, they pass with others that are good
pub opening_again : (i : Bytes) (call call' : Call) → first (opening_rules i call) ≡ 0 → good_call call' ≡ true → first (opening_rules i call') ≡ 0
unfolding call_rules first
opening_again i call call' e g = rw g (go (good_call call) e)
  where
    go : (b : Bool) → first ((not b ⇒ 1) ∷ head_rules i) ≡ 0 → first (head_rules i) ≡ 0
    go true z = z
    go false z = absurd (omega arith)

-- and they pass only with good ones
pub opening_good : (i : Bytes) (call : Call) → first (opening_rules i call) ≡ 0 → good_call call ≡ true
unfolding call_rules first
opening_good i call e = go (good_call call) e
  where
    go : (b : Bool) → first ((not b ⇒ 1) ∷ head_rules i) ≡ 0 → b ≡ true
    go true z = refl
    go false z = absurd (omega arith)

-- 4. The verdict and the refusal of the 997.
module _ (i : Bytes) (call : Call) where
  -- Where the 997 has no refusal, or one after 8, the interchange is accepted. Shut out: a TA1 that rejects an interchange whose group is answered.
  pub passed_accepted : (refusal i call ≡ 0) ⊎ (9 ≤ refusal i call) → interchange_verdict i ≡ accepted_verdict
  passed_accepted p = go (decided i call) p (judged i)
    where
      go : Decided i call → (refusal i call ≡ 0) ⊎ (9 ≤ refusal i call) → Judged i (first (verdict_rules i)) (interchange_verdict i)
          → interchange_verdict i ≡ accepted_verdict
      go d q (inl a) = a.1
      go (early o e low) (inl z) (inr r) = absurd (o (sym e ∙ z))
      go (early o e low) (inr h) (inr r) = absurd (omega arith)
      go (envelope o v e) (inl z) (inr r) = absurd (v (sym e ∙ z))
      go (envelope o v e) (inr h) (inr r) = absurd (omega (arith, e, r.0))
      go (inside o z late) q (inr r) = absurd (omega (arith, z, r.0))

  -- Where it is accepted, the 997 has none of 6, 7 and 8. Shut out: a TA1 that accepts an envelope that the 997 refuses.
  pub accepted_spared : (interchange_verdict i).ta104 ≡ ascii "A" → OfVerdict (refusal i call) → ⊥
  accepted_spared a s = go (decided i call) (judged i)
    where
      go : Decided i call → Judged i (first (verdict_rules i)) (interchange_verdict i) → ⊥
      go d (inr r) = a_or_r i a r.1
      go (early o e low) (inl p) = omega (arith, s)
      go (envelope o v e) (inl p) = v p.0
      go (inside o z (inl e)) (inl p) = omega (arith, s)
      go (inside o z (inr e)) (inl p) = omega (arith, s)

  -- Where 1 to 5 pass and it is rejected, the 997 is refused with 6, 7 or 8, and the note code tells of the test that fails. Shut out: a note code of
  -- another test.
  pub rejected_stands : first (opening_rules i call) ≡ 0 → (interchange_verdict i).ta104 ≡ ascii "R"
      → OfVerdict (refusal i call) × StandsFor i (refusal i call) (interchange_verdict i)
  rejected_stands o r = go (decided i call) (judged i)
    where
      go : Decided i call → Judged i (first (verdict_rules i)) (interchange_verdict i)
          → OfVerdict (refusal i call) × StandsFor i (refusal i call) (interchange_verdict i)
      go d (inl a) = absurd (a_or_r i (ap (λ (v : Verdict). v.ta104) a.1) r)
      go (early n e low) (inr p) = absurd (n o)
      go (envelope n v e) (inr p) = rw e (p.0, stands i)
      go (inside n z late) (inr p) = absurd (omega (arith, z, p.0))

  -- Where 1 to 5 pass, it is accepted exactly if the 997 is not refused with 6, 7 or 8.
  pub a_spared : first (opening_rules i call) ≡ 0 → interchange_verdict i ≡ accepted_verdict ↔ (OfVerdict (refusal i call) → ⊥)
  a_spared o = (λ e. accepted_spared (ap (λ (v : Verdict). v.ta104) e), λ s. go s (decided i call) (judged i))
    where
      go : (OfVerdict (refusal i call) → ⊥) → Decided i call → Judged i (first (verdict_rules i)) (interchange_verdict i)
          → interchange_verdict i ≡ accepted_verdict
      go s d (inl a) = a.1
      go s (early n e low) (inr r) = absurd (n o)
      go s (envelope n v e) (inr r) = absurd (s (rw e r.0))
      go s (inside n z late) (inr r) = absurd (omega (arith, z, r.0))
