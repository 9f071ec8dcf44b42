-- The entry for TA1 over its contract, and that the two entries agree: a 997 is given only where TA1 says A.
use mathlib.Core.Path.{◌≡◌, refl, sym, ap, ◌∙◌}
use mathlib.Core.Bool.{Bool, true, false}
use mathlib.Core.Logic.{◌⊎◌, inl, inr}
use mathlib.Core.List.{List, [], ◌∷◌, ◌++◌, append_assoc}
use Prim.Native.Nat.{ℕ, ◌≤◌, ◌<◌}
use native.Mathlib.Omega.{arith}
use borrow.Author.Tests.{eqb-true, eqb-false}
use lib.Dec.{leb, eqb}
use lib.ListN.{length, take, drop, get_or}
use lib.Seq.{take_at}
use Rattle.rules.specs.Base.{Bytes, first, ascii}
use Rattle.rules.specs.Cutting.{Segment, delimiters, isa}
use Rattle.rules.specs.Refusals.{good_call, refusal}
use Rattle.rules.specs.Response.{segment_out, out, isa_out, iea_out, respond, response}
use Rattle.rules.specs.InterchangeAcknowledgment.{note_code_rules, Verdict, interchange_verdict, asks_for_ta1, interchange_refusal, ta1, interchange_respond, interchange_response}
use Rattle.rules.specs.Answers.{Reply, functional_acknowledgment, interchange_acknowledgment, answer, Outcome, outcome, called}
use Rattle.rules.specs.declared.Call.{Call}
use Rattle.rules.specs.declared.Delimiters.{Delimiters}
use Rattle.rules.proofs.Facts.{allowed_outcome, interchange_numbered}
use Rattle.rules.proofs.InterchangeAcknowledgment.{verdict_in, isa_long, response_long, verdict_stands, accepted_verdict, OfVerdict, StandsFor, past_opening, opening_again, opening_good, opened, asked_passes, long_enough, passed_accepted, accepted_spared, rejected_stands}
use Rattle.rules.proofs.Exchange.{sample_call}
use Rattle.rules.proofs.Caret.{Barred, barred, received_with, barred_by}
use Rattle.rules.proofs.Envelopes.{Row, envelopes, received_as, sent_as}
use Rattle.promises.proofs.Shown as shown
use Rattle.promises.proofs.Shown.{holding}
use Rattle.promises.proofs.Demands as demands
use Rattle.promises.proofs.Spoiling.{call_of}
use Rattle.acknowledgment.proofs.acknowledge.Reads as acknowledge
use Rattle.interchange_acknowledgment.proofs.acknowledge_interchange.Reads as acknowledge_interchange
use Rattle.x12.proofs.x12_acknowledge.Reads as x12_acknowledge
use Rattle.x12.proofs.x12_acknowledge_interchange.Reads as x12_acknowledge_interchange

-- 1. The outcome of a call for a TA1.
-- ISA, TA1 and IEA stand at the start of the buffer, 154 bytes, and every byte after them is as lent
abbrev pub holding_ta1 : Bytes → Bytes → Call → Outcome
holding_ta1 i lent call = record {
  number = 0;
  size = 154;
  buffer =
      out (delimiters i) (isa_out (delimiters i) (isa i) call ∷ ta1 (isa i) (interchange_verdict i) ∷ iea_out 0 call.control ∷ [])
      ++ drop 154 lent;
}

-- what the law promises of the outcome o of such a call on the interchange i and the buffer lent
pub record Promised (i lent : Bytes) (call : Call) (o : Outcome) : Type 0 where
  -- a refusal gives its number and the length 0, and every byte of the buffer is as lent: shut out are a refusal that writes, and 14 before 15
  pub refused : (interchange_refusal i call ≡ 0 → ⊥) → o ≡ record { number = interchange_refusal i call; size = 0; buffer = lent }
  -- without one the buffer has ISA, TA1 and IEA, 154 bytes, and then what was lent: shut out are refusing everything, 6, 7 or 8 as a refusal, doing
  -- nothing, one fixed TA1, and another segment
  pub answered : interchange_refusal i call ≡ 0 → 154 ≤ length lent → o ≡ holding_ta1 i lent call
  -- 14 exactly in a shorter buffer: shut out is a program that writes what fits
  pub too_long : interchange_refusal i call ≡ 0 → length lent < 154 → o ≡ record { number = 14; size = 154; buffer = lent }
  -- an answer has the verdict at its place: shut out is A for all
  pub verdict : o.number ≡ 0 → verdict_in o.buffer ≡ interchange_verdict i
  -- row k of the table of envelopes is answered, and its whole response stands at the start of the buffer: shut out is a program that draws one of
  -- these lines elsewhere
  pub envelopes : (e : Row) (k : ℕ) → k < length envelopes → i ≡ received_as (get_or envelopes k e) → call ≡ sample_call
      → length (sent_as (get_or envelopes k e)) ≤ length lent → o ≡ holding (sent_as (get_or envelopes k e)) lent
  -- row k of the table of separators that are refused, where its number is 4 or 5: shut out is a TA1 that does not know the separator
  pub barred : (b : Barred) (k : ℕ) → k < length barred → i ≡ received_with "00601" (get_or barred k b) → call ≡ sample_call
      → leb (barred_by (get_or barred k b)) 5 ≡ true → o ≡ record { number = barred_by (get_or barred k b); size = 0; buffer = lent }

module _ (i lent : Bytes) (call : Call) (o : Outcome) (p : o ≡ called (interchange_acknowledgment i call) lent) where
  abbrev reply : Reply
  reply = interchange_acknowledgment i call

  -- the outcome of a call on what is known to be received
  onto : {j : Bytes} {c : Call} → i ≡ j → call ≡ c → o ≡ called (interchange_acknowledgment j c) lent
  onto {j} e f =
      p ∙ ap (λ (i : Bytes). called (interchange_acknowledgment i call) lent) e ∙ ap (λ (c : Call). called (interchange_acknowledgment j c) lent) f

  number_is : o.number ≡ (called reply lent).number
  number_is = ap (λ (o : Outcome). o.number) p

  -- the number 0 is given without a refusal, in a buffer that has 154 bytes
  wrote : o.number ≡ 0 → (interchange_refusal i call ≡ 0) × (interchange_response i call ++ drop 154 lent ≡ o.buffer)
  wrote e =
      let w = shown.written reply lent (sym number_is ∙ e) in
      let long = response_long i call (long_enough i call w.0) in
      (w.0, sym (ap (λ (o : Outcome). o.buffer) (p ∙ shown.answered reply lent w.0 w.1) ∙ rw long))

  verdict_left : o.number ≡ 0 → verdict_in o.buffer ≡ interchange_verdict i
  verdict_left e =
      ap verdict_in (sym (wrote e).1) ∙ verdict_stands i call (long_enough i call (wrote e).0) (drop 154 lent)

  answered_whole : interchange_refusal i call ≡ 0 → 154 ≤ length lent → o ≡ holding_ta1 i lent call
  unfolding interchange_response interchange_respond
  answered_whole e h =
      let long = response_long i call (long_enough i call e) in
      p ∙ shown.answered reply lent e (rw long h) ∙ rw long

  promised : Promised i lent call o
  promised = record {
    refused = λ h. p ∙ shown.refused reply lent h;
    answered = answered_whole;
    too_long = λ e h. let long = response_long i call (long_enough i call e) in p ∙ shown.too_long reply lent e (rw long h) ∙ rw long;
    verdict = verdict_left;
    envelopes = λ row k h e f room. onto e f ∙ shown.envelopes_shown row k h lent room;
    barred = λ row k h e f early. onto e f ∙ shown.barred_ta1_shown row k h lent early;
  }

-- All of it holds of the Rattle function, which asks nothing,
pub asks_nothing : (κs : _) (a : _) → acknowledge_interchange.Pre κs a
asks_nothing κs a = tt

pub calls : (κs : _) (a : _) (r : _) (s : _) → acknowledge_interchange.Post κs a r s
    → outcome r s.1.0.now ≡ called (interchange_acknowledgment a.0.now a.1.1.0) a.1.0.now
calls κs a r s p = allowed_outcome (interchange_acknowledgment a.0.now a.1.1.0) a.1.0.now r (interchange_numbered a.0.now a.1.1.0) p

pub acknowledge_interchange_promised : (κs : _) (a : _) (r : _) (s : _) → acknowledge_interchange.Post κs a r s
    → Promised a.0.now a.1.0.now a.1.1.0 (outcome r s.1.0.now)
acknowledge_interchange_promised κs a r s p = promised a.0.now a.1.0.now a.1.1.0 (outcome r s.1.0.now) (calls κs a r s p)

-- and of the face for C. Shut out: a face that returns another number or stores another length.
pub x12_acknowledge_interchange_promised : (κs : _) (a : _) (r : _) (s : _) → x12_acknowledge_interchange.Post κs a r s
    → Promised a.0.now a.1.0.now (call_of a.1.1.0 a.1.1.1.0 a.1.1.1.1.0)
    (record { number = r; size = s.1.1.1.1.1.0.now; buffer = s.1.0.now })
x12_acknowledge_interchange_promised κs a r s p =
    promised a.0.now a.1.0.now (call_of a.1.1.0 a.1.1.1.0 a.1.1.1.1.0)
    (record { number = r; size = s.1.1.1.1.1.0.now; buffer = s.1.0.now }) p

-- 2. The two entries on one interchange.
-- the 997 is answered, or refused with 9 to 14
abbrev pub Passes : ℕ → Type 0
Passes n = (n ≡ 0) ⊎ ((9 ≤ n) × (n ≤ 14))

-- what holds of the outcome o of a call for a 997 and the outcome o' of a call for a TA1, on the interchange i
pub record Agreed (i lent' : Bytes) (call call' : Call) (o o' : Outcome) : Type 0 where
  -- where the 997 passes, the envelope is right: shut out is a 997 where TA1 would say R, whatever ISA14 and the numbers
  pub accepted : Passes o.number → interchange_verdict i ≡ accepted_verdict
  -- and where a TA1 is asked for, with good numbers and room, it says A with 000: shut out is a TA1 that rejects what is answered
  pub confirmed : Passes o.number → asks_for_ta1 i ≡ true → good_call call' ≡ true → 154 ≤ length lent'
      → (o'.number ≡ 0) × (verdict_in o'.buffer ≡ accepted_verdict)
  -- where the 997 is refused with 6, 7 or 8, and a TA1 is asked for, it is written and says R: shut out is a partner who does not learn of it
  pub rejected : OfVerdict o.number → asks_for_ta1 i ≡ true → good_call call' ≡ true → 154 ≤ length lent'
      → (o'.number ≡ 0) × ((verdict_in o'.buffer).ta104 ≡ ascii "R")
  -- where TA1 says A, no 997 is refused with 6, 7 or 8, whatever its numbers: shut out is A for an envelope that the 997 refuses
  pub spared : o'.number ≡ 0 → (verdict_in o'.buffer).ta104 ≡ ascii "A" → OfVerdict o.number → ⊥
  -- where TA1 says R, the 997 of good numbers is refused with 6, 7 or 8, and the note code tells of the test that fails: shut out is R for
  -- what lies inside a group, and a note code of another test
  pub told : good_call call ≡ true → o'.number ≡ 0 → (verdict_in o'.buffer).ta104 ≡ ascii "R"
      → OfVerdict o.number × StandsFor i o.number (verdict_in o'.buffer)
  -- a TA1 is written under good numbers only, so that these are good for the 997 too: shut out is one under a bad date
  pub numbers : o'.number ≡ 0 → good_call call' ≡ true
  -- of the same numbers, both begin with the same ISA: shut out is a TA1 in an envelope of its own making
  pub same_isa : call' ≡ call → o.number ≡ 0 → o'.number ≡ 0 → take 106 o.buffer ≡ take 106 o'.buffer

-- the number of an outcome: its refusal, or without one 0 or 14
abbrev Numbered : ℕ → ℕ → Type 0
Numbered refusal n = ((refusal ≡ 0 → ⊥) × (n ≡ refusal)) ⊎ ((refusal ≡ 0) × ((n ≡ 0) ⊎ (n ≡ 14)))

numbered : (reply : Reply) (lent : Bytes) → Numbered reply.refusal (called reply lent).number
unfolding called answer
numbered reply lent = go (eqb reply.refusal 0) refl (leb (length reply.response) (length lent)) refl
  where
    go : (b : Bool) → eqb reply.refusal 0 ≡ b → (c : Bool) → leb (length reply.response) (length lent) ≡ c
        → Numbered reply.refusal (called reply lent).number
    go true q true k = inr (eqb-true _ 0 q, inl (rw (q, k)))
    go true q false k = inr (eqb-true _ 0 q, inr (rw (q, k)))
    go false q c k = inl (eqb-false _ 0 q, rw q)

-- the first 106 bytes of what begins with a segment of so many
opens : (d : Delimiters) (s : Segment) (ss : List Segment) (rest : Bytes) → length (segment_out d s) ≡ 106
    → take 106 (out d (s ∷ ss) ++ rest) ≡ segment_out d s
unfolding out
opens d s ss rest e = ap (take 106) (append_assoc (segment_out d s) (out d ss) rest) ∙ take_at (segment_out d s) _ 106 e

module _ (i lent lent' : Bytes) (call call' : Call) (o o' : Outcome)
    (p : o ≡ called (functional_acknowledgment i call) lent) (p' : o' ≡ called (interchange_acknowledgment i call') lent') where
  own_number : Numbered (refusal i call) o.number
  own_number = rw p (numbered (functional_acknowledgment i call) lent)

  -- no refusal, or one after 8
  later : Passes o.number → (refusal i call ≡ 0) ⊎ (9 ≤ refusal i call)
  later h = go own_number h
    where
      go : Numbered (refusal i call) o.number → Passes o.number → (refusal i call ≡ 0) ⊎ (9 ≤ refusal i call)
      go (inl n) (inl z) = absurd (n.0 (sym n.1 ∙ z))
      go (inl n) (inr l) = inr (rw (← n.1) l.0)
      go (inr n) q = inl n.0

  past_five : (refusal i call ≡ 0) ⊎ (9 ≤ refusal i call) → (refusal i call ≡ 0) ⊎ (6 ≤ refusal i call)
  past_five (inl z) = inl z
  past_five (inr h) = inr (omega arith)

  -- the other entry has no refusal then
  asked_clear : Passes o.number → asks_for_ta1 i ≡ true → good_call call' ≡ true → interchange_refusal i call' ≡ 0
  asked_clear h asks good = opened i call' (opening_again i call call' (past_opening i call (past_five (later h))) good) ∙ rw asks

  confirms : Passes o.number → asks_for_ta1 i ≡ true → good_call call' ≡ true → 154 ≤ length lent'
      → (o'.number ≡ 0) × (verdict_in o'.buffer ≡ accepted_verdict)
  confirms h asks good room =
      let zero = ap (λ (o : Outcome). o.number) (answered_whole i lent' call' o' p' (asked_clear h asks good) room) in
      (zero, verdict_left i lent' call' o' p' zero ∙ passed_accepted i call (later h))

  -- one of 6, 7 and 8 is the refusal
  own_refusal : OfVerdict o.number → OfVerdict (refusal i call)
  own_refusal h = go own_number
    where
      go : Numbered (refusal i call) o.number → OfVerdict (refusal i call)
      go (inl n) = rw (← n.1) h
      go (inr (z, inl e)) = absurd (omega (arith, h, e))
      go (inr (z, inr e)) = absurd (omega (arith, h, e))

  refused_rejected : OfVerdict (refusal i call) → (interchange_verdict i).ta104 ≡ ascii "R"
  unfolding interchange_verdict
  refused_rejected h = go (eqb (first (note_code_rules i)) 0) refl
    where
      go : (b : Bool) → eqb (first (note_code_rules i)) 0 ≡ b → (interchange_verdict i).ta104 ≡ ascii "R"
      go true q = absurd (accepted_spared i call (rw q) h)
      go false q = rw q

  rejects : OfVerdict o.number → asks_for_ta1 i ≡ true → good_call call' ≡ true → 154 ≤ length lent'
      → (o'.number ≡ 0) × ((verdict_in o'.buffer).ta104 ≡ ascii "R")
  rejects h asks good room =
      let due = own_refusal h in
      let clear : interchange_refusal i call' ≡ 0 = opened i call' (opening_again i call call' (past_opening i call (inr due.0)) good) ∙ rw asks in
      let zero = ap (λ (o : Outcome). o.number) (answered_whole i lent' call' o' p' clear room) in
      (zero, ap (λ (v : Verdict). v.ta104) (verdict_left i lent' call' o' p' zero) ∙ refused_rejected due)

  told_of : OfVerdict (refusal i call) × StandsFor i (refusal i call) (interchange_verdict i)
      → OfVerdict o.number × StandsFor i o.number (interchange_verdict i)
  told_of h = go own_number
    where
      go : Numbered (refusal i call) o.number → OfVerdict o.number × StandsFor i o.number (interchange_verdict i)
      go (inl n) = rw n.1 h
      go (inr n) = absurd (omega (arith, n.0, h.0))

  -- each buffer begins with our ISA
  functional_opens : o.number ≡ 0 → 106 ≤ length i → take 106 o.buffer ≡ segment_out (delimiters i) (isa_out (delimiters i) (isa i) call)
  unfolding response respond
  functional_opens e long =
      let reply = functional_acknowledgment i call in
      let w = shown.written reply lent (ap (λ (o : Outcome). o.number) (sym p) ∙ e) in
      ap (λ (o : Outcome). take 106 o.buffer) (p ∙ shown.answered reply lent w.0 w.1)
      ∙ opens (delimiters i) _ _ _ (isa_long i call long)

  module _ (e' : o'.number ≡ 0) where
    interchange_opens : take 106 o'.buffer ≡ segment_out (delimiters i) (isa_out (delimiters i) (isa i) call')
    unfolding interchange_response interchange_respond
    interchange_opens =
        let w = wrote i lent' call' o' p' e' in
        ap (take 106) (sym w.1) ∙ opens (delimiters i) _ _ _ (isa_long i call' (long_enough i call' w.0))

    clear' : interchange_refusal i call' ≡ 0
    clear' = (wrote i lent' call' o' p' e').0

    read : verdict_in o'.buffer ≡ interchange_verdict i
    read = verdict_left i lent' call' o' p' e'

    spares : (verdict_in o'.buffer).ta104 ≡ ascii "A" → OfVerdict o.number → ⊥
    spares a h = accepted_spared i call (ap (λ (v : Verdict). v.ta104) (sym read) ∙ a) (own_refusal h)

    tells : good_call call ≡ true → (verdict_in o'.buffer).ta104 ≡ ascii "R"
        → OfVerdict o.number × StandsFor i o.number (verdict_in o'.buffer)
    tells good r =
        let opens_too = opening_again i call' call (asked_passes i call' clear').0 good in
        rw read (told_of (rejected_stands i call opens_too (ap (λ (v : Verdict). v.ta104) (sym read) ∙ r)))

    same_opening : call' ≡ call → o.number ≡ 0 → take 106 o.buffer ≡ take 106 o'.buffer
    same_opening same e =
        functional_opens e (long_enough i call' clear') ∙ ap (λ (c : Call). segment_out (delimiters i) (isa_out (delimiters i) (isa i) c)) (sym same)
        ∙ sym interchange_opens

  agreed : Agreed i lent' call call' o o'
  agreed = record {
    accepted = λ h. passed_accepted i call (later h);
    confirmed = confirms;
    rejected = rejects;
    spared = spares;
    told = λ good e'. tells e' good;
    numbers = λ e'. opening_good i call' (asked_passes i call' (clear' e')).0;
    same_isa = λ same e e'. same_opening e' same e;
  }

-- All of it holds of two calls of the Rattle functions,
pub acknowledge_agreed : (κs : _) (a : _) (r : _) (s : _) → acknowledge.Post κs a r s
    → (κs' : _) (a' : _) (r' : _) (s' : _) → acknowledge_interchange.Post κs' a' r' s' → a'.0.now ≡ a.0.now
    → Agreed a.0.now a'.1.0.now a.1.1.0 a'.1.1.0 (outcome r s.1.0.now) (outcome r' s'.1.0.now)
acknowledge_agreed κs a r s p κs' a' r' s' q same_bytes =
    agreed a.0.now a.1.0.now a'.1.0.now a.1.1.0 a'.1.1.0 _ _ (demands.calls κs a r s p)
    (calls κs' a' r' s' q ∙ ap (λ (i : Bytes). called (interchange_acknowledgment i a'.1.1.0) a'.1.0.now) same_bytes)

-- and of two calls of the faces for C. Shut out: the same programs behind them.
pub x12_acknowledge_agreed : (κs : _) (a : _) (r : _) (s : _) → x12_acknowledge.Post κs a r s
    → (κs' : _) (a' : _) (r' : _) (s' : _) → x12_acknowledge_interchange.Post κs' a' r' s' → a'.0.now ≡ a.0.now
    → Agreed a.0.now a'.1.0.now (call_of a.1.1.0 a.1.1.1.0 a.1.1.1.1.0)
    (call_of a'.1.1.0 a'.1.1.1.0 a'.1.1.1.1.0)
    (record { number = r; size = s.1.1.1.1.1.0.now; buffer = s.1.0.now })
    (record { number = r'; size = s'.1.1.1.1.1.0.now; buffer = s'.1.0.now })
x12_acknowledge_agreed κs a r s p κs' a' r' s' q same_bytes =
    agreed a.0.now a.1.0.now a'.1.0.now (call_of a.1.1.0 a.1.1.1.0 a.1.1.1.1.0)
    (call_of a'.1.1.0 a'.1.1.1.0 a'.1.1.1.1.0) _ _ p
    (q
    ∙ ap (λ (i : Bytes). called (interchange_acknowledgment i (call_of a'.1.1.0 a'.1.1.1.0 a'.1.1.1.1.0)) a'.1.0.now) same_bytes)
