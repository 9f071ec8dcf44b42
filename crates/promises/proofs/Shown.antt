-- The outcome of a call, whichever face it was made by: what each number says of the length and the buffer, and the examples of document 01.
use Rattle.std.specs.Prelude.{if◌then◌else◌}
use mathlib.Core.Path.{◌≡◌, refl, sym, ap, ◌∙◌}
use mathlib.Core.Bool.{Bool, true, false, ◌&&◌, not}
use mathlib.Core.List.{◌++◌}
use Prim.Native.Nat.{ℕ, ◌≤◌, ◌<◌}
use native.Mathlib.Omega.{arith}
use borrow.Author.Tests.{not-true, eq-eqb, ne_eqb, eqb-true, eqb-false, leb-true, le-leb, lt-leb}
use lib.Dec.{leb, eqb}
use lib.ListN.{length, drop, get_or}
use Rattle.rules.specs.Base.{Bytes, same}
use Rattle.rules.specs.Refusals.{refusal}
use Rattle.rules.specs.Response.{response}
use Rattle.rules.specs.InterchangeAcknowledgment.{interchange_refusal}
use Rattle.rules.specs.Answers.{Reply, functional_acknowledgment, interchange_acknowledgment, Outcome, answer, called}
use Rattle.rules.proofs.Logic.{and_left, and_right, all_at, same→eq}
use Rattle.rules.proofs.Exchange.{received, sent, sample_call, not_refused, responds, received_two, sent_two, two_not_refused, two_respond, Faulty, faulty, received_of, refusal_of, is_refused, all_refused}
use Rattle.rules.proofs.Marked.{Marked, marked, received_for, sent_for}
use Rattle.rules.proofs.Tempting.{Group, groups, received_in, sent_in}
use Rattle.rules.proofs.Marked as single
use Rattle.rules.proofs.Tempting as whole
use Rattle.rules.proofs.Caret.{Repeated, repeated, received_under, sent_under, Barred, barred, received_with, barred_by, formerly, is_barred, all_barred}
use Rattle.rules.proofs.Caret as caret
use Rattle.rules.proofs.Envelopes.{Row, envelopes, received_as, sent_as}
use Rattle.rules.proofs.Envelopes as ta1

-- the outcome of a call that puts this text at the start of the buffer: every byte after it is as lent
abbrev pub holding : Bytes → Bytes → Outcome
holding text lent = record { number = 0; size = length text; buffer = text ++ drop (length text) lent }

module _ (reply : Reply) (lent : Bytes) where
  -- 1. A refusal gives its number and the length 0, and every byte of the buffer is as lent. Shut out: a refusal that is none of the law's, one that
  -- writes, one of a later number.
  pub refused : (reply.refusal ≡ 0 → ⊥) → called reply lent ≡ record { number = reply.refusal; size = 0; buffer = lent }
  unfolding called answer
  refused h = rw (ne_eqb reply.refusal 0 h)

  -- 2. Without one the response stands at the start of the buffer, with its length, and every byte after it is as lent. Shut out: a program
  -- that clears the buffer, or that answers a length without the bytes.
  pub answered : reply.refusal ≡ 0 → length reply.response ≤ length lent → called reply lent ≡ holding reply.response lent
  unfolding called answer
  answered e fits = rw (e, le-leb (length reply.response) (length lent) fits)

  -- Where it does not fit, the number is 14, the length the one that is needed, and the buffer as lent. Shut out: a program that writes the
  -- start of a response, or that does not say how much room it needs.
  pub too_long : reply.refusal ≡ 0 → length lent < length reply.response
      → called reply lent ≡ record { number = 14; size = length reply.response; buffer = lent }
  unfolding called answer
  too_long e h = rw (e, lt-leb (length reply.response) (length lent) h)

  -- 3. A number other than 0 leaves the buffer as lent. Shut out: a program that writes first and finds the fault afterwards.
  pub untouched : ((called reply lent).number ≡ 0 → ⊥) → (called reply lent).buffer ≡ lent
  unfolding called answer
  untouched h = go (eqb reply.refusal 0) refl (leb (length reply.response) (length lent)) refl
    where
      go : (b : Bool) → eqb reply.refusal 0 ≡ b → (c : Bool) → leb (length reply.response) (length lent) ≡ c → (called reply lent).buffer ≡ lent
      go true q true k = absurd (h (rw (q, k)))
      go true q false k = rw (q, k)
      go false q c k = rw q

  -- The number 0 is given without a refusal, to a response that fits, and not otherwise. Shut out: a program that takes what must be refused.
  pub written : (called reply lent).number ≡ 0 → (reply.refusal ≡ 0) × (length reply.response ≤ length lent)
  unfolding called answer
  written h = go (eqb reply.refusal 0) refl (leb (length reply.response) (length lent)) refl
    where
      go : (b : Bool) → eqb reply.refusal 0 ≡ b → (c : Bool) → leb (length reply.response) (length lent) ≡ c
          → (reply.refusal ≡ 0) × (length reply.response ≤ length lent)
      go true q true k = (eqb-true reply.refusal 0 q, leb-true (length reply.response) (length lent) k)
      go true q false k = absurd (omega (arith, rw (q, k) at h))
      go false q c k = absurd (eqb-false reply.refusal 0 q (rw q at h))

-- 4. Examples: a call on an interchange whose response is known. All of it stands in the buffer, and nothing else is written.
held : (reply : Reply) (text lent : Bytes) → reply.refusal ≡ 0 → reply.response ≡ text → length text ≤ length lent
    → called reply lent ≡ holding text lent
held reply text lent e t room = answered reply lent e (rw t room) ∙ ap (λ (r : Bytes). holding r lent) t

-- a test that an interchange is not refused, and that its response is this text
held_by : (reply : Reply) (text lent : Bytes) → eqb reply.refusal 0 && same reply.response text ≡ true → length text ≤ length lent
    → called reply lent ≡ holding text lent
held_by reply text lent h room =
    let clear = eqb reply.refusal 0 in
    let right = same reply.response text in
    held reply text lent (eqb-true reply.refusal 0 (and_left clear right h)) (same→eq reply.response text (and_right clear right h)) room

-- P1 to P12, row k of their table: its whole response stands at the start of the buffer. Shut out: a program that draws one of these lines
-- elsewhere, and one that writes the right block into a response with a wrong verdict, count or envelope.
pub marked_shown : (m : Marked) (k : ℕ) → k < length marked → (lent : Bytes) → length (sent_for (get_or marked k m)) ≤ length lent
    → called (functional_acknowledgment (received_for (get_or marked k m)) sample_call) lent ≡ holding (sent_for (get_or marked k m)) lent
unfolding single.is_right
marked_shown m k h lent room =
    let row = get_or marked k m in
    held_by (functional_acknowledgment (received_for row) sample_call) (sent_for row) lent (all_at single.is_right marked m k single.all_marked h) room

-- What is tempting and wrong, and the verdicts of a group, row k of their table. Shut out: the four programs that 01 names so.
pub groups_shown : (g : Group) (k : ℕ) → k < length groups → (lent : Bytes) → length (sent_in (get_or groups k g)) ≤ length lent
    → called (functional_acknowledgment (received_in (get_or groups k g)) sample_call) lent ≡ holding (sent_in (get_or groups k g)) lent
unfolding whole.is_right
groups_shown g k h lent room =
    let row = get_or groups k g in
    held_by (functional_acknowledgment (received_in row) sample_call) (sent_in row) lent (all_at whole.is_right groups g k whole.all_right h) room

-- The printed exchange, on any buffer. Shut out: a program that knows it by the buffer's length.
pub exchange_shown : (lent : Bytes) → length sent ≤ length lent → called (functional_acknowledgment received sample_call) lent ≡ holding sent lent
exchange_shown lent room = held (functional_acknowledgment received sample_call) sent lent not_refused responds room

-- Shut out: a program that writes what fits of it.
pub exchange_too_long : (lent : Bytes) → length lent < length sent
    → called (functional_acknowledgment received sample_call) lent ≡ record { number = 14; size = length sent; buffer = lent }
exchange_too_long lent h = too_long (functional_acknowledgment received sample_call) lent not_refused (rw responds h) ∙ rw responds

-- Two groups, on any buffer: the whole response. Shut out: a program that answers the first group alone, or in an envelope each.
pub two_shown : (lent : Bytes) → length sent_two ≤ length lent → called (functional_acknowledgment received_two sample_call) lent ≡ holding sent_two lent
two_shown lent room = held (functional_acknowledgment received_two sample_call) sent_two lent two_not_refused two_respond room

-- a test that an interchange is refused with this number
refused_by : (reply : Reply) (n : ℕ) (lent : Bytes) → not (eqb n 0) && eqb reply.refusal n ≡ true
    → called reply lent ≡ record { number = n; size = 0; buffer = lent }
refused_by reply n lent h =
    let some = not (eqb n 0) in
    let by = eqb reply.refusal n in
    let number = eqb-true reply.refusal n (and_right some by h) in
    refused reply lent (λ z. eqb-false n 0 (not-true (eqb n 0) (and_left some by h)) (sym number ∙ z)) ∙ rw number

-- Faulty interchanges, row k of their table: each is refused with its number. Shut out: a program that skips a group, or that checks them in another
-- order.
pub faulty_shown : (f : Faulty) (k : ℕ) → k < length faulty → (lent : Bytes)
    → called (functional_acknowledgment (received_of (get_or faulty k f)) sample_call) lent
    ≡ record { number = refusal_of (get_or faulty k f); size = 0; buffer = lent }
unfolding is_refused
faulty_shown f k h lent =
    let row = get_or faulty k f in
    refused_by (functional_acknowledgment (received_of row) sample_call) (refusal_of row) lent (all_at is_refused faulty f k all_refused h)

-- Elements with a repetition separator, row k of their table. Shut out: a program that finds 12 elsewhere, shows such a value, or takes ISA12 for another
-- version.
pub repeated_shown : (r : Repeated) (k : ℕ) → k < length repeated → (lent : Bytes) → length (sent_under (get_or repeated k r)) ≤ length lent
    → called (functional_acknowledgment (received_under (get_or repeated k r)) sample_call) lent ≡ holding (sent_under (get_or repeated k r)) lent
unfolding caret.is_right
repeated_shown r k h lent room =
    let row = get_or repeated k r in
    held_by (functional_acknowledgment (received_under row) sample_call) (sent_under row) lent (all_at caret.is_right repeated r k caret.all_repeated h) room

-- Separators that are refused, row k of their table.
module _ (b : Barred) (k : ℕ) (h : k < length barred) where
  abbrev barring : Barred
  barring = get_or barred k b

  abbrev separating : Bytes
  separating = received_with "00601" barring

  abbrev beside : Bytes
  beside = received_with "00401" barring

  -- its tests: the refusal with ISA12 00601, that for a TA1, and the refusal with 00401
  barred_tests : (not (eqb (barred_by barring) 0) && eqb (refusal separating sample_call) (barred_by barring) ≡ true)
      × (interchange_refusal separating sample_call ≡ (if leb (barred_by barring) 5 then barred_by barring else 0))
      × (refusal beside sample_call ≡ formerly barring)
  unfolding is_barred
  barred_tests =
      let n = barred_by barring in
      let early = if leb n 5 then n else 0 in
      let by = not (eqb n 0) && eqb (refusal separating sample_call) n in
      let ta1 = eqb (interchange_refusal separating sample_call) early in
      let former = eqb (refusal beside sample_call) (formerly barring) in
      let all = all_at is_barred barred b k all_barred h in (
        and_left by ta1 (and_left (by && ta1) former all),
        eqb-true (interchange_refusal separating sample_call) early (and_right by ta1 (and_left (by && ta1) former all)),
        eqb-true (refusal beside sample_call) (formerly barring) (and_right (by && ta1) former all),
      )

  -- With ISA12 00601. Shut out: a program that takes a letter or a delimiter for a separator, or lets one into a name.
  pub barred_shown : (lent : Bytes)
      → called (functional_acknowledgment separating sample_call) lent ≡ record { number = barred_by barring; size = 0; buffer = lent }
  barred_shown lent = refused_by (functional_acknowledgment separating sample_call) (barred_by barring) lent barred_tests.0

  -- The same for a TA1, where the number is 4 or 5. Shut out: a separator that the TA1 does not know.
  pub barred_ta1_shown : (lent : Bytes) → leb (barred_by barring) 5 ≡ true
      → called (interchange_acknowledgment separating sample_call) lent ≡ record { number = barred_by barring; size = 0; buffer = lent }
  barred_ta1_shown lent early =
      let n = barred_by barring in
      let some = and_left (not (eqb n 0)) (eqb (refusal separating sample_call) n) barred_tests.0 in
      let number : interchange_refusal separating sample_call ≡ n = barred_tests.1 ∙ rw early in
      refused_by (interchange_acknowledgment separating sample_call) n lent (rw (some, number) (eq-eqb n n refl))

  -- Beside it, with ISA12 00401, where ISA11 is text. Shut out: a program that knows a separator there.
  pub beside_refused : (lent : Bytes) → (formerly barring ≡ 0 → ⊥)
      → called (functional_acknowledgment beside sample_call) lent ≡ record { number = formerly barring; size = 0; buffer = lent }
  beside_refused lent some =
      let number = barred_tests.2 in
      refused (functional_acknowledgment beside sample_call) lent (λ z. some (sym number ∙ z)) ∙ rw number

  pub beside_shown : (lent : Bytes) → formerly barring ≡ 0 → length (response beside sample_call) ≤ length lent
      → called (functional_acknowledgment beside sample_call) lent ≡ holding (response beside sample_call) lent
  beside_shown lent none room = answered (functional_acknowledgment beside sample_call) lent (barred_tests.2 ∙ none) room

-- The envelopes of change requests 3 and 6, row k of their table. Shut out: a program that draws one of these lines elsewhere.
pub envelopes_shown : (e : Row) (k : ℕ) → k < length envelopes → (lent : Bytes) → length (sent_as (get_or envelopes k e)) ≤ length lent
    → called (interchange_acknowledgment (received_as (get_or envelopes k e)) sample_call) lent ≡ holding (sent_as (get_or envelopes k e)) lent
unfolding ta1.is_right
envelopes_shown e k h lent room =
    let row = get_or envelopes k e in
    held_by (interchange_acknowledgment (received_as row) sample_call) (sent_as row) lent (all_at ta1.is_right envelopes e k ta1.all_right h) room
