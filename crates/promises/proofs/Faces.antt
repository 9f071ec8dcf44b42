-- What holds of every outcome of a call, by the Rattle function and by the face for C: read off the contracts of both.
use Rattle.std.specs.Prelude.{Some}
use mathlib.Core.Path.{◌≡◌, sym, ap, ◌∙◌}
use mathlib.Core.Bool.{true}
use mathlib.Core.List.{◌++◌}
use Prim.Native.Nat.{ℕ, ◌≤◌, ◌<◌}
use lib.ListN.{length, drop, get_or}
use Rattle.rules.specs.Base.{Bytes, all}
use Rattle.rules.specs.Cutting.{repetition_in, delimiters}
use Rattle.rules.specs.Sets.{Set, SetReport}
use Rattle.rules.specs.Groups.{Group}
use Rattle.rules.specs.Refusals.{refusal}
use Rattle.rules.specs.Response.{out, respond, response}
use Rattle.rules.specs.Answers.{Reply, functional_acknowledgment, Outcome, outcome, called}
use Rattle.rules.specs.Damage.{groups_in}
use Rattle.rules.specs.declared.Call.{Call}
use Rattle.rules.proofs.Logic.{Each}
use Rattle.rules.proofs.Sent.{Without, separator_unadmitted}
use Rattle.rules.proofs.Exchange.{received, sent, sample_call, received_two, sent_two, Faulty, faulty, received_of, refusal_of}
use Rattle.rules.proofs.Caret.{Repeated, repeated, received_under, sent_under, Barred, barred, received_with, barred_by, formerly}
use Rattle.rules.proofs.Marked.{Marked, marked, received_for, sent_for}
use Rattle.rules.proofs.Tempting.{Group as Tempted, groups, received_in, sent_in}
use Rattle.rules.proofs.Unused.{is_spared, respond_spared}
use Rattle.promises.proofs.Trailing.{is_trim, response_trim}
use Rattle.promises.proofs.Shown as shown
use Rattle.promises.proofs.Shown.{holding}
use Rattle.promises.proofs.Demands.{calls}
use Rattle.promises.proofs.Spoiling.{call_of}
use Rattle.promises.proofs.Accepted as accepted
use Rattle.promises.proofs.Accepted.{sets_at, Tells, Counts, tells}
use Rattle.promises.proofs.Dated.{Dated, answered_dated}
use Rattle.acknowledgment.proofs.acknowledge.Reads as acknowledge
use Rattle.x12.proofs.x12_acknowledge.Reads as x12_acknowledge

-- what the law promises of the outcome o of a call on the interchange i and the buffer lent
pub record Promised (i lent : Bytes) (call : Call) (o : Outcome) : Type 0 where
  -- a refusal gives its number and the length 0, and every byte of the buffer is as lent: shut out are a refusal that is none of 01's, and one
  -- that writes
  pub refused : (refusal i call ≡ 0 → ⊥) → o ≡ record { number = refusal i call; size = 0; buffer = lent }
  -- without one the response stands at the start of the buffer, with its length, and every byte after it is as lent: shut out are refusing
  -- everything, doing nothing, and one fixed 997
  pub answered : refusal i call ≡ 0 → length (response i call) ≤ length lent → o ≡ holding (response i call) lent
  -- where it does not fit, the number is 14, the length the one that is needed, and the buffer as lent: shut out is a program that writes what
  -- fits
  pub too_long : refusal i call ≡ 0 → length lent < length (response i call)
      → o ≡ record { number = 14; size = length (response i call); buffer = lent }
  -- a number other than 0 leaves the buffer as lent: shut out is a program that writes first and finds the fault afterwards
  pub untouched : (o.number ≡ 0 → ⊥) → o.buffer ≡ lent
  -- an answer is the segments of the law, in bytes, and then what was lent: shut out is a segment too few, too many or at another place
  pub segments : o.number ≡ 0 → o.buffer ≡ out (delimiters i) (respond i (groups_in i) call) ++ drop (length (response i call)) lent
  -- none of them ends with an empty element: shut out is a writer that leaves separators at an end
  pub trim : o.number ≡ 0 → all is_trim (respond i (groups_in i) call) ≡ true
  -- none of them is an AK4 with the code 9 or 10: shut out is a program that tells of a bad date by 9
  pub unused : o.number ≡ 0 → all is_spared (respond i (groups_in i) call) ≡ true
  -- an answer has the block of set k of group m in its place; its AK5 says A exactly when the set is sound, and its AK4 show of the elements that they name
  -- what they may, by place and then by code: shut out are "accepted" for all, the first set's verdict for each, a test left out, an echo that is cut at
  -- 98 or 100, one under code 6 or 12, one without its minus, one of the element beside it, and a repeated element that is accepted
  pub sets : o.number ≡ 0 → (m : ℕ) (w : Group) → m < length (groups_in i)
      → (k : ℕ) (x : Set) (y : SetReport) → k < length (sets_at i m w) → Tells i lent call m w k x y o.buffer
  -- an answer has a 997 for group m, the one with the number m + 1, and says in its AK903 how many ST segments the group has: shut out are AK903 from
  -- thin air, and a count that runs on through the groups
  pub counts : o.number ≡ 0 → (m : ℕ) (w : Group) → m < length (groups_in i) → Counts i lent call m w o.buffer
  -- an answer is given only where the caller's date, each GS04, and the B103 of accepted sets are days of the calendar: shut out is a program that takes
  -- 20230230
  pub dated : o.number ≡ 0 → Dated i call
  -- an answer is given only where the repetition separator stands in no text of a GS and in no ST02 of any group: shut out is a program that looks at
  -- those of the first group only
  pub separated : o.number ≡ 0 → (b : ℕ) → repetition_in i ≡ Some b → Each (Without b) (groups_in i)
  -- P1 to P12: row k of their table is answered, and its whole response stands at the start of the buffer: shut out is a program that draws one
  -- of these lines elsewhere
  pub marked : (m : Marked) (k : ℕ) → k < length marked → i ≡ received_for (get_or marked k m) → call ≡ sample_call
      → length (sent_for (get_or marked k m)) ≤ length lent → o ≡ holding (sent_for (get_or marked k m)) lent
  -- what is tempting and wrong, and the verdicts of a group: shut out are the four programs that 01 names so
  pub groups : (g : Tempted) (k : ℕ) → k < length groups → i ≡ received_in (get_or groups k g) → call ≡ sample_call
      → length (sent_in (get_or groups k g)) ≤ length lent → o ≡ holding (sent_in (get_or groups k g)) lent
  -- the printed exchange, in a buffer that holds it and in one that does not: shut out is a program that knows it by the buffer's length
  pub exchange : i ≡ received → call ≡ sample_call → length sent ≤ length lent → o ≡ holding sent lent
  pub exchange_too_long : i ≡ received → call ≡ sample_call → length lent < length sent
      → o ≡ record { number = 14; size = length sent; buffer = lent }
  -- an interchange with two groups, and its whole response: shut out is a program that answers the first alone, or each in an envelope of its own
  pub two : i ≡ received_two → call ≡ sample_call → length sent_two ≤ length lent → o ≡ holding sent_two lent
  -- row k of the table of faulty interchanges is refused with the row's number: shut out is a program that skips a group, or that checks in another
  -- order
  pub faulty : (f : Faulty) (k : ℕ) → k < length faulty → i ≡ received_of (get_or faulty k f) → call ≡ sample_call
      → o ≡ record { number = refusal_of (get_or faulty k f); size = 0; buffer = lent }
  -- elements with a repetition separator, row k of their table: shut out is a program that finds 12 elsewhere or shows such a value
  pub repeated : (r : Repeated) (k : ℕ) → k < length repeated → i ≡ received_under (get_or repeated k r) → call ≡ sample_call
      → length (sent_under (get_or repeated k r)) ≤ length lent → o ≡ holding (sent_under (get_or repeated k r)) lent
  -- separators that are refused, row k of their table, with ISA12 00401, where ISA11 is text: shut out is a program that knows a separator there
  pub beside_refused : (b : Barred) (k : ℕ) → k < length barred → i ≡ received_with "00401" (get_or barred k b) → call ≡ sample_call
      → (formerly (get_or barred k b) ≡ 0 → ⊥) → o ≡ record { number = formerly (get_or barred k b); size = 0; buffer = lent }
  pub beside_answered : (b : Barred) (k : ℕ) → k < length barred → i ≡ received_with "00401" (get_or barred k b) → call ≡ sample_call
      → formerly (get_or barred k b) ≡ 0 → length (response i call) ≤ length lent → o ≡ holding (response i call) lent
  -- and with ISA12 00601: shut out is a program that takes a letter or a delimiter for one, or lets one into a name
  pub barred : (b : Barred) (k : ℕ) → k < length barred → i ≡ received_with "00601" (get_or barred k b) → call ≡ sample_call
      → o ≡ record { number = barred_by (get_or barred k b); size = 0; buffer = lent }

module _ (i lent : Bytes) (call : Call) (o : Outcome) (p : o ≡ called (functional_acknowledgment i call) lent) where
  -- the outcome of a call on what is known to be received
  onto : {j : Bytes} {c : Call} → i ≡ j → call ≡ c → o ≡ called (functional_acknowledgment j c) lent
  onto {j} e f =
      p ∙ ap (λ (i : Bytes). called (functional_acknowledgment i call) lent) e ∙ ap (λ (c : Call). called (functional_acknowledgment j c) lent) f

  abbrev reply : Reply
  reply = functional_acknowledgment i call

  -- the number 0 is given without a refusal, to a response that fits
  wrote : o.number ≡ 0 → (refusal i call ≡ 0) × (length (response i call) ≤ length lent)
  wrote e = shown.written reply lent (ap (λ (o : Outcome). o.number) (sym p) ∙ e)

  left_is : o.number ≡ 0 → o.buffer ≡ response i call ++ drop (length (response i call)) lent
  left_is e = ap (λ (o : Outcome). o.buffer) (p ∙ shown.answered reply lent (wrote e).0 (wrote e).1)

  written_out : o.number ≡ 0 → o.buffer ≡ out (delimiters i) (respond i (groups_in i) call) ++ drop (length (response i call)) lent
  unfolding response
  written_out = left_is

  promised : Promised i lent call o
  promised = record {
    refused = λ h. p ∙ shown.refused reply lent h;
    answered = λ e fits. p ∙ shown.answered reply lent e fits;
    too_long = λ e h. p ∙ shown.too_long reply lent e h;
    untouched = λ h. ap (λ (o : Outcome). o.buffer) p ∙ shown.untouched reply lent (λ e. h (ap (λ (o : Outcome). o.number) p ∙ e));
    segments = written_out;
    trim = λ e. response_trim i call (wrote e).0;
    unused = λ e. respond_spared i (groups_in i) call;
    sets = λ e m w among. tells i lent call o.buffer (left_is e) m w among;
    counts = λ e m w among. accepted.counts i lent call o.buffer (left_is e) m w among;
    dated = λ e. answered_dated i call (wrote e).0;
    separated = λ e. separator_unadmitted i call (wrote e).0;
    marked = λ m k h e f room. onto e f ∙ shown.marked_shown m k h lent room;
    groups = λ g k h e f room. onto e f ∙ shown.groups_shown g k h lent room;
    exchange = λ e f room. onto e f ∙ shown.exchange_shown lent room;
    exchange_too_long = λ e f h. onto e f ∙ shown.exchange_too_long lent h;
    two = λ e f room. onto e f ∙ shown.two_shown lent room;
    faulty = λ row k h e f. onto e f ∙ shown.faulty_shown row k h lent;
    repeated = λ row k h e f room. onto e f ∙ shown.repeated_shown row k h lent room;
    beside_refused = λ row k h e f some. onto e f ∙ shown.beside_refused row k h lent some;
    beside_answered = λ row k h e f none. rw (e, f) (λ room. onto e f ∙ shown.beside_shown row k h lent none room);
    barred = λ row k h e f. onto e f ∙ shown.barred_shown row k h lent;
  }

-- All of it holds of the Rattle function,
pub acknowledge_promised : (κs : _) (a : _) (r : _) (s : _) → acknowledge.Post κs a r s
    → Promised a.0.now a.1.0.now a.1.1.0 (outcome r s.1.0.now)
acknowledge_promised κs a r s p = promised a.0.now a.1.0.now a.1.1.0 (outcome r s.1.0.now) (calls κs a r s p)

-- and of the face for C. Shut out: a face that returns another number or stores another length.
pub x12_acknowledge_promised : (κs : _) (a : _) (r : _) (s : _) → x12_acknowledge.Post κs a r s
    → Promised a.0.now a.1.0.now (call_of a.1.1.0 a.1.1.1.0 a.1.1.1.1.0)
    (record { number = r; size = s.1.1.1.1.1.0.now; buffer = s.1.0.now })
x12_acknowledge_promised κs a r s p =
    promised a.0.now a.1.0.now (call_of a.1.1.0 a.1.1.1.0 a.1.1.1.1.0)
    (record { number = r; size = s.1.1.1.1.1.0.now; buffer = s.1.0.now }) p
