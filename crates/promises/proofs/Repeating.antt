-- What is sent by each of the four entries: valid bytes and three delimiters. The repetition separator of the interchange is none of them.
use Rattle.std.specs.Prelude.{Some}
use mathlib.Core.Path.{◌≡◌, sym, ap, ◌∙◌}
use mathlib.Core.Bool.{true}
use Prim.Native.Nat.{ℕ}
use lib.ListN.{take, drop, length}
use lib.Seq.{take-append_seam}
use Rattle.rules.specs.Base.{Bytes, all}
use Rattle.rules.specs.Cutting.{repetition_in, delimiters}
use Rattle.rules.specs.Answers.{Reply, functional_acknowledgment, interchange_acknowledgment, Outcome, outcome, called}
use Rattle.rules.specs.Damage.{free}
use Rattle.rules.specs.declared.Call.{Call}
use Rattle.rules.proofs.Sent.{is_sendable, sent_sendable, separator_unsent, sent_sendable_ta1, separator_unsent_ta1}
use Rattle.promises.proofs.Shown as shown
use Rattle.promises.proofs.Demands as demands
use Rattle.promises.proofs.Agreement as agreement
use Rattle.promises.proofs.Spoiling.{call_of}
use Rattle.acknowledgment.proofs.acknowledge.Reads as acknowledge
use Rattle.interchange_acknowledgment.proofs.acknowledge_interchange.Reads as acknowledge_interchange
use Rattle.x12.proofs.x12_acknowledge.Reads as x12_acknowledge
use Rattle.x12.proofs.x12_acknowledge_interchange.Reads as x12_acknowledge_interchange

-- what is sent: as many bytes of the buffer as the outcome says
abbrev pub sent_in : Outcome → Bytes
sent_in o = take o.size o.buffer

-- what holds of what is sent in answer to the interchange i
pub record Sends (i : Bytes) (o : Outcome) : Type 0 where
  -- each byte of it is valid or one of three delimiters: shut out is a control byte in an echo
  pub sendable : o.number ≡ 0 → all (is_sendable (delimiters i)) (sent_in o) ≡ true
  -- the repetition separator stands nowhere in it: shut out are an echo of a repeated element, and ISA11 given back as it came
  pub unsent : o.number ≡ 0 → (b : ℕ) → repetition_in i ≡ Some b → free b (sent_in o) ≡ true

module _ (reply : Reply) (lent : Bytes) (o : Outcome) (p : o ≡ called reply lent) (e : o.number ≡ 0) where
  -- without a refusal the response is sent
  unrefused : reply.refusal ≡ 0
  unrefused = (shown.written reply lent (ap (λ (o : Outcome). o.number) (sym p) ∙ e)).0

  sent : sent_in o ≡ reply.response
  sent =
      let w = shown.written reply lent (ap (λ (o : Outcome). o.number) (sym p) ∙ e) in
      ap sent_in (p ∙ shown.answered reply lent w.0 w.1) ∙ take-append_seam reply.response (drop (length reply.response) lent)

module _ (i lent : Bytes) (call : Call) (o : Outcome) where
  sends : o ≡ called (functional_acknowledgment i call) lent → Sends i o
  sends p =
      let reply = functional_acknowledgment i call in
      record {
        sendable = λ e. rw (sent reply lent o p e) (sent_sendable i call (unrefused reply lent o p e));
        unsent = λ e. rw (sent reply lent o p e) (separator_unsent i call (unrefused reply lent o p e));
      }

  sends_ta1 : o ≡ called (interchange_acknowledgment i call) lent → Sends i o
  sends_ta1 p =
      let reply = interchange_acknowledgment i call in
      record {
        sendable = λ e. rw (sent reply lent o p e) (sent_sendable_ta1 i call (unrefused reply lent o p e));
        unsent = λ e. rw (sent reply lent o p e) (separator_unsent_ta1 i call (unrefused reply lent o p e));
      }

-- It holds of the two Rattle functions,
pub acknowledge_sends : (κs : _) (a : _) (r : _) (s : _) → acknowledge.Post κs a r s → Sends a.0.now (outcome r s.1.0.now)
acknowledge_sends κs a r s p = sends a.0.now a.1.0.now a.1.1.0 (outcome r s.1.0.now) (demands.calls κs a r s p)

pub acknowledge_interchange_sends : (κs : _) (a : _) (r : _) (s : _) → acknowledge_interchange.Post κs a r s
    → Sends a.0.now (outcome r s.1.0.now)
acknowledge_interchange_sends κs a r s p =
    sends_ta1 a.0.now a.1.0.now a.1.1.0 (outcome r s.1.0.now) (agreement.calls κs a r s p)

-- and of the two functions for C. Shut out: a face that stores a length beyond the response.
pub x12_acknowledge_sends : (κs : _) (a : _) (r : _) (s : _) → x12_acknowledge.Post κs a r s
    → Sends a.0.now (record { number = r; size = s.1.1.1.1.1.0.now; buffer = s.1.0.now })
x12_acknowledge_sends κs a r s p =
    sends a.0.now a.1.0.now (call_of a.1.1.0 a.1.1.1.0 a.1.1.1.1.0)
    (record { number = r; size = s.1.1.1.1.1.0.now; buffer = s.1.0.now }) p

pub x12_acknowledge_interchange_sends : (κs : _) (a : _) (r : _) (s : _) → x12_acknowledge_interchange.Post κs a r s
    → Sends a.0.now (record { number = r; size = s.1.1.1.1.1.0.now; buffer = s.1.0.now })
x12_acknowledge_interchange_sends κs a r s p =
    sends_ta1 a.0.now a.1.0.now (call_of a.1.1.0 a.1.1.1.0 a.1.1.1.1.0)
    (record { number = r; size = s.1.1.1.1.1.0.now; buffer = s.1.0.now }) p
