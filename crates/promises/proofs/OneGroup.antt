-- An interchange with one group is answered as it was before several groups were taken. More than that: only a batch, which passes check 7
-- with two groups or more, is answered otherwise, and it was refused with 7, or rejected with 022 by TA1.
use mathlib.Core.Path.{◌≡◌, ◌∙◌}
use mathlib.Core.Bool.{true, false}
use mathlib.Core.Logic.{◌⊎◌, inl, inr}
use Rattle.rules.specs.Base.{Bytes}
use Rattle.rules.specs.InterchangeAcknowledgment.{verdict_by, interchange_verdict}
use Rattle.rules.specs.Answers.{functional_acknowledgment, interchange_acknowledgment, Outcome, outcome, called}
use Rattle.rules.specs.declared.Call.{Call}
use Rattle.rules.proofs.OneGroup.{is_batch, former_refusal, former_acknowledgment, former_verdict, former_interchange_acknowledgment, AsBefore, as_before, batch_before, same_verdict, batch_verdict, by_verdict}
use Rattle.promises.proofs.Demands.{calls}
use Rattle.promises.proofs.Agreement as agreement
use Rattle.promises.proofs.Spoiling.{call_of}
use Rattle.acknowledgment.proofs.acknowledge.Reads as acknowledge
use Rattle.interchange_acknowledgment.proofs.acknowledge_interchange.Reads as acknowledge_interchange
use Rattle.x12.proofs.x12_acknowledge.Reads as x12_acknowledge
use Rattle.x12.proofs.x12_acknowledge_interchange.Reads as x12_acknowledge_interchange

-- what holds of the outcome o of a call for a 997
pub record Unchanged (i lent : Bytes) (call : Call) (o : Outcome) : Type 0 where
  -- where it is no batch it is the outcome of the former law: shut out is a program that answers one group otherwise, or that refuses no group, more
  -- than 16, GE twice or a segment between groups with another number than 7
  pub same : is_batch i ≡ false → o ≡ called (former_acknowledgment i call) lent
  -- a batch had that outcome too, or was refused with 7: shut out is a program that takes a batch which 1 to 6 refuse
  pub batch : is_batch i ≡ true → (o ≡ called (former_acknowledgment i call) lent) ⊎ (former_refusal i call ≡ 7)

unchanged : (i lent : Bytes) (call : Call) {o : Outcome} → o ≡ called (functional_acknowledgment i call) lent → Unchanged i lent call o
unchanged i lent call {o} p = record { same = λ b. p ∙ as_before i call lent b; batch = λ b. go (batch_before i call lent b) }
  where
    go : AsBefore i call lent ⊎ (former_refusal i call ≡ 7) → (o ≡ called (former_acknowledgment i call) lent) ⊎ (former_refusal i call ≡ 7)
    go (inl e) = inl (p ∙ e)
    go (inr e) = inr e

-- All of it holds of the Rattle function,
pub acknowledge_unchanged : (κs : _) (a : _) (r : _) (s : _) → acknowledge.Post κs a r s
    → Unchanged a.0.now a.1.0.now a.1.1.0 (outcome r s.1.0.now)
acknowledge_unchanged κs a r s p = unchanged a.0.now a.1.0.now a.1.1.0 (calls κs a r s p)

-- and of the face for C.
pub x12_acknowledge_unchanged : (κs : _) (a : _) (r : _) (s : _) → x12_acknowledge.Post κs a r s
    → Unchanged a.0.now a.1.0.now (call_of a.1.1.0 a.1.1.1.0 a.1.1.1.1.0)
    (record { number = r; size = s.1.1.1.1.1.0.now; buffer = s.1.0.now })
x12_acknowledge_unchanged κs a r s p = unchanged a.0.now a.1.0.now (call_of a.1.1.0 a.1.1.1.0 a.1.1.1.1.0) p

-- what holds of the outcome o of a call for a TA1
pub record UnchangedTA1 (i lent : Bytes) (call : Call) (o : Outcome) : Type 0 where
  -- where it is no batch it is the outcome of the former law: shut out is a program whose verdict is another on one group, or on groups that check 7
  -- refuses
  pub same : is_batch i ≡ false → o ≡ called (former_interchange_acknowledgment i call) lent
  -- a batch had that outcome too, or was rejected with 022: shut out is a program that accepts a batch which does not end in a terminator
  pub batch : is_batch i ≡ true → (o ≡ called (former_interchange_acknowledgment i call) lent) ⊎ (former_verdict i ≡ verdict_by 22)

unchanged_ta1 : (i lent : Bytes) (call : Call) {o : Outcome} → o ≡ called (interchange_acknowledgment i call) lent → UnchangedTA1 i lent call o
unchanged_ta1 i lent call {o} p = record { same = λ b. p ∙ by_verdict i call lent (same_verdict i b); batch = λ b. go (batch_verdict i b) }
  where
    go : (interchange_verdict i ≡ former_verdict i) ⊎ (former_verdict i ≡ verdict_by 22)
        → (o ≡ called (former_interchange_acknowledgment i call) lent) ⊎ (former_verdict i ≡ verdict_by 22)
    go (inl e) = inl (p ∙ by_verdict i call lent e)
    go (inr e) = inr e

-- All of it holds of the Rattle function,
pub acknowledge_interchange_unchanged : (κs : _) (a : _) (r : _) (s : _) → acknowledge_interchange.Post κs a r s
    → UnchangedTA1 a.0.now a.1.0.now a.1.1.0 (outcome r s.1.0.now)
acknowledge_interchange_unchanged κs a r s p = unchanged_ta1 a.0.now a.1.0.now a.1.1.0 (agreement.calls κs a r s p)

-- and of the face for C.
pub x12_acknowledge_interchange_unchanged : (κs : _) (a : _) (r : _) (s : _) → x12_acknowledge_interchange.Post κs a r s
    → UnchangedTA1 a.0.now a.1.0.now (call_of a.1.1.0 a.1.1.1.0 a.1.1.1.1.0)
    (record { number = r; size = s.1.1.1.1.1.0.now; buffer = s.1.0.now })
x12_acknowledge_interchange_unchanged κs a r s p = unchanged_ta1 a.0.now a.1.0.now (call_of a.1.1.0 a.1.1.1.0 a.1.1.1.1.0) p
