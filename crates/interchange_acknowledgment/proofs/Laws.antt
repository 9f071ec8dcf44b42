-- The answer of the checks, the note code of a check of the envelope, and the response as it is written.
use Rattle.std.specs.Prelude.{Ok, Err}
use Prim.Native.Nat.{ℕ, ◌≤◌, ◌<◌}
use mathlib.Core.Path.{◌≡◌, sym, ◌∙◌}
use mathlib.Core.Bool.{true, false}
use mathlib.Core.List.{◌++◌, append-nil, append_assoc}
use native.Mathlib.Omega.{arith}
use lib.ListN.{length}
use Rattle.rules.specs.Base.{Bytes, first}
use Rattle.rules.specs.Cutting.{delimiters, isa}
use Rattle.rules.specs.Response.{segment_out, out, isa_out, iea_out}
use Rattle.rules.specs.InterchangeAcknowledgment.{note_code_rules, verdict_by, interchange_verdict, asks_for_ta1, interchange_refusal, ta1, interchange_respond, interchange_response}
use Rattle.rules.specs.Answers.{interchange_acknowledgment, Allowed}
use Rattle.rules.specs.declared.Call.{Call}
use Rattle.rules.specs.Refused.{refused}
use Rattle.rules.specs.declared.Refusal.{Refusal}
use Rattle.rules.specs.declared.Refusal.TheVariants.{TooLong, NotAsked}
use Rattle.rules.specs.declared.Delimiters.{Delimiters}
use Rattle.rules.proofs.Facts.{response_allowed, refusal_allowed}
use Rattle.rules.proofs.InterchangeAcknowledgment.{response_long, opened, unopened, long_enough}
use Rattle.refusals.specs.Checks.{head_checked, check_by, envelope_check}
use Rattle.refusals.proofs.Laws.{head_sound, head_refused, check_by_lem}
use Rattle.writing.specs.Over.{From}
use Rattle.writing.proofs.Laws.{seq, said, whole}
use Rattle.writing.proofs.Delivered as delivered

module _ (i : Bytes) (call : Call) where
  -- 1. The refusals.
  -- 1 to 5
  pub head_refuses : {e : Refusal} (lent : Bytes) → head_checked i call ≡ Err e → Allowed (interchange_acknowledgment i call) lent (Err e) lent
  head_refuses lent p =
      let due = head_refused i call p in
      rw due.0 (refusal_allowed (interchange_acknowledgment i call) lent (sym (unopened i call due.1)) due.1)

  module _ {d : Delimiters} (e : head_checked i call ≡ Ok d) where
    -- 15
    pub unasked : (lent : Bytes) → asks_for_ta1 i ≡ false → Allowed (interchange_acknowledgment i call) lent (Err NotAsked) lent
    unfolding refused
    unasked lent q =
        refusal_allowed (interchange_acknowledgment i call) lent {n = 15} (sym (opened i call (head_sound i call e).0 ∙ rw q)) (λ z. omega arith)

    -- none
    pub asked : asks_for_ta1 i ≡ true → (interchange_refusal i call ≡ 0) × (d ≡ delimiters i)
    asked q = (opened i call (head_sound i call e).0 ∙ rw q, (head_sound i call e).1)

  -- 2. The response, where there is none.
  module _ (clear : interchange_refusal i call ≡ 0) where
    abbrev text : Bytes
    text = interchange_response i call

    measured : length text ≡ 154
    measured = response_long i call (long_enough i call clear)

    pub too_long : (lent : Bytes) → length lent < 154 → Allowed (interchange_acknowledgment i call) lent (Err (TooLong 154)) lent
    too_long lent h =
        response_allowed (interchange_acknowledgment i call) lent clear
        (delivered.too_long lent text (omega (arith, measured)) (omega (arith, measured)) h)

    module _ {d : Delimiters} (cut : d ≡ delimiters i) {note : ℕ} (noted : note ≡ check_by 23 22 22 1 21 (envelope_check d i)) where
      note_is : note ≡ first (note_code_rules i)
      unfolding note_code_rules
      note_is = noted ∙ rw cut (check_by_lem (delimiters i) i 23 22 22 1 21)

      in_parts : text ≡ (segment_out d (isa_out d (isa i) call) ++ segment_out d (ta1 (isa i) (verdict_by note))) ++ segment_out d (iea_out 0 call.control)
      unfolding interchange_response interchange_respond interchange_verdict out
      in_parts = rw (cut, note_is) (simp (append_assoc, append-nil))

      pub written : {lent o₁ o₂ left : Bytes} {n m r : ℕ} → 154 ≤ length lent
          → From 0 (segment_out d (isa_out d (isa i) call)) n lent o₁
          → From n (segment_out d (ta1 (isa i) (verdict_by note))) m o₁ o₂
          → From m (segment_out d (iea_out 0 call.control)) r o₂ left
          → Allowed (interchange_acknowledgment i call) lent (Ok r) left
      written {lent} h a b c =
          response_allowed (interchange_acknowledgment i call) lent clear
          (delivered.written lent text (omega (arith, measured)) (omega (arith, measured)) h (whole (said in_parts (seq (seq a b) c))))
