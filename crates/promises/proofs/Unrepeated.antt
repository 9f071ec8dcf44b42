-- Where ISA11 is no delimiter, an interchange is answered as it was before ISA11 could be one.
use Rattle.std.specs.Prelude.{None}
use mathlib.Core.Path.{◌≡◌, ◌∙◌}
use mathlib.Core.Bool.{false}
use Prim.Native.Nat.{◌<◌}
use lib.ListN.{get_or}
use Rattle.rules.specs.Base.{Bytes}
use Rattle.rules.specs.Numbers.{digits, value}
use Rattle.rules.specs.Cutting.{field, isa, repetition_in}
use Rattle.rules.specs.Answers.{Outcome, outcome, called}
use Rattle.rules.proofs.Unrepeated.{former_acknowledgment, former_interchange_acknowledgment, as_before, interchange_as_before, unused_u, unused_not_digits, unused_early}
use Rattle.promises.proofs.Demands.{calls}
use Rattle.promises.proofs.Agreement as agreement
use Rattle.promises.proofs.Spoiling.{call_of}
use Rattle.acknowledgment.proofs.acknowledge.Reads as acknowledge
use Rattle.interchange_acknowledgment.proofs.acknowledge_interchange.Reads as acknowledge_interchange
use Rattle.x12.proofs.x12_acknowledge.Reads as x12_acknowledge
use Rattle.x12.proofs.x12_acknowledge_interchange.Reads as x12_acknowledge_interchange

-- the outcome o of a call on the interchange i is the former one: number, length and every byte of the buffer
pub record Unchanged (i : Bytes) (o former : Outcome) : Type 0 where
  -- where ISA11, byte 82, is `U`: shut out is a program that cuts at `U`
  pub by_u : get_or i 82 0 ≡ 85 → o ≡ former
  -- where ISA12 is not five digits: shut out is a program that reads a version out of other bytes
  pub by_not_digits : digits 5 5 (field (isa i) 12) ≡ false → o ≡ former
  -- where its value is below 402: shut out are code 12, another echo, and a fourth delimiter under refusal 4 in an interchange of 00401
  pub by_version : value (field (isa i) 12) < 402 → o ≡ former

unchanged : (i : Bytes) {o former : Outcome} → (repetition_in i ≡ None → o ≡ former) → Unchanged i o former
unchanged i same = record {
  by_u = λ e. same (unused_u i e);
  by_not_digits = λ e. same (unused_not_digits i e);
  by_version = λ h. same (unused_early i h);
}

-- All of it holds of the Rattle function for a 997,
pub acknowledge_unchanged : (κs : _) (a : _) (r : _) (s : _) → acknowledge.Post κs a r s
    → Unchanged a.0.now (outcome r s.1.0.now) (called (former_acknowledgment a.0.now a.1.1.0) a.1.0.now)
acknowledge_unchanged κs a r s p =
    unchanged a.0.now (λ e. calls κs a r s p ∙ as_before a.0.now e a.1.1.0 a.1.0.now)

-- of its face for C,
pub x12_acknowledge_unchanged : (κs : _) (a : _) (r : _) (s : _) → x12_acknowledge.Post κs a r s
    → Unchanged a.0.now (record { number = r; size = s.1.1.1.1.1.0.now; buffer = s.1.0.now })
    (called (former_acknowledgment a.0.now (call_of a.1.1.0 a.1.1.1.0 a.1.1.1.1.0)) a.1.0.now)
x12_acknowledge_unchanged κs a r s p =
    unchanged a.0.now
    (λ e. p ∙ as_before a.0.now e (call_of a.1.1.0 a.1.1.1.0 a.1.1.1.1.0) a.1.0.now)

-- of the Rattle function for a TA1,
pub acknowledge_interchange_unchanged : (κs : _) (a : _) (r : _) (s : _) → acknowledge_interchange.Post κs a r s
    → Unchanged a.0.now (outcome r s.1.0.now) (called (former_interchange_acknowledgment a.0.now a.1.1.0) a.1.0.now)
acknowledge_interchange_unchanged κs a r s p =
    unchanged a.0.now (λ e. agreement.calls κs a r s p ∙ interchange_as_before a.0.now e a.1.1.0 a.1.0.now)

-- and of its face for C.
pub x12_acknowledge_interchange_unchanged : (κs : _) (a : _) (r : _) (s : _) → x12_acknowledge_interchange.Post κs a r s
    → Unchanged a.0.now (record { number = r; size = s.1.1.1.1.1.0.now; buffer = s.1.0.now })
    (called (former_interchange_acknowledgment a.0.now (call_of a.1.1.0 a.1.1.1.0 a.1.1.1.1.0)) a.1.0.now)
x12_acknowledge_interchange_unchanged κs a r s p =
    unchanged a.0.now
    (λ e. p ∙ interchange_as_before a.0.now e (call_of a.1.1.0 a.1.1.1.0 a.1.1.1.1.0) a.1.0.now)
