-- What a repetition separator changes: an interchange that has one, beside the same with `U` in ISA11.
use Rattle.std.specs.Prelude.{Some}
use mathlib.Core.Path.{◌≡◌, refl, sym, ap, ◌∙◌}
use mathlib.Core.Bool.{true, false, ◌&&◌}
use mathlib.Core.List.{[], ◌++◌}
use Prim.Native.Nat.{ℕ, ◌≤◌}
use native.Mathlib.Omega.{arith}
use borrow.Author.Tests.{eqb-false}
use lib.Dec.{eqb}
use lib.ListN.{take, drop}
use Rattle.rules.specs.Base.{Bytes, first}
use Rattle.rules.specs.Cutting.{repetition_in, delimiters, marks}
use Rattle.rules.specs.Refusals.{plain, call_rules, head_rules, refusal}
use Rattle.rules.specs.InterchangeAcknowledgment.{interchange_refusal}
use Rattle.rules.specs.Answers.{Reply, functional_acknowledgment, interchange_acknowledgment, answer, Outcome, outcome, called}
use Rattle.rules.specs.Damage.{free}
use Rattle.rules.specs.declared.Call.{Call}
use Rattle.rules.proofs.Logic.{first_append_none}
use Rattle.rules.proofs.Facts.{first_of, refusal_blocks}
use Rattle.rules.proofs.InterchangeAcknowledgment.{same_early}
use Rattle.rules.proofs.Separator.{with_u, head_number}
use Rattle.rules.proofs.Without.{same_without, same_without_ta1}
use Rattle.promises.proofs.Demands.{calls}
use Rattle.promises.proofs.Agreement as agreement
use Rattle.promises.proofs.Spoiling.{call_of}
use Rattle.acknowledgment.proofs.acknowledge.Reads as acknowledge
use Rattle.interchange_acknowledgment.proofs.acknowledge_interchange.Reads as acknowledge_interchange
use Rattle.x12.proofs.x12_acknowledge.Reads as x12_acknowledge
use Rattle.x12.proofs.x12_acknowledge_interchange.Reads as x12_acknowledge_interchange

-- o is the outcome of a call on the interchange i, and other that of the same call on i with `U` in ISA11. Judged are the bytes whose elements the answer
-- tells of: the groups for 997s, none for a TA1.
pub record Separated (i judged : Bytes) (call : Call) (o other : Outcome) : Type 0 where
  -- Where 2 to 5 pass and the separator is not among the bytes judged, o is the other outcome: number, length and every byte. Shut out: a program that, once
  -- there is a separator, judges other values otherwise, as one that takes a B101 of five bytes then.
  pub unheld : (b : ℕ) → repetition_in i ≡ Some b → first (head_rules i) ≡ 0 → free b judged ≡ true → o ≡ other
  -- Where 1 to 5 pass with `U`, the number is 4 where the separator is a letter, a digit, a space or one of the other delimiters,
  pub four : (b : ℕ) → repetition_in i ≡ Some b → first (call_rules call ++ head_rules (with_u i)) ≡ 0
      → plain b && free b (marks (delimiters (with_u i))) ≡ false → o.number ≡ 4
  -- and else 5 where it stands at another byte of ISA. Shut out: 5 before 4, and a separator that is looked for in some of the fields alone.
  pub five : (b : ℕ) → repetition_in i ≡ Some b → first (call_rules call ++ head_rules (with_u i)) ≡ 0
      → plain b && free b (marks (delimiters (with_u i))) ≡ true → free b (take 106 (with_u i)) ≡ false → o.number ≡ 5

-- the number of a refusal
refused : (reply : Reply) (lent : Bytes) (n : ℕ) → eqb n 0 ≡ false → reply.refusal ≡ n → (called reply lent).number ≡ n
unfolding called answer
refused reply lent n z e = rw (e, z)

module _ (i : Bytes) (call : Call) where
  -- the first number of 2 to 5 is that of the call, where 1 passes
  refusal_head : (n : ℕ) → eqb n 0 ≡ false → first (call_rules call) ≡ 0 → first (head_rules i) ≡ n → refusal i call ≡ n
  unfolding first_of
  refusal_head n z c h = refusal_blocks i call ∙ rw (c, h, z)

  module _ (b : ℕ) (separates : repetition_in i ≡ Some b) (e : first (call_rules call ++ head_rules (with_u i)) ≡ 0) where
    none : (first (call_rules call) ≡ 0) × (first (head_rules (with_u i)) ≡ 0)
    unfolding call_rules
    none = first_append_none (call_rules call) (head_rules (with_u i)) tt e

    refusal_four : plain b && free b (marks (delimiters (with_u i))) ≡ false → refusal i call ≡ 4
    refusal_four m = refusal_head 4 refl none.0 (head_number i b separates none.1 ∙ rw m)

    refusal_five : plain b && free b (marks (delimiters (with_u i))) ≡ true → free b (take 106 (with_u i)) ≡ false → refusal i call ≡ 5
    refusal_five m f = refusal_head 5 refl none.0 (head_number i b separates none.1 ∙ rw (m, f))

  -- so it is for a TA1
  refusal_ta1 : (n : ℕ) → n ≤ 5 → eqb n 0 ≡ false → refusal i call ≡ n → interchange_refusal i call ≡ n
  refusal_ta1 n l z e = same_early i call (rw e l) (λ q. eqb-false n 0 z (sym e ∙ q)) ∙ e

module _ (i lent : Bytes) (call : Call) (o : Outcome) where
  separated : o ≡ called (functional_acknowledgment i call) lent
      → Separated i (drop 106 i) call o (called (functional_acknowledgment (with_u i) call) lent)
  separated p = record {
    unheld = λ b s e f. p ∙ same_without i b s e call f lent;
    four = λ b s e m. ap (λ (o : Outcome). o.number) p ∙ refused (functional_acknowledgment i call) lent 4 refl (refusal_four i call b s e m);
    five = λ b s e m f. ap (λ (o : Outcome). o.number) p ∙ refused (functional_acknowledgment i call) lent 5 refl (refusal_five i call b s e m f);
  }

  separated_ta1 : o ≡ called (interchange_acknowledgment i call) lent
      → Separated i [] call o (called (interchange_acknowledgment (with_u i) call) lent)
  separated_ta1 p = record {
    unheld = λ b s e f. p ∙ same_without_ta1 i b s e call lent;
    four = λ b s e m.
        ap (λ (o : Outcome). o.number) p
        ∙ refused (interchange_acknowledgment i call) lent 4 refl (refusal_ta1 i call 4 (omega arith) refl (refusal_four i call b s e m));
    five = λ b s e m f.
        ap (λ (o : Outcome). o.number) p
        ∙ refused (interchange_acknowledgment i call) lent 5 refl (refusal_ta1 i call 5 (omega arith) refl (refusal_five i call b s e m f));
  }

-- All of it holds of the Rattle function for a 997,
pub acknowledge_separated : (κs : _) (a : _) (r : _) (s : _) → acknowledge.Post κs a r s
    → Separated a.0.now (drop 106 a.0.now) a.1.1.0 (outcome r s.1.0.now)
    (called (functional_acknowledgment (with_u a.0.now) a.1.1.0) a.1.0.now)
acknowledge_separated κs a r s p = separated a.0.now a.1.0.now a.1.1.0 (outcome r s.1.0.now) (calls κs a r s p)

-- of its face for C,
pub x12_acknowledge_separated : (κs : _) (a : _) (r : _) (s : _) → x12_acknowledge.Post κs a r s
    → let call = call_of a.1.1.0 a.1.1.1.0 a.1.1.1.1.0 in
    Separated a.0.now (drop 106 a.0.now) call (record { number = r; size = s.1.1.1.1.1.0.now; buffer = s.1.0.now })
    (called (functional_acknowledgment (with_u a.0.now) call) a.1.0.now)
x12_acknowledge_separated κs a r s p =
    separated a.0.now a.1.0.now (call_of a.1.1.0 a.1.1.1.0 a.1.1.1.1.0)
    (record { number = r; size = s.1.1.1.1.1.0.now; buffer = s.1.0.now }) p

-- of the Rattle function for a TA1,
pub acknowledge_interchange_separated : (κs : _) (a : _) (r : _) (s : _) → acknowledge_interchange.Post κs a r s
    → Separated a.0.now [] a.1.1.0 (outcome r s.1.0.now)
    (called (interchange_acknowledgment (with_u a.0.now) a.1.1.0) a.1.0.now)
acknowledge_interchange_separated κs a r s p =
    separated_ta1 a.0.now a.1.0.now a.1.1.0 (outcome r s.1.0.now) (agreement.calls κs a r s p)

-- and of its face for C.
pub x12_acknowledge_interchange_separated : (κs : _) (a : _) (r : _) (s : _) → x12_acknowledge_interchange.Post κs a r s
    → let call = call_of a.1.1.0 a.1.1.1.0 a.1.1.1.1.0 in
    Separated a.0.now [] call (record { number = r; size = s.1.1.1.1.1.0.now; buffer = s.1.0.now })
    (called (interchange_acknowledgment (with_u a.0.now) call) a.1.0.now)
x12_acknowledge_interchange_separated κs a r s p =
    separated_ta1 a.0.now a.1.0.now (call_of a.1.1.0 a.1.1.1.0 a.1.1.1.1.0)
    (record { number = r; size = s.1.1.1.1.1.0.now; buffer = s.1.0.now }) p
