-- The first bytes of an input decide what is printed: a line that calls has at most 23, its LF is one, and an interchange of more than 65,536 is
-- refused whatever it holds.
use Rattle.std.specs.Prelude.{if◌then◌else◌, Option, None, Some, Err}
use Prim.Native.Nat.{ℕ, zero, suc, ◌+◌, ◌≤◌, ◌<◌}
use mathlib.Core.Path.{◌≡◌, refl, sym, ◌∙◌}
use mathlib.Core.Bool.{Bool, true, false, not}
use mathlib.Core.List.{List, [], ◌∷◌}
use native.Mathlib.Omega.{arith}
use borrow.Author.Tests.{leb-true, leb-false, le-leb, lt-leb}
use lib.Dec.{leb, eqb}
use lib.ListN.{length, take}
use lib.Seq.{take_all, length-take-le}
use Rattle.rules.specs.Base.{Bytes, Rule, ◌⇒◌, first, between}
use Rattle.rules.specs.Answers.{Replies, answer, fitting}
use Rattle.rules.specs.Refusals.{good_call, call_rules, head_rules, refusal_rules, refusal}
use Rattle.rules.specs.InterchangeAcknowledgment.{interchange_rules, interchange_refusal}
use Rattle.rules.specs.Program.{Input, behind_byte, parted, is_call, refused_text, printed_as, printed_reply, printed_call, printed_for, printed}
use Rattle.rules.specs.Refused.{refused}
use Rattle.rules.specs.declared.Call.{Call}
use Rattle.exchange.specs.Replies.{replies_of}
use Rattle.exchange.specs.Deciding.{deciding}
use Rattle.exchange.specs.declared.Acknowledgment.{Acknowledgment}
use Rattle.exchange.specs.declared.Acknowledgment.TheVariants.{Functional, Interchange}
use Rattle.exchange.proofs.FirstLine.{call_line}

-- 1. The interchange.
-- of a long interchange, the caller's numbers decide which of the first two rules applies
first_two : (good : Bool) (i : Bytes) (rs : List Rule) → 65536 < length i
    → first ((not good ⇒ 1) ∷ (not (between 106 65536 (length i)) ⇒ 2) ∷ rs) ≡ if good then 2 else 1
unfolding first
first_two true i rs h = rw (le-leb 106 (length i) (omega arith), lt-leb (length i) 65536 h)
first_two false i rs h = refl

-- the rules of both entries begin with these two
refusal_long : (asked : Acknowledgment) (i : Bytes) (call : Call) → 65536 < length i → (replies_of asked i call).refusal ≡ if good_call call then 2 else 1
unfolding replies_of refusal refusal_rules interchange_refusal interchange_rules call_rules head_rules
refusal_long Functional i call h = first_two (good_call call) i _ h
refusal_long Interchange i call h = first_two (good_call call) i _ h

module _ (asked : Acknowledgment) (room : ℕ) (call : Call) where
  abbrev told : Bytes → Bytes
  told i = printed_reply (replies_of asked i call) room

  too_long : (i : Bytes) → 65536 < length i → told i ≡ refused_text (if good_call call then 2 else 1)
  unfolding answer refused
  too_long i h = rw (refusal_long asked i call h) (go (replies_of asked i call).response (good_call call))
    where
      go : (r : Bytes) (good : Bool)
          → printed_as (let n = if good then 2 else 1 in if eqb n 0 then fitting r room else Err (refused n)) r ≡ refused_text (if good then 2 else 1)
      go r true = refl
      go r false = refl

  -- what lies behind its first 65,537 bytes makes no difference
  cut : (m : ℕ) (i : Bytes) → 65536 < m → told (take m i) ≡ told i
  cut m i h = go (leb (length i) m) refl
    where
      go : (q : Bool) → leb (length i) m ≡ q → told (take m i) ≡ told i
      go true k = rw (take_all m i (leb-true (length i) m k))
      go false k =
          let long = leb-false (length i) m k in
          too_long (take m i) (omega (arith, length-take-le m i (omega arith))) ∙ sym (too_long i (omega arith))

-- 2. The input.
-- the first k bytes of an input: no line is in the input, or only a part of its line is read, or its line and m bytes of the interchange
first_bytes : (k : ℕ) (s : Bytes) (P : Option Input → Option Input → Type 0)
    → P None None
    → ((i : Input) → k ≤ length i.line → P None (Some i))
    → ((i : Input) (m : ℕ) → k ≡ length i.line + m + 1 → P (Some (record { line = i.line; interchange = take m i.interchange })) (Some i))
    → P (parted (take k s)) (parted s)
unfolding parted
first_bytes zero s P neither part whole = go (parted s)
  where
    go : (o : Option Input) → P None o
    go None = neither
    go (Some i) = part i (omega arith)
first_bytes (suc k) [] P neither part whole = neither
first_bytes (suc k) (b ∷ bs) P neither part whole =
    go (eqb b 10)
    (first_bytes k bs (λ u v. P (behind_byte b u) (behind_byte b v)) neither
    (λ i h. part (record { line = b ∷ i.line; interchange = i.interchange }) (omega arith))
    (λ i m e. whole (record { line = b ∷ i.line; interchange = i.interchange }) m (omega arith)))
  where
    go : (q : Bool) → P (behind_byte b (parted (take k bs))) (behind_byte b (parted bs))
        → P (if q then Some (record { line = []; interchange = take k bs }) else behind_byte b (parted (take k bs)))
        (if q then Some (record { line = []; interchange = bs }) else behind_byte b (parted bs))
    go true later = whole (record { line = []; interchange = bs }) k (omega arith)
    go false later = later

-- 3. The theorem.
module _ (asked : Acknowledgment) (input : Bytes) (room : ℕ) where
  abbrev replies : Replies
  replies = replies_of asked

  pub enough : printed replies (take deciding input) room ≡ printed replies input room
  unfolding printed printed_call
  enough =
      first_bytes deciding input (λ u v. printed_for replies u room ≡ printed_for replies v room) refl
      (λ i h. part i (is_call i.line) refl h)
      (λ i m e. whole i m (is_call i.line) refl e)
    where
      part : (i : Input) (q : Bool) → is_call i.line ≡ q → deciding ≤ length i.line → refused_text 1 ≡ printed_call replies i room
      part i true e h = absurd (omega (arith, (call_line i.line e).short))
      part i false e h = rw e

      whole : (i : Input) (m : ℕ) (q : Bool) → is_call i.line ≡ q → deciding ≡ length i.line + m + 1
          → printed_call replies (record { line = i.line; interchange = take m i.interchange }) room ≡ printed_call replies i room
      whole i m true e h = rw e (cut asked room _ m i.interchange (omega (arith, (call_line i.line e).short)))
      whole i m false e h = rw e
