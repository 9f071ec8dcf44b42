-- What is printed for an answer and for a call, and how long it is.
use Rattle.std.specs.Prelude.{if◌then◌else◌, Option, None, Some, Ok, Err}
use Prim.Native.Nat.{ℕ, ◌≤◌, ◌<◌, max}
use mathlib.Core.Path.{◌≡◌, refl, sym, ◌∙◌}
use mathlib.Core.Bool.{Bool, true, false}
use native.Mathlib.Omega.{arith}
use borrow.Author.Tests.{leb-true}
use lib.Dec.{leb, eqb}
use lib.ListN.{length, drop, length-append}
use Rattle.rules.specs.Base.{Bytes}
use Rattle.rules.specs.Answers.{Reply, Replies, Answer, answer, Allowed}
use Rattle.rules.specs.Program.{refused_text, printed_as, printed_reply, printed}
use Rattle.rules.specs.Refused.{number_of}
use Rattle.rules.specs.Refused as numbers
use Rattle.rules.specs.declared.Refusal.{Refusal}
use Rattle.rules.specs.declared.Refusal.TheVariants.{TooLong}
use Rattle.rules.proofs.Lengths.{decimal_short}
use Rattle.writing.specs.Over.{over, Wrote}
use Rattle.writing.proofs.Over.{over_fits}
use Rattle.writing.proofs.Laws.{same, exact}
use Rattle.exchange.specs.Calls.{line_in}
use Rattle.exchange.specs.declared.first_line.FirstLine.{FirstLine}
use Rattle.exchange.proofs.FirstLine.{printed_by, printed_by_lem}

-- the line of a refusal is short
refused_short : (n : ℕ) → length (refused_text n) ≤ 29
unfolding refused_text
refused_short n = simp length-append (omega (arith, decimal_short n))

-- 1. An answer.
module _ (reply : Reply) where
  abbrev text : Bytes
  text = reply.response

  -- a response that was written fits
  fits : (room n : ℕ) → Ok n ≡ answer reply room → (n ≡ length text) × (n ≤ room)
  unfolding answer
  fits room n e = go (eqb reply.refusal 0) (leb (length text) room) refl e
    where
      go : (sound q : Bool) → leb (length text) room ≡ q
          → Ok n ≡ (if sound then (if q then Ok (length text) else Err (TooLong (length text))) else Err (numbers.refused reply.refusal))
          → (n ≡ length text) × (n ≤ room)
      go true true h e = let k : n ≡ length text = cc in (k, omega (arith, leb-true (length text) room h))
      go true false h e = absurd cc
      go false q h e = absurd cc

  -- what is printed is a response that fits, or a line
  short : (room : ℕ) (a : Answer) → a ≡ answer reply room → length (printed_as a text) ≤ max room 29
  short room (Ok n) e = omega (arith, fits room n e)
  short room (Err r) e = omega (arith, refused_short (number_of r))

  module _ {lent left : Bytes} {a : Answer} (allowed : Allowed reply lent a left) where
    -- a response that was written is what is printed
    pub written : {n : ℕ} → a ≡ Ok n → length lent < 9223372036854775808 → Wrote (printed_reply reply (length lent)) n lent left
    unfolding Allowed
    written {n} k small =
        let e : Ok n ≡ answer reply (length lent) = sym k ∙ allowed.0 in
        let f = fits (length lent) n e in
        rw (← e) (record { count = omega arith; bytes = allowed.1 ∙ rw (k, f.0) (sym (over_fits text lent (omega arith))) })

    -- a refusal leaves the buffer to the line that is printed
    pub refused : {e : Refusal} {n : ℕ} {out : Bytes} → a ≡ Err e → Wrote (refused_text (number_of e)) n left out
        → Wrote (printed_reply reply (length lent)) n lent out
    unfolding Allowed
    refused {e} k w =
        let q : answer reply (length lent) ≡ Err e = sym allowed.0 ∙ k in
        let f : left ≡ lent = allowed.1 ∙ rw k refl in
        rw (q, ← f) w

-- 2. An input.
module _ (replies : Replies) (input : Bytes) where
  -- what is printed is no longer than the room, or than a line
  pub printed_short : (room : ℕ) → length (printed replies input room) ≤ max room 29
  unfolding printed
  printed_short room = rw (printed_by_lem input replies room (line_in input) refl) (go (line_in input))
    where
      go : (c : Option FirstLine) → length (printed_by replies c input room) ≤ max room 29
      go (Some line) = short (replies (drop line.interchange input) line.call) room _ refl
      go None = omega (arith, refused_short 1)

  -- who writes what a call prints has answered the input
  pub exchanged : {c : Option FirstLine} {n : ℕ} {lent left : Bytes} → c ≡ line_in input → Wrote (printed_by replies c input (length lent)) n lent left
      → length lent < 9223372036854775808
      → (n ≡ length (printed replies input (length lent))) × (left ≡ over (printed replies input (length lent)) lent)
  unfolding printed
  exchanged {c} {n} {lent} e w small =
      let p = same (printed_by_lem input replies (length lent) c e) w in
      (exact p (omega (arith, printed_short (length lent))), p.bytes)

  -- an output that holds a line holds the answer
  pub holds : (room : ℕ) {n : ℕ} → n ≡ length (printed replies input room) → 29 ≤ room → n ≤ room
  holds room e h = omega (arith, printed_short room)
