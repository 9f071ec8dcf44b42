-- What `exchange` leaves in a room of 65,536 bytes begins with what the program prints.
use mathlib.Core.Path.{◌≡◌, ap, ◌∙◌}
use Prim.Native.Nat.{ℕ, ◌≤◌}
use native.Mathlib.Omega.{arith}
use lib.ListN.{length, take, drop}
use lib.Seq.{take-append_seam}
use Rattle.rules.specs.Base.{Bytes}
use Rattle.rules.specs.Program.{printed, ack_prints, ta1_prints}
use Rattle.writing.specs.Over.{over}
use Rattle.writing.proofs.Over.{over_fits}
use Rattle.exchange.specs.Replies.{replies_of}
use Rattle.exchange.specs.declared.Acknowledgment.{Acknowledgment}
use Rattle.exchange.specs.declared.Acknowledgment.TheVariants.{Functional, Interchange}
use Rattle.exchange.proofs.Laws.{printed_short}
use Rattle.program.specs.Serving.{prints}

-- what is printed of an acknowledgment in that room
pub in_room : (asked : Acknowledgment) (input : Bytes) {room : ℕ} → room ≡ 65536 → printed (replies_of asked) input room ≡ prints asked input
unfolding prints replies_of ack_prints ta1_prints
in_room Functional input e = rw e
in_room Interchange input e = rw e

module _ (asked : Acknowledgment) (input lent : Bytes) {n : ℕ} {left : Bytes} (e : n ≡ length (printed (replies_of asked) input (length lent)))
    (f : left ≡ over (printed (replies_of asked) input (length lent)) lent) (room : length lent ≡ 65536) where
  prints_short : length (prints asked input) ≤ length lent
  prints_short = rw (← in_room asked input room) (omega (arith, printed_short (replies_of asked) input (length lent), room))

  -- the room holds the answer
  pub left_is : left ≡ over (prints asked input) lent
  left_is = rw (← in_room asked input room) f

  -- its first bytes are the answer
  pub starts : take n left ≡ prints asked input
  starts =
      ap (λ (n : ℕ). take n left) (e ∙ ap length (in_room asked input room))
      ∙ ap (take (length (prints asked input))) (left_is ∙ over_fits (prints asked input) lent prints_short)
      ∙ take-append_seam (prints asked input) (drop (length (prints asked input)) lent)
