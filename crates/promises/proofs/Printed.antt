-- A program's answer: what `exchange` leaves in a room of 65,536 bytes, as each program lends it, is a function of the input alone.
use mathlib.Core.Path.{◌≡◌, ap, ◌∙◌}
use lib.ListN.{length}
use Rattle.rules.specs.Base.{Bytes}
use Rattle.rules.specs.Program.{ack_prints, ta1_prints}
use Rattle.writing.specs.Over.{over}
use Rattle.exchange.specs.declared.Acknowledgment.{Acknowledgment}
use Rattle.exchange.specs.declared.Acknowledgment.TheVariants.{Functional, Interchange}
use Rattle.exchange.proofs.exchange.Reads as exchange
use Rattle.program.specs.Serving as program
use Rattle.program.proofs.Answered.{in_room}

-- what the program of an acknowledgment prints is the law's. Shut out: one with the other program's acknowledgment.
pub prints_by : (asked : Acknowledgment) (input : Bytes) → ((asked ≡ Functional) → program.prints asked input ≡ ack_prints input) × ((asked ≡ Interchange) → program.prints asked input ≡ ta1_prints input)
unfolding program.prints
prints_by asked input = (λ e. rw e, λ e. rw e)

-- Shut out: an answer that depends on what the room held before, or on another length of it.
pub prints : (κs : _) (a : _) (r : _) (s : _) → exchange.Post κs a r s → length a.1.1.0.now ≡ 65536
    → (r ≡ length (program.prints a.0 a.1.0.now)) × (s.1.1.0.now ≡ over (program.prints a.0 a.1.0.now) a.1.1.0.now)
prints κs a r s p e =
    let t = in_room a.0 a.1.0.now e in
    (p.0 ∙ ap length t, p.1 ∙ ap (λ (t : Bytes). over t a.1.1.0.now) t)
