-- What a program has done, whatever its reads and writes did.
use Rattle.std.specs.Prelude.{ℕ, ◌≡◌, take, Result, Ok, Err}
use Rattle.rules.specs.Base.{Bytes}
use Rattle.rules.specs.Program.{ack_prints, ta1_prints}
use Rattle.writing.specs.Over.{over}
use Rattle.exchange.specs.declared.Acknowledgment.{Acknowledgment}
use Rattle.exchange.specs.declared.Acknowledgment.TheVariants.{Functional, Interchange}
use Rattle.program.specs.declared.Failure.{Failure}
use Rattle.program.specs.declared.Failure.TheVariants.{Unread, Unprinted}

-- how many bytes a program lends for a response
abbrev pub room : ℕ
room = 65536

-- what the program of an acknowledgment prints for an input
unfoldable pub prints : Acknowledgment → Bytes → Bytes
prints Functional input = ack_prints input
prints Interchange input = ta1_prints input

-- of the buffer that was read into, and of the room for the response before and after: the room has the answer to the bytes that were read; it
-- is as it was where a read failed
abbrev pub Serves : Acknowledgment → Result ℕ Failure → Bytes → Bytes → Bytes → Type 0
Serves asked (Ok n) input lent left = left ≡ over (prints asked (take n input)) lent
Serves asked (Err Unread) input lent left = left ≡ lent
Serves asked (Err (Unprinted n)) input lent left = left ≡ over (prints asked (take n input)) lent
