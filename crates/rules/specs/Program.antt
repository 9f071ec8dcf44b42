-- "One exchange whole": what a program prints for its input, a first line with the caller's numbers and then the interchange.
use Rattle.std.specs.Prelude.{ℕ, Bool, ◌&&◌, [], ◌∷◌, ◌++◌, eqb, take, drop, get_or, if◌then◌else◌, Option, None, Some, Ok, Err}
use Rattle.std.proofs.Math.Seq.{slice}
use Rattle.rules.specs.Base.{Bytes, ascii}
use Rattle.rules.specs.Numbers.{digits, value, decimal}
use Rattle.rules.specs.Answers.{Reply, Replies, functional_acknowledgment, interchange_acknowledgment, Answer, answer}
use Rattle.rules.specs.declared.Call.{Call}
use Rattle.rules.specs.Refused.{number_of}

-- what stands before the first LF and after it, where there is one
pub record Input : Type 0 where
  pub line : Bytes
  pub interchange : Bytes

abbrev pub behind_byte : ℕ → Option Input → Option Input
behind_byte b None = None
behind_byte b (Some i) = Some (record { line = b ∷ i.line; interchange = i.interchange })

unfoldable pub parted : Bytes → Option Input
parted [] = None
parted (b ∷ bs) =
    let r = parted bs in
    if eqb b 10 then Some (record { line = []; interchange = bs }) else behind_byte b r

-- 8, 4 and 1 to 9 digits with one space between
unfoldable pub is_call : Bytes → Bool
is_call l =
    digits 8 8 (take 8 l) && eqb (get_or l 8 0) 32 && digits 4 4 (slice 9 13 l) && eqb (get_or l 13 0) 32 && digits 1 9 (drop 14 l)

-- the numbers on such a line
abbrev pub call_on : Bytes → Call
call_on l = record { date = value (take 8 l); time = value (slice 9 13 l); control = value (drop 14 l) }

unfoldable pub refused_text : ℕ → Bytes
refused_text n = ascii "refused " ++ decimal n ++ ascii "\n"

-- an answer as it is printed
abbrev pub printed_as : Answer → Bytes → Bytes
printed_as (Ok n) r = r
printed_as (Err e) r = refused_text (number_of e)

-- a reply as it is printed, with so much room for the response
abbrev pub printed_reply : Reply → ℕ → Bytes
printed_reply reply room = printed_as (answer reply room) reply.response

-- what is printed of an acknowledgment for an interchange under a first line
unfoldable pub printed_call : Replies → Input → ℕ → Bytes
printed_call replies i room =
    let t = printed_reply (replies i.interchange (call_on i.line)) room in
    if is_call i.line then t else refused_text 1

abbrev pub printed_for : Replies → Option Input → ℕ → Bytes
printed_for replies None room = refused_text 1
printed_for replies (Some i) room = printed_call replies i room

-- what is printed of an acknowledgment for an input
unfoldable pub printed : Replies → Bytes → ℕ → Bytes
printed replies input room = printed_for replies (parted input) room

-- what `ack` and `ta1` print for an input: each lends 65,536 bytes for the response
unfoldable pub ack_prints : Bytes → Bytes
ack_prints input = printed functional_acknowledgment input 65536

unfoldable pub ta1_prints : Bytes → Bytes
ta1_prints input = printed interchange_acknowledgment input 65536
