-- "What is delivered": the answer, and for each of its cases the number, the length and the buffer afterwards.
use Rattle.std.specs.Prelude.{ℕ, ◌≡◌, ◌++◌, leb, eqb, length, drop, Result, Ok, Err, if◌then◌else◌}
use Rattle.rules.specs.Base.{Bytes}
use Rattle.rules.specs.Refusals.{refusal}
use Rattle.rules.specs.Response.{response}
use Rattle.rules.specs.InterchangeAcknowledgment.{interchange_refusal, interchange_response}
use Rattle.rules.specs.Refused.{number_of, refused}
use Rattle.rules.specs.declared.Call.{Call}
use Rattle.rules.specs.declared.Refusal.{Refusal}
use Rattle.rules.specs.declared.Refusal.TheVariants.{TooLong}

-- 1. What is said to an interchange, whatever the buffer.
-- the number of the refusal, 14 apart, 0 for none; and the response, which is given only then
pub record Reply : Type 0 where
  pub refusal : ℕ
  pub response : Bytes

-- an acknowledgment: what it says, by the bytes of the interchange and the caller's numbers
abbrev pub Replies : Type 0
Replies = Bytes → Call → Reply

-- of the groups: a 997 for each
abbrev pub functional_acknowledgment : Replies
functional_acknowledgment i call = record { refusal = refusal i call; response = response i call }

-- of the interchange itself: TA1
abbrev pub interchange_acknowledgment : Replies
interchange_acknowledgment i call = record { refusal = interchange_refusal i call; response = interchange_response i call }

-- 2. How it is delivered.
-- the length of the response, or the refusal
abbrev pub Answer : Type 0
Answer = Result ℕ Refusal

-- a response in a buffer with so much room; 14 where it does not fit
abbrev pub fitting : Bytes → ℕ → Answer
fitting r room = if leb (length r) room then Ok (length r) else Err (TooLong (length r))

-- the answer to a call
unfoldable pub answer : Reply → ℕ → Answer
answer reply room = if eqb reply.refusal 0 then fitting reply.response room else Err (refused reply.refusal)

-- the buffer after an answer: the response at its start where it was written, and every other byte as lent
abbrev pub buffer : Answer → Bytes → Bytes → Bytes
buffer (Ok n) r lent = r ++ drop n lent
buffer (Err e) r lent = lent

-- document 01's number and length for each case
abbrev pub number : Answer → ℕ
number (Ok n) = 0
number (Err e) = number_of e

abbrev pub needed : Refusal → ℕ
needed (TooLong n) = n
needed e = 0

abbrev pub size : Answer → ℕ
size (Ok n) = n
size (Err e) = needed e

-- all that a caller sees
pub record Outcome : Type 0 where
  pub number : ℕ
  pub size : ℕ
  pub buffer : Bytes

-- the outcome of an answer that leaves this buffer
abbrev pub outcome : Answer → Bytes → Outcome
outcome a left = record { number = number a; size = size a; buffer = left }

-- what a call may answer, and what it may leave in the buffer
unfoldable pub Allowed : Reply → Bytes → Answer → Bytes → Type 0
Allowed reply lent a left = (a ≡ answer reply (length lent)) × (left ≡ buffer a reply.response lent)

-- a response as it is delivered: at the start of the buffer, with its length; where it does not fit 14, and the length that is needed
abbrev pub delivered : Bytes → Bytes → Outcome
delivered r lent =
    if leb (length r) (length lent) then record { number = 0; size = length r; buffer = r ++ drop (length r) lent }
    else record { number = 14; size = length r; buffer = lent }

-- the outcome of a call
unfoldable pub called : Reply → Bytes → Outcome
called reply lent =
    if eqb reply.refusal 0 then delivered reply.response lent else record { number = reply.refusal; size = 0; buffer = lent }
