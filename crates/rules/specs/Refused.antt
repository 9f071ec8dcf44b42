-- The refusals by their numbers.
use Rattle.std.specs.Prelude.{ℕ, ◌-◌, [], ◌∷◌, eqb, get_or, Result, Ok, Err, if◌then◌else◌}
use Rattle.rules.specs.declared.Refusal.{Refusal}
use Rattle.rules.specs.declared.Refusal.TheVariants.{BadCall, BadLength, NoIsa, BadDelimiters, BadIsa, NotTerminated, OutOfPlace, BadTrailer, BadHeader, Acknowledgment, Outside, NoSet, BadSetHeader, TooLong, NotAsked}

-- document 01's number of a refusal
abbrev pub number_of : Refusal → ℕ
number_of BadCall = 1
number_of BadLength = 2
number_of NoIsa = 3
number_of BadDelimiters = 4
number_of BadIsa = 5
number_of NotTerminated = 6
number_of OutOfPlace = 7
number_of BadTrailer = 8
number_of BadHeader = 9
number_of Acknowledgment = 10
number_of Outside = 11
number_of NoSet = 12
number_of BadSetHeader = 13
number_of (TooLong n) = 14
number_of NotAsked = 15

-- the refusal that a rule's number stands for: 1 to 13, and 15
unfoldable pub refused : ℕ → Refusal
refused n =
    get_or
    (BadCall ∷ BadLength ∷ NoIsa ∷ BadDelimiters ∷ BadIsa ∷ NotTerminated ∷ OutOfPlace ∷ BadTrailer ∷ BadHeader ∷ Acknowledgment ∷ Outside ∷ NoSet ∷ BadSetHeader ∷ [])
    (n - 1) NotAsked

-- this value, unless there is a number of a refusal
unfoldable pub unless : {A : Type 0} → ℕ → A → Result A Refusal
unless n x = if eqb n 0 then Ok x else Err (refused n)
