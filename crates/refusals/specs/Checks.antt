-- What the checks of an interchange come to.
use Rattle.std.specs.Prelude.{ℕ, [], ◌++◌, length, if◌then◌else◌, Option, None, Some, Result, Ok, Err}
use Rattle.rules.specs.Base.{Bytes, first, last}
use Rattle.rules.specs.Cutting.{field, isa, delimiters, split, segments}
use Rattle.rules.specs.Groups.{groups_of}
use Rattle.rules.specs.Refusals.{call_rules, head_rules, is_terminated, most_groups, group_rules}
use Rattle.rules.specs.Refused.{unless}
use Rattle.rules.specs.declared.Call.{Call}
use Rattle.rules.specs.declared.Delimiters.{Delimiters}
use Rattle.rules.specs.declared.Refusal.{Refusal}
use Rattle.text.specs.Text.{part}
use Rattle.envelope.specs.Places.{group_at, group_starting, envelope_of}
use Rattle.envelope.specs.Faults as trailer
use Rattle.envelope.specs.declared.Envelope.{Envelope}
use Rattle.envelope.specs.declared.GroupAt.{GroupAt}
use Rattle.envelope.specs.declared.TrailerFault.{TrailerFault}
use Rattle.envelope.specs.declared.TrailerFault.TheVariants as trailers
use Rattle.refusals.specs.declared.EnvelopeFault.{EnvelopeFault}
use Rattle.refusals.specs.declared.EnvelopeFault.TheVariants.{NotTerminated, OutOfPlace, NotTwoElements, OtherControl, OtherCount}

-- refusals 1 to 5: the delimiters of an interchange that they let pass
unfoldable pub head_checked : Bytes → Call → Result Delimiters Refusal
head_checked i call = unless (first (call_rules call ++ head_rules i)) (delimiters i)

-- the number of a fault, where each test has one
abbrev pub fault_by : ℕ → ℕ → ℕ → ℕ → ℕ → EnvelopeFault → ℕ
fault_by a b c e f NotTerminated = a
fault_by a b c e f OutOfPlace = b
fault_by a b c e f NotTwoElements = c
fault_by a b c e f OtherControl = e
fault_by a b c e f OtherCount = f

-- the same of a check, 0 where it is sound
abbrev pub check_by : ℕ → ℕ → ℕ → ℕ → ℕ → Result Envelope EnvelopeFault → ℕ
check_by a b c e f (Ok v) = 0
check_by a b c e f (Err x) = fault_by a b c e f x

-- document 01's number for each fault
abbrev pub fault_refusal : EnvelopeFault → ℕ
fault_refusal = fault_by 6 7 8 8 8

-- what is wrong with IEA, as a fault of the envelope
abbrev pub fault_of : TrailerFault → EnvelopeFault
fault_of trailers.NotTwoElements = NotTwoElements
fault_of trailers.OtherControl = OtherControl
fault_of trailers.OtherCount = OtherCount

-- this envelope, unless something is wrong with IEA
abbrev pub sound_but : Envelope → Result (Unit {0}) TrailerFault → Result Envelope EnvelopeFault
sound_but e (Ok u) = Ok e
sound_but e (Err x) = Err (fault_of x)

-- the same, where the envelope may be broken
abbrev pub placed_but : Option Envelope → Result (Unit {0}) TrailerFault → Result Envelope EnvelopeFault
placed_but (Some e) x = sound_but e x
placed_but None x = Err OutOfPlace

-- the tests of 8, of an interchange with this envelope
abbrev pub trailer_check : Delimiters → Bytes → Envelope → Result (Unit {0}) TrailerFault
trailer_check d i e = trailer.trailer_check (split d.element (part i e.iea e.iea_end)) e.groups (field (isa i) 13)

-- the first of the tests of 6 to 8 that fails, or the envelope where none does
unfoldable pub envelope_check : Delimiters → Bytes → Result Envelope EnvelopeFault
envelope_check d i =
    let ss = segments d i in
    if is_terminated d i
    then placed_but (envelope_of most_groups d i) (trailer.trailer_check (last [] ss) (length (groups_of ss)) (field (isa i) 13))
    else Err NotTerminated

-- the group whose GS starts at an offset, or its refusal by 9 to 13
unfoldable pub group_check : Delimiters → Bytes → ℕ → Result GroupAt Refusal
group_check d i at = let g = group_starting d i at in unless (first (group_rules d (group_at d i g))) g
