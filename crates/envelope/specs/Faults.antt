-- What is wrong with IEA.
use Rattle.std.specs.Prelude.{ℕ, not, if◌then◌else◌, Result, Ok, Err}
use Rattle.rules.specs.Base.{Bytes}
use Rattle.rules.specs.Cutting.{Segment}
use Rattle.rules.specs.Refusals.{has_two, closes, counts_groups}
use Rattle.envelope.specs.declared.TrailerFault.{TrailerFault}
use Rattle.envelope.specs.declared.TrailerFault.TheVariants.{NotTwoElements, OtherControl, OtherCount}

-- the first test of IEA that fails
unfoldable pub trailer_check : Segment → ℕ → Bytes → Result (Unit {0}) TrailerFault
trailer_check iea n isa13 =
    if not (has_two iea) then Err NotTwoElements
    else (if not (closes iea isa13) then Err OtherControl else (if not (counts_groups n iea) then Err OtherCount else Ok tt))
