-- The codes of AK4 and AK3 by their numbers, where 0 is none.
use Rattle.std.specs.Prelude.{ℕ, Option, Some, None, [], ◌∷◌, get_or}
use Rattle.rules.specs.declared.ElementCode.{ElementCode}
use Rattle.rules.specs.declared.ElementCode.TheVariants as element
use Rattle.rules.specs.declared.SegmentCode.{SegmentCode}
use Rattle.rules.specs.declared.SegmentCode.TheVariants as segment

-- the number of a code of AK4
abbrev pub element_number : Option ElementCode → ℕ
element_number None = 0
element_number (Some element.Missing) = 1
element_number (Some element.MissingByNote) = 2
element_number (Some element.BeyondTable) = 3
element_number (Some element.TooShort) = 4
element_number (Some element.TooLong) = 5
element_number (Some element.BadByte) = 6
element_number (Some element.NotListed) = 7
element_number (Some element.NoDate) = 8
element_number (Some element.NoTime) = 9
element_number (Some element.ShutOut) = 10
element_number (Some element.TooManyRepetitions) = 12

-- the code of AK4 with a number: 0 to 10, and 12
unfoldable pub element_coded : ℕ → Option ElementCode
element_coded n =
    get_or
    (None ∷ Some element.Missing ∷ Some element.MissingByNote ∷ Some element.BeyondTable ∷ Some element.TooShort ∷ Some element.TooLong ∷ Some element.BadByte ∷ Some element.NotListed ∷ Some element.NoDate ∷ Some element.NoTime ∷ Some element.ShutOut ∷ [])
    n (Some element.TooManyRepetitions)

-- the number of a code of AK3
abbrev pub segment_number : Option SegmentCode → ℕ
segment_number None = 0
segment_number (Some segment.NotKnown) = 1
segment_number (Some segment.Missing) = 3
segment_number (Some segment.BeyondMaximum) = 5
segment_number (Some segment.NotInTable) = 6
segment_number (Some segment.OutOfOrder) = 7
segment_number (Some segment.HasFindings) = 8
