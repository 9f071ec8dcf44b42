-- What is told of a segment and of a place, by value.
use Rattle.std.specs.Prelude.{ℕ, false, ◌&&◌, List, [], ◌∷◌, eqb, length, get_or, if◌then◌else◌, Option, Some, None}
use Rattle.rules.specs.Base.{Bytes, all, between, is_upper_or_digit}
use Rattle.rules.specs.Codes.{segment_number}
use Rattle.rules.specs.Elements.{Finding}
use Rattle.rules.specs.declared.Delimiters.{Delimiters}
use Rattle.rules.specs.declared.SegmentCode.{SegmentCode}
use Rattle.rules.specs.declared.SegmentCode.TheVariants as code
use Rattle.tables.specs.Reading.{Guide, id_at}
use Rattle.tables.specs.declared.SegmentId.{SegmentId}
use Rattle.elements.specs.Checks.{next_found, start}
use Rattle.elements.specs.declared.Found.{Found}
use Rattle.findings.specs.Steps.{is_checked}
use Rattle.notes.specs.declared.Line.{Line}

-- the id that is echoed
abbrev pub echoed_id : Bytes → SegmentId
echoed_id id =
    if between 2 3 (length id) && all is_upper_or_digit id then record { first = get_or id 0 0; second = get_or id 1 0; third = get_or id 2 0 }
    else record { first = 90; second = 90; third = 90 }

-- a missing entry
abbrev pub absent : Guide → ℕ → ℕ → Line
absent rows k position = record { id = id_at rows k; position = position; own = Some code.Missing; faulty = false }

-- the number of a code of AK3, where there is one
abbrev pub code_of : Option SegmentCode → List ℕ
code_of None = []
code_of (Some c) = segment_number (Some c) ∷ []

-- a finding where there is a code
abbrev pub finding_of : Finding → List Finding
finding_of f = if eqb f.code 0 then [] else f ∷ []

-- what is found first in a segment, where its code has its elements checked
unfoldable pub found_by : Delimiters → Bytes → Guide → Option SegmentCode → ℕ → Option Found
found_by d s rows own check = if is_checked own then next_found d s rows (start d s rows check) else None
