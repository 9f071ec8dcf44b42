-- What a segment comes to before its elements are read.
use Rattle.std.specs.Prelude.{ℕ, List, [], ltb, get_or, if◌then◌else◌, is_some}
use Rattle.rules.specs.Base.{Bytes}
use Rattle.tables.specs.Rows.{column}
use Rattle.tables.specs.Reading.{Guide}
use Rattle.findings.specs.Steps.{bumped, stands, next_missing}
use Rattle.findings.specs.declared.Present.{Present}
use Rattle.findings.specs.declared.Standing.{Standing}
use Rattle.findings.specs.declared.Standing.TheVariants.{Unknown, Unlisted, Before, Again, Later}

-- a note, or none and then the row of the segment's entry and how often that is used
pub data Turn : Type 0 where
  Noted : Turn
  Quiet : ℕ → ℕ → Turn

-- one more use of the entry of row k
abbrev pub used_again : Guide → ℕ → ℕ → Turn
used_again rows k used = if ltb (column (get_or rows k []) 5) used then Noted else Quiet k used

-- the first use of the entry of row k, where none is missing from another row on
abbrev pub used_anew : Guide → ℕ → ℕ → Turn
used_anew rows from k = if is_some (next_missing rows from k) then Noted else Quiet k 1

module _ (ids : List (List ℕ)) (rows : Guide) (p : Present) where
  -- a segment with this standing
  abbrev pub turn_by : Standing → Turn
  turn_by Unknown = Noted
  turn_by Unlisted = Noted
  turn_by (Before k) = Noted
  turn_by Again = used_again rows p.row (bumped p.used)
  turn_by (Later k) = used_anew rows (bumped p.row) k

  unfoldable pub turn_of : Bytes → Turn
  turn_of id = turn_by (stands ids rows p.row id)
