-- One look at a set: the segments one after the other, each at the present entry or at the next that is due.
use Rattle.std.specs.Prelude.{ℕ, zero, suc, ◌+◌, Bool, List, [], leb, ltb, length, get_or, take, drop, if◌then◌else◌, Option, None, Some}
use Rattle.rules.specs.Base.{Bytes, ascii, same}
use Rattle.rules.specs.declared.Delimiters.{Delimiters}
use Rattle.tables.specs.Rows.{column}
use Rattle.tables.specs.Reading.{Guide, is_entry_row, next_due}
use Rattle.sets.specs.Places.{closed_at}
use Rattle.sets.specs.declared.SetAt.{SetAt}
use Rattle.look.specs.Passing.{id_end, passed}
use Rattle.look.specs.declared.segment.Passed.{Passed}
use Rattle.look.specs.declared.Course.{Course}
use Rattle.look.specs.declared.Turn.{Turn}
use Rattle.look.specs.declared.Step.{Step}
use Rattle.look.specs.declared.Step.TheVariants as step

-- one more use of the present entry, as far as its maximum goes
abbrev pub again_at : Guide → Course → Option Turn
again_at rows c = if leb (column (get_or rows c.row []) 5) c.used then None else Some (record { row = c.row; used = c.used + 1 })

-- the first use of an entry that is due; where none is, one more use of the present entry if that has the id
abbrev pub due_at : Guide → Course → Bytes → Option ℕ → Option Turn
due_at rows c id (Some k) = Some (record { row = k; used = 1 })
due_at rows c id None = if is_entry_row id (get_or rows c.row []) then again_at rows c else None

-- where a segment with this id stands
unfoldable pub turn_on : Guide → Course → Bytes → Option Turn
turn_on rows c id = due_at rows c id (next_due rows c.next id)

-- after the segment with this id: SE closes the set, ST opens another
unfoldable pub afterward : Bytes → Course → Option Step
afterward id c = if same id (ascii "SE") then Some (step.Closed c.at) else (if same id (ascii "ST") then None else Some (step.On c))

module _ (table : List Bool) (d : Delimiters) (rows : Guide) (body : Bytes) where
  -- the segment at the cursor, by what its elements come to
  abbrev pub step_by : Course → Turn → Option Passed → Option Step
  step_by c t None = None
  step_by c t (Some p) =
      afterward (take (id_end d (drop c.at body)) (drop c.at body))
      (record { at = c.at + p.length + 1; row = t.row; used = t.used; next = p.next; segments = c.segments + 1 })

  -- by where it stands
  abbrev pub step_on : Course → Option Turn → Option Step
  step_on c None = None
  step_on c (Some t) = step_by c t (passed table d (drop c.at body) rows t.row (id_end d (drop c.at body)))

  -- the next segment, where there is one
  unfoldable pub step_at : Course → Option Step
  step_at c = if ltb c.at (length body) then step_on c (turn_on rows c (take (id_end d (drop c.at body)) (drop c.at body))) else None

  module _ (start header : ℕ) where
    -- by what the next segment comes to; the look goes on as it is given
    abbrev pub look_by : (Course → Option SetAt) → Course → Option Step → Option SetAt
    look_by onward c None = None
    look_by onward c (Some (step.Closed end)) = Some (closed_at start header (c.segments + 1) c.at end)
    look_by onward c (Some (step.On further)) = onward further

    -- the look from the cursor on, over so many segments at most
    unfoldable pub look_from : ℕ → Course → Option SetAt
    look_from zero c = None
    look_from (suc fuel) c = look_by (look_from fuel) c (step_at c)

  -- by what the header comes to
  abbrev pub opened_by : ℕ → Option Passed → Option SetAt
  opened_by at None = None
  opened_by at (Some p) =
      look_from at (at + p.length) (length body) (record { at = at + p.length + 1; row = 0; used = 1; next = p.next; segments = 1 })

  -- the set whose header starts at a place
  unfoldable pub looked : ℕ → Option SetAt
  looked at =
      if ltb at (length body) then opened_by at (passed table d (drop at body) rows 0 (id_end d (drop at body))) else None
