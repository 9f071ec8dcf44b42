-- One step of the walk, as a function of the cursor: total, whatever the cursor says.
use Rattle.std.specs.Prelude.{ℕ, ◌+◌, Bool, ◌&&◌, ◌||◌, not, List, [], ◌∷◌, ltb, eqb, length, drop, get_or, if◌then◌else◌, Option, Some, None}
use Rattle.rules.specs.Base.{Bytes, ◌⇒◌, every, ascii, member}
use Rattle.rules.specs.Codes.{segment_number}
use Rattle.rules.specs.Cutting.{field, split}
use Rattle.rules.specs.declared.Delimiters.{Delimiters}
use Rattle.rules.specs.declared.SegmentCode.{SegmentCode}
use Rattle.rules.specs.declared.SegmentCode.TheVariants as code
use Rattle.text.specs.Text.{index_of, part}
use Rattle.tables.specs.Rows.{column, ids_in}
use Rattle.tables.specs.Reading.{Guide, entry_row, next_mandatory}
use Rattle.findings.specs.declared.Present.{Present}
use Rattle.findings.specs.declared.Walk.{Walk}
use Rattle.findings.specs.declared.Outcome.{Outcome}
use Rattle.findings.specs.declared.Standing.{Standing}
use Rattle.findings.specs.declared.Standing.TheVariants.{Unknown, Unlisted, Before, Again, Later}
use Rattle.findings.specs.declared.Step.{Step}
use Rattle.findings.specs.declared.Step.TheVariants as tell

-- one more, as far as 64 bits go
abbrev pub bumped : ℕ → ℕ
bumped n = if ltb n 18446744073709551615 then n + 1 else n

-- where a walk starts
unfoldable pub start : Walk
start = record { at = 0; position = 1; present = record { row = 0; used = 0 } }

-- which of two rows comes first, the present entry's or row k
abbrev pub compared : ℕ → ℕ → Standing
compared present k = if ltb k present then Before k else (if ltb present k then Later k else Again)

-- how an id stands to the entry in the present row
unfoldable pub stands : List (List ℕ) → Guide → ℕ → Bytes → Standing
stands ids rows present id =
    let k = entry_row rows id in
    if member id (ids_in ids) then (if ltb k (length rows) then compared present k else Unlisted) else Unknown

-- what a standing comes to: its own code, the row of the entry by which the elements are checked, the present entry after it, and the row from
-- which on entries are passed over
abbrev pub own_of : Guide → Standing → Present → Option SegmentCode
own_of rows Unknown p = Some code.NotKnown
own_of rows Unlisted p = Some code.NotInTable
own_of rows (Before k) p = Some code.OutOfOrder
own_of rows Again p = if ltb (column (get_or rows p.row []) 5) (bumped p.used) then Some code.BeyondMaximum else None
own_of rows (Later k) p = None

abbrev pub check_of : Standing → Present → ℕ
check_of Unknown p = p.row
check_of Unlisted p = p.row
check_of (Before k) p = k
check_of Again p = p.row
check_of (Later k) p = k

abbrev pub present_of : Standing → Present → Present
present_of Unknown p = p
present_of Unlisted p = p
present_of (Before k) p = p
present_of Again p = record { row = p.row; used = bumped p.used }
present_of (Later k) p = record { row = k; used = 1 }

abbrev pub passing_of : Standing → Present → ℕ
passing_of Unknown p = p.row
passing_of Unlisted p = p.row
passing_of (Before k) p = p.row
passing_of Again p = p.row
passing_of (Later k) p = bumped p.row

unfoldable pub outcome : Guide → Present → Standing → Outcome
outcome rows p st = record { own = own_of rows st p; check = check_of st p; from = passing_of st p; present = present_of st p }

-- what the header comes to: it is the first use of the first entry
abbrev pub header : Outcome
header = record { own = None; check = 0; from = 0; present = record { row = 0; used = 1 } }

-- what the next segment comes to, by its id
unfoldable pub outcome_at : List (List ℕ) → Guide → Walk → Bytes → Outcome
outcome_at ids rows w id = if eqb w.at 0 then header else outcome rows w.present (stands ids rows w.present.row id)

-- a segment with this code has its elements checked
abbrev pub is_checked : Option SegmentCode → Bool
is_checked own = not (eqb (segment_number own) 1) && not (eqb (segment_number own) 6)

-- the numbers of the codes of AK3 by the code of the standing
abbrev pub codes_of : Option SegmentCode → Bool → List ℕ
codes_of own faulty = let n = segment_number own in every ((not (eqb n 0) ⇒ n) ∷ (faulty ⇒ 8) ∷ [])

-- the first mandatory entry from row k on and before row e
unfoldable pub next_missing : Guide → ℕ → ℕ → Option ℕ
next_missing rows k e = let m = next_mandatory rows k e in if ltb m e && ltb m (length rows) then Some m else None

-- the segment up to end comes to this
unfoldable pub segment_by : Walk → ℕ → Outcome → Step
segment_by w end o =
    tell.Segment
    (record {
      start = w.at;
      end = end;
      own = o.own;
      check = o.check;
      passed = record { from = o.from; end = o.present.row; position = w.position };
    })
    (record { at = end + 1; position = bumped w.position; present = o.present })

-- SE is missing, and stands so to the present entry
abbrev pub trailer_by : Walk → Standing → Step
trailer_by w Unknown = tell.Done
trailer_by w Unlisted = tell.Done
trailer_by w (Before k) = tell.Done
trailer_by w Again = tell.Done
trailer_by w (Later k) = tell.Trailer (record { from = bumped w.present.row; end = k; position = w.position })

unfoldable pub trailer_step : List (List ℕ) → Guide → Walk → Step
trailer_step ids rows w = trailer_by w (stands ids rows w.present.row (ascii "SE"))

-- the next segment; after the last one, a missing trailer, but a set without a segment lacks none
unfoldable pub step : Bytes → Delimiters → List (List ℕ) → Guide → Bool → Walk → Step
step set d ids rows closed w =
    let end = w.at + index_of d.terminator (drop w.at set) in
    let id = field (split d.element (part set w.at end)) 0 in
    if ltb w.at (length set) then segment_by w end (outcome_at ids rows w id)
    else (if closed || eqb w.at 0 then tell.Done else trailer_step ids rows w)
