-- What a walk has left to tell: a slot for each segment and for a missing trailer, and in each slot its events.
use Rattle.std.specs.Prelude.{ℕ, Bool, not, List, [], ◌∷◌, ◌++◌, map, eqb, drop, if◌then◌else◌, Option}
use Rattle.std.proofs.Math.Seq.{slice}
use Rattle.rules.specs.Base.{Bytes, ascii, null}
use Rattle.rules.specs.Cutting.{Segment, field, split, segments}
use Rattle.rules.specs.Elements.{Finding, findings}
use Rattle.rules.specs.Segments.{echoed}
use Rattle.rules.specs.declared.Delimiters.{Delimiters}
use Rattle.rules.specs.declared.SegmentCode.{SegmentCode}
use Rattle.text.specs.Text.{part}
use Rattle.tables.specs.Reading.{Guide, entry_at, id_at, id_bytes, is_mandatory_row}
use Rattle.findings.specs.Events.{Event, Line, Element}
use Rattle.findings.specs.Steps.{bumped, codes_of, is_checked, stands, outcome, header, present_of}
use Rattle.findings.specs.declared.Outcome.{Outcome}
use Rattle.findings.specs.declared.Passed.{Passed}
use Rattle.findings.specs.declared.Present.{Present}
use Rattle.findings.specs.declared.Taken.{Taken}
use Rattle.findings.specs.declared.Walk.{Walk}
use Rattle.findings.specs.declared.Standing.{Standing}
use Rattle.findings.specs.declared.Standing.TheVariants.{Unknown, Unlisted, Before, Again, Later}
use Rattle.findings.specs.declared.Step.{Step}
use Rattle.findings.specs.declared.Step.TheVariants as tell

abbrev pub Slots : Type 0
Slots = List (List Event)

-- the events of the slots
unfoldable pub events : Slots → List Event
events [] = []
events (s ∷ ss) = s ++ events ss

-- the mandatory segments among rows, each missing at position n
unfoldable pub missing_in : ℕ → Guide → List Event
missing_in n [] = []
missing_in n (r ∷ rs) =
    let more = missing_in n rs in
    if is_mandatory_row r then Line (id_bytes (id_at (r ∷ []) 0)) n (3 ∷ []) ∷ more else more

-- those that are passed over
abbrev pub passed_events : Guide → Passed → List Event
passed_events rows p = missing_in p.position (slice p.from p.end rows)

-- an AK3 where there are codes
abbrev pub lined : Bytes → ℕ → List ℕ → List Event
lined id n [] = []
lined id n (c ∷ cs) = Line id n (c ∷ cs) ∷ []

module _ (d : Delimiters) (rows : Guide) where
  -- the findings of a segment, where its code has its elements checked
  abbrev pub checked : Option SegmentCode → ℕ → Segment → List Finding
  checked own check s = if is_checked own then findings d (entry_at rows check) s else []

  -- the line of a segment at position n, and its findings
  unfoldable pub segment_events : Option SegmentCode → ℕ → ℕ → Segment → List Event
  segment_events own check n s =
      let fs = checked own check s in
      lined (echoed (field s 0)) n (codes_of own (not (null fs))) ++ map Element fs

  -- what it passes over, and then its own
  abbrev pub outcome_events : ℕ → Segment → Outcome → List Event
  outcome_events n s o = missing_in n (slice o.from o.present.row rows) ++ segment_events o.own o.check n s

  -- the same of a segment that lies in a set
  abbrev pub taken_events : Bytes → Taken → List Event
  taken_events set t =
      passed_events rows t.passed
      ++ segment_events t.own t.check t.passed.position (split d.element (part set t.start t.end))

module _ (d : Delimiters) (ids : List (List ℕ)) (rows : Guide) (closed : Bool) where
  -- what a missing trailer at position n passes over, by the standing of SE
  abbrev pub trailer_slots : Present → ℕ → Standing → Slots
  trailer_slots p n Unknown = []
  trailer_slots p n Unlisted = []
  trailer_slots p n (Before k) = []
  trailer_slots p n Again = []
  trailer_slots p n (Later k) = missing_in n (slice (bumped p.row) k rows) ∷ []

  -- the segments from position n on
  unfoldable pub walk_slots : Present → ℕ → List Segment → Slots
  walk_slots p n [] = if closed then [] else trailer_slots p n (stands ids rows p.row (ascii "SE"))
  walk_slots p n (s ∷ ss) =
      let st = stands ids rows p.row (field s 0) in
      outcome_events d rows n s (outcome rows p st) ∷ walk_slots (present_of st p) (bumped n) ss

  -- the header at position n, and the segments after it
  unfoldable pub set_slots : ℕ → List Segment → Slots
  set_slots n [] = []
  set_slots n (s ∷ ss) = outcome_events d rows n s header ∷ walk_slots header.present (bumped n) ss

module _ (set : Bytes) (d : Delimiters) (ids : List (List ℕ)) (rows : Guide) (closed : Bool) where
  unfoldable pub remaining : Walk → Slots
  remaining w =
      let ss = segments d (drop w.at set) in
      if eqb w.at 0 then set_slots d ids rows closed w.position ss else walk_slots d ids rows closed w.present w.position ss

  -- what a step says: its events, and what is left after it
  abbrev pub said : Step → Slots
  said (tell.Segment t v) = taken_events d rows set t ∷ remaining v
  said (tell.Trailer p) = passed_events rows p ∷ []
  said tell.Done = []
