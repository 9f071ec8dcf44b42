-- What one look at the sets of a group tells: where each starts, and by its mark whether it is accepted and whether its control number was used before.
use Rattle.std.specs.Prelude.{ℕ, suc, ◌+◌, ◌-◌, ◌<◌, ◌≤◌, ◌≡◌, Bool, true, false, ◌&&◌, List, [], ◌∷◌, eqb, length, take, drop, get_or, set, if◌then◌else◌, Option}
use Rattle.rules.specs.Base.{Bytes, ascii, same, member}
use Rattle.rules.specs.Cutting.{Segment, field, split, segments}
use Rattle.rules.specs.Numbers.{declares}
use Rattle.rules.specs.Tables.{Table}
use Rattle.rules.specs.Sets.{Set, SetReport, is_st, sets_of, outside, control_of, set_report, accepted}
use Rattle.rules.specs.Groups.{set_reports, accepted_in}
use Rattle.rules.specs.Refusals.{good_st}
use Rattle.rules.specs.Response.{block, blocks}
use Rattle.text.specs.Text.{index_of, part}
use Rattle.look.specs.Bytes.{valid_bytes}
use Rattle.rules.specs.declared.Delimiters.{Delimiters}
use Rattle.tables.specs.Reading.{Guide}
use Rattle.guides.specs.declared.Scope.{Scope}
use Rattle.sets.specs.Places.{set_at, control_at, controls_at}
use Rattle.sets.specs.declared.SetAt.{SetAt}
use Rattle.sets.proofs.Sets.{SetIs, set_in}
use Rattle.sets.proofs.Refused.{Passed}
use Rattle.register.specs.Trees.{slot_of}
use Rattle.register.proofs.Entered.{Linked, Entered}
use Rattle.verdicts.specs.declared.Tally.{Tally}
use Rattle.acknowledgment.specs.declared.set_block.Mark.{Mark}
use Rattle.acknowledgment.specs.declared.set_block.Mark.TheVariants.{Accepted, Rejected, Repeated, QuietRejected, QuietRepeated, GroupEnd}
use Rattle.acknowledgment.specs.declared.set_block.SeenSet.{SeenSet}
use Rattle.acknowledgment.specs.declared.survey.Survey.{Survey}
use Rattle.acknowledgment.specs.declared.survey.SurveyedSet.{SurveyedSet}
use Rattle.acknowledgment.specs.Writers.{Measures}
use Rattle.acknowledgment.specs.Received.{Scoped, Ordered}

-- 1. A set is entered among those before it.
-- There is room for set k of a group, which starts at a place; first is the number of the group's first entry.
pub record Room (first : ℕ) (starts links : List ℕ) (k at : ℕ) : Type 0 where
  pub start : k < length starts
  pub link : slot_of (first + k) 0 ≤ length links
  pub number : first + k < 65535
  pub place : at < 65536

-- Set k, which starts at a place, was entered after those that start at these places; r tells whether its ST02 is one of theirs.
pub record EnteredNext (d : Delimiters) (body : Bytes) (first : ℕ) (starts : List ℕ) (k at : ℕ) (r : Bool) (starts' links : List ℕ) : Type 0 where
  pub repeated : r ≡ member (control_at d body at) (controls_at d body (take k starts))
  pub stored : starts' ≡ set starts k at
  pub entered : Entered d body first starts' links (k + 1)

-- 2. The set at a place, and its report after sets with these ST02.
abbrev pub set_here : Delimiters → Bytes → ℕ → Set
set_here d body at = set_in d body at (set_at d body at)

abbrev pub report_at : Delimiters → (Set → Option Table) → Bytes → ℕ → List Bytes → SetReport
report_at d table body at earlier = set_report d (table (set_here d body at)) earlier (set_here d body at)

-- the reports of all sets of a group
abbrev pub reports : Delimiters → (Set → Option Table) → Bytes → List SetReport
reports d table body = set_reports d table [] (sets_of (segments d body))

-- the reports of the sets from a place on; those before it start at these places
unfoldable pub remaining : Delimiters → (Set → Option Table) → Bytes → List ℕ → ℕ → List SetReport
remaining d table body before at = set_reports d table (controls_at d body before) (sets_of (segments d (drop at body)))

-- 3. One look at a set.
-- the header at a place
abbrev pub header_at : Delimiters → Bytes → ℕ → Segment
header_at d body at = split d.element (take (index_of d.terminator (drop at body)) (drop at body))

-- A header that can be answered starts at a place.
pub record Headed (d : Delimiters) (body : Bytes) (at : ℕ) : Type 0 where
  pub inside : at < length body
  pub named : is_st (header_at d body at) ≡ true
  pub good : good_st d (header_at d body at) ≡ true

-- the trailer of a set at a place declares its segments, and has this control number
abbrev pub closed_well : Delimiters → Bytes → SetAt → Bytes → Bool
closed_well d body place control =
    let se = split d.element (part body place.trailer (place.end - 1)) in
    declares 10 (field se 1) place.segments && same (field se 2) control

-- The set at a place, with this control number, can be looked at by a table of the valid bytes and by the tables of this scope.
pub record Sighted (d : Delimiters) (body : Bytes) (valid : List Bool) (rows : Guide) (scope : Scope) (at : ℕ) (control : Bytes) : Type 0 where
  pub headed : Headed d body at
  pub is : SetIs d body at (set_at d body at)
  pub numbered : control ≡ control_at d body at
  pub bytes : valid ≡ valid_bytes d
  pub apart : eqb d.element d.terminator ≡ false
  pub tables : Scoped rows scope
  pub short : length body ≤ 65536
  pub ids : List (List ℕ)
  pub ordered : Ordered ids rows scope

-- What a look told of the set at a place: whether it has no code where its number was not used before, and maybe that nothing is told of it.
pub record SeenIs (d : Delimiters) (table : Set → Option Table) (body : Bytes) (at : ℕ) (r : SeenSet) : Type 0 where
  pub clean : r.clean ≡ accepted (report_at d table body at [])
  pub untold : r.quiet ≡ true → (report_at d table body at []).notes ≡ []

-- 4. Marks.
-- by whether a set's number was used before, whether it is known that nothing is told of it, and whether it has no code else
abbrev pub mark_by : Bool → Bool → Bool → Mark
mark_by repeated quiet clean =
    if repeated then (if quiet then QuietRepeated else Repeated) else (if clean then Accepted else (if quiet then QuietRejected else Rejected))

-- what a mark says
abbrev pub is_accepted : Mark → Bool
is_accepted Accepted = true
is_accepted _ = false

abbrev pub is_repeated : Mark → Bool
is_repeated Repeated = true
is_repeated QuietRepeated = true
is_repeated _ = false

abbrev pub is_quiet : Mark → Bool
is_quiet QuietRejected = true
is_quiet QuietRepeated = true
is_quiet _ = false

abbrev pub is_end : Mark → Bool
is_end GroupEnd = true
is_end _ = false

-- A mark is right by whether a set's number was used before, and its report where it was not.
pub record MarkIs (repeated : Bool) (r : SetReport) (mark : Mark) : Type 0 where
  pub quiet : Bool
  pub untold : quiet ≡ true → r.notes ≡ []
  pub marked : mark ≡ mark_by repeated quiet (accepted r)

abbrev pub Marked : Delimiters → (Set → Option Table) → Bytes → ℕ → List Bytes → Mark → Type 0
Marked d table body at earlier mark = MarkIs (member (control_of (set_here d body at)) earlier) (report_at d table body at []) mark

-- the block of a set that is accepted
unfoldable pub acceptance : Set → List Segment
acceptance s = (ascii "AK2" ∷ field s.header 1 ∷ control_of s ∷ []) ∷ (ascii "AK5" ∷ ascii "A" ∷ []) ∷ []

-- The set at a place was looked at: its mark, what its block comes to, and where it ends.
pub record SurveyedIs (d : Delimiters) (table : Set → Option Table) (body : Bytes) (at : ℕ) (repeated : Bool) (r : SurveyedSet) : Type 0 where
  pub marked : MarkIs repeated (report_at d table body at []) r.mark
  pub measured : (earlier : List Bytes) → repeated ≡ member (control_of (set_here d body at)) earlier
      → Measures d (block (report_at d table body at earlier)) r.block
  pub ends : r.end ≡ (set_at d body at).end

-- 5. The look at all sets.
-- Set k starts at a place and has this mark; those before it start at these places.
pub record Seen (d : Delimiters) (table : Set → Option Table) (body : Bytes) (before : List ℕ) (k at : ℕ) (mark : Mark) : Type 0 where
  pub headed : Headed d body at
  pub clean : outside (segments d (drop at body)) ≡ false
  pub rest : drop k (reports d table body) ≡ remaining d table body before at
  pub marked : Marked d table body at (controls_at d body before) mark

-- The entries of a group are those of its n sets.
pub record Looked (d : Delimiters) (table : Set → Option Table) (body : Bytes) (starts : List ℕ) (marks : List Mark) (n : ℕ) : Type 0 where
  pub received : n ≡ length (reports d table body)
  pub stored : n ≤ length starts
  pub marked : n ≤ length marks
  pub seen : (k : ℕ) → k < n → Seen d table body (take k starts) k (get_or starts k 0) (get_or marks k Accepted)

-- how many marks say that their set is accepted
unfoldable pub acceptances : List Mark → ℕ
acceptances [] = 0
acceptances (m ∷ ms) = let r = acceptances ms in if is_accepted m then suc r else r

-- All sets of a group were looked at.
pub record Surveyed (d : Delimiters) (table : Set → Option Table) (body : Bytes) (starts : List ℕ) (marks : List Mark) (r : Survey) : Type 0 where
  pub looked : Looked d table body starts marks r.sets.received
  pub allowed : r.sets.accepted ≡ accepted_in (reports d table body)
  pub counted : r.sets.accepted ≡ acceptances (take r.sets.received marks)
  pub measured : Measures d (blocks (reports d table body)) r.blocks

-- The sets of a group can be looked at.
pub record Open (d : Delimiters) (body : Bytes) (valid : List Bool) (rows : Guide) (scope : Scope) : Type 0 where
  pub bytes : valid ≡ valid_bytes d
  pub apart : eqb d.element d.terminator ≡ false
  pub passed : Passed d (segments d body)
  pub short : length body ≤ 65536
  pub tables : Scoped rows scope

-- No set of the group is entered in the links, and there is room for every set and for one entry more; first is the number of the group's first entry.
pub record Cleared (d : Delimiters) (body : Bytes) (first : ℕ) (starts : List ℕ) (marks : List Mark) (links : List ℕ) : Type 0 where
  pub none : Linked links first
  pub places : length (sets_of (segments d body)) < length starts
  pub marked : length (sets_of (segments d body)) < length marks
  pub linked : slot_of (first + length (sets_of (segments d body))) 0 ≤ length links
  pub few : first + length (sets_of (segments d body)) < 65535

-- 6. The end of a group's entries.
-- r sets with a of them accepted, and those whose marks follow, up to the mark that ends their group
unfoldable pub tally_from : ℕ → ℕ → List Mark → Tally
tally_from r a [] = record { received = r; accepted = a }
tally_from r a (m ∷ ms) =
    let on = tally_from (r + 1) (if is_accepted m then a + 1 else a) ms in
    if is_end m then record { received = r; accepted = a } else on

abbrev pub tally_of : List Mark → Tally
tally_of = tally_from 0 0
