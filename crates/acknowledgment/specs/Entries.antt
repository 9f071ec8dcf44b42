-- The entries of an interchange: those of the sets of each group, and after them one that tells how long the body of the group is.
use Rattle.std.specs.Prelude.{ℕ, ◌+◌, ◌*◌, ◌<◌, ◌≤◌, ◌≡◌, Bool, false, List, [], ◌∷◌, map, eqb, length, take, drop, get_or, Option, None, Some, Result, Ok, Err}
use Rattle.rules.specs.Base.{Bytes, first}
use Rattle.rules.specs.Cutting.{Segment, delimiters, split, segments}
use Rattle.rules.specs.Numbers.{padded}
use Rattle.rules.specs.Tables.{Table}
use Rattle.rules.specs.Sets.{Set}
use Rattle.rules.specs.Groups.{Group, groups_of, group_report, accepted_in}
use Rattle.rules.specs.Refusals.{groups_rules, most_groups, refusal}
use Rattle.rules.specs.Response.{out, transaction_set, transaction_sets}
use Rattle.rules.specs.Refused.{refused}
use Rattle.rules.specs.declared.Call.{Call}
use Rattle.rules.specs.declared.Delimiters.{Delimiters}
use Rattle.rules.specs.declared.Refusal.{Refusal}
use Rattle.text.specs.Text.{part}
use Rattle.look.specs.Bytes.{valid_bytes}
use Rattle.tables.specs.Reading.{Guide}
use Rattle.guides.specs.Choice.{scope_in}
use Rattle.guides.specs.Encoded.{directory_rows}
use Rattle.guides.proofs.Chosen.{all_rows}
use Rattle.envelope.specs.Places.{group_at, next_group}
use Rattle.envelope.specs.declared.GroupAt.{GroupAt}
use Rattle.envelope.specs.declared.Envelope.{Envelope}
use Rattle.envelope.proofs.Laws.{EnvelopeIs}
use Rattle.sets.proofs.Refused.{Passed}
use Rattle.register.proofs.Entered.{Linked}
use Rattle.verdicts.specs.declared.Tally.{Tally}
use Rattle.writing.specs.Over.{sat, From}
use Rattle.acknowledgment.specs.Received.{table_by}
use Rattle.acknowledgment.specs.Surveys.{reports, Looked, acceptances, Cleared}
use Rattle.acknowledgment.specs.declared.transaction.GroupSurvey.{GroupSurvey}
use Rattle.acknowledgment.specs.declared.transaction.Progress.{Progress}
use Rattle.acknowledgment.specs.declared.set_block.Mark.{Mark}
use Rattle.acknowledgment.specs.declared.set_block.Mark.TheVariants.{Accepted, GroupEnd}

-- 1. The group at a place.
abbrev pub header_of : Delimiters → Bytes → GroupAt → Segment
header_of d i g = split d.element (part i g.gs g.gs_end)

abbrev pub body_of : Bytes → GroupAt → Bytes
body_of i g = part i g.body g.body_end

-- the table of each of its sets
abbrev pub table_of : Delimiters → Bytes → GroupAt → Set → Option Table
table_of d i g = table_by directory_rows all_rows (scope_in (header_of d i g))

-- its 997 with this number
abbrev pub transaction_of : Delimiters → Bytes → GroupAt → ℕ → List Segment
transaction_of d i g n = transaction_set (padded 4 n) (group_report d (group_at d i g))

-- It can be answered: none of 11 to 13 applies, and the interchange is not too long.
pub record Answerable (d : Delimiters) (i : Bytes) (g : GroupAt) : Type 0 where
  pub ordered : g.body ≤ g.body_end
  pub inside : g.body_end ≤ length i
  pub passed : Passed d (segments d (body_of i g))
  pub short : length i ≤ 65536
  pub apart : eqb d.element d.terminator ≡ false

-- 2. One look at a group.
-- The entries of a group with so many sets, from its first on; its last has the mark of an end.
pub record GroupEntries (d : Delimiters) (i : Bytes) (g : GroupAt) (sets : Tally) (starts : List ℕ) (marks : List Mark) : Type 0 where
  pub answerable : Answerable d i g
  pub looked : Looked d (table_of d i g) (body_of i g) starts marks sets.received
  pub allowed : sets.accepted ≡ accepted_in (reports d (table_of d i g) (body_of i g))
  pub counted : sets.accepted ≡ acceptances (take sets.received marks)
  pub stored : sets.received < length starts
  pub marked : sets.received < length marks
  pub ended : get_or marks sets.received Accepted ≡ GroupEnd
  pub ends : get_or starts sets.received 0 ≡ length (body_of i g)

-- The group can be looked at by these tables, and has room for its entries, of which the first has this number.
pub record Surveyable (d : Delimiters) (i : Bytes) (g : GroupAt) (valid : List Bool) (ids : List (List ℕ)) (rows : Guide) (first : ℕ) (starts : List ℕ) (marks : List Mark) (links : List ℕ) : Type 0 where
  pub answerable : Answerable d i g
  pub bytes : valid ≡ valid_bytes d
  pub directory : ids ≡ directory_rows
  pub tables : rows ≡ all_rows
  pub cleared : Cleared d (body_of i g) first starts marks links
  pub small : length (body_of i g) < 65536

-- It was looked at.
pub record SurveyedGroup (d : Delimiters) (i : Bytes) (g : GroupAt) (first : ℕ) (starts : List ℕ) (marks : List Mark) (links : List ℕ) (r : GroupSurvey) : Type 0 where
  pub sets : Tally
  pub recorded : GroupEntries d i g sets starts marks
  pub number : r.entries ≡ sets.received + 1
  pub linked : Linked links (first + r.entries)
  pub length : (n : ℕ) → r.length ≡ sat (length (out d (transaction_of d i g n)))

-- 3. The entries of all groups.
-- the groups of an interchange, and their 997s
abbrev pub groups_by : Delimiters → Bytes → List Group
groups_by d i = groups_of (segments d i)

abbrev pub acknowledgments : Delimiters → Bytes → List Segment
acknowledgments d i = transaction_sets 1 (map (group_report d) (groups_by d i))

-- From entry k on there are those of the groups from a step on.
pub data Entries (d : Delimiters) (i : Bytes) (starts : List ℕ) (marks : List Mark) : ℕ → Option GroupAt → List Group → Type 0 where
  no_entry : {k : ℕ} → Entries d i starts marks k None []
  entries_of : {k : ℕ} {g : GroupAt} {gs : List Group} {sets : Tally} → GroupEntries d i g sets (drop k starts) (drop k marks)
      → Entries d i starts marks (k + sets.received + 1) (next_group d i g.next) gs
      → Entries d i starts marks k (Some g) (group_at d i g ∷ gs)

-- Nothing is entered, and there is room for the entries of every interchange with 16 groups that is as long as this one.
pub record Roomy (i : Bytes) (starts : List ℕ) (marks : List Mark) (links : List ℕ) : Type 0 where
  pub none : (s : ℕ) → get_or links s 0 ≡ 0
  pub places : length i + 192 < 12 * length starts + 12
  pub marked : length marks ≡ length starts
  pub linked : length links ≡ 1024 + 4 * length starts
  pub few : length starts ≤ 5477

-- The groups of an interchange with this envelope can be looked at.
pub record Sound (d : Delimiters) (i : Bytes) (e : Envelope) : Type 0 where
  pub envelope : EnvelopeIs most_groups d i e
  pub short : length i ≤ 65536
  pub apart : eqb d.element d.terminator ≡ false

pub record Enterable (d : Delimiters) (i : Bytes) (e : Envelope) (valid : List Bool) (ids : List (List ℕ)) (rows : Guide) (starts : List ℕ) (marks : List Mark) (links : List ℕ) : Type 0 where
  pub sound : Sound d i e
  pub bytes : valid ≡ valid_bytes d
  pub directory : ids ≡ directory_rows
  pub tables : rows ≡ all_rows
  pub room : Roomy i starts marks links

-- What a look at all groups comes to: none of 9 to 13 applies and the entries are there, or the first of them that applies.
abbrev pub GroupsSurveyed : Delimiters → Bytes → Envelope → List ℕ → List Mark → Result ℕ Refusal → Type 0
GroupsSurveyed d i e starts marks (Ok n) =
    (first (groups_rules d (groups_by d i)) ≡ 0)
    × ((n ≡ sat (length (out d (acknowledgments d i)))) × Entries d i starts marks 0 (Some e.first) (groups_by d i))
GroupsSurveyed d i e starts marks (Err r) =
    (r ≡ refused (first (groups_rules d (groups_by d i)))) × (first (groups_rules d (groups_by d i)) ≡ 0 → ⊥)

-- 4. What is written.
-- The next group can be answered by its entries.
pub record Writable (d : Delimiters) (i : Bytes) (p : Progress) (ids : List (List ℕ)) (rows : Guide) (starts : List ℕ) (marks : List Mark) : Type 0 where
  pub directory : ids ≡ directory_rows
  pub tables : rows ≡ all_rows
  pub number : p.number ≤ most_groups
  pub few : length starts ≤ 5477
  pub group : GroupAt
  pub found : next_group d i p.at ≡ Some group
  pub sets : Tally
  pub recorded : GroupEntries d i group sets (drop p.entry starts) (drop p.entry marks)

-- Its 997 was written, and the rest goes on after it.
pub record WroteGroup (d : Delimiters) (i : Bytes) (p : Progress) (g : GroupAt) (sets : Tally) (r : Progress) (o o' : Bytes) : Type 0 where
  pub text : From p.length (out d (transaction_of d i g p.number)) r.length o o'
  pub at : r.at ≡ g.next
  pub entry : r.entry ≡ p.entry + sets.received + 1
  pub number : r.number ≡ p.number + 1

-- All groups can be answered by their entries.
pub record Recorded (d : Delimiters) (i : Bytes) (e : Envelope) (ids : List (List ℕ)) (rows : Guide) (starts : List ℕ) (marks : List Mark) : Type 0 where
  pub sound : Sound d i e
  pub directory : ids ≡ directory_rows
  pub tables : rows ≡ all_rows
  pub few : length starts ≤ 5477
  pub entries : Entries d i starts marks 0 (Some e.first) (groups_by d i)

-- The interchange has this envelope and these delimiters, and none of 1 to 8 applies.
pub record Answering (d : Delimiters) (i : Bytes) (e : Envelope) (call : Call) : Type 0 where
  pub sound : Sound d i e
  pub cut : d ≡ delimiters i
  pub decides : refusal i call ≡ first (groups_rules d (groups_by d i))
