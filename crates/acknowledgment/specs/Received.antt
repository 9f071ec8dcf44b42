-- A set as received: which set it is, its table, and its report.
use Rattle.std.specs.Prelude.{ℕ, ◌≡◌, Bool, true, List, [], Option}
use Rattle.rules.specs.Base.{Bytes}
use Rattle.rules.specs.Cutting.{field, split}
use Rattle.rules.specs.Tables.{Table}
use Rattle.rules.specs.Sets.{Set, SetReport, notes_in, set_report}
use Rattle.rules.specs.declared.Delimiters.{Delimiters}
use Rattle.tables.specs.Reading.{Guide}
use Rattle.guides.specs.Choice.{place_of, table_at, Stands, OrderlyAt}
use Rattle.guides.specs.declared.Scope.{Scope}
use Rattle.text.specs.Text.{part}
use Rattle.sets.specs.declared.SetAt.{SetAt}
use Rattle.sets.proofs.Sets.{SetIs, set_in}
use Rattle.acknowledgment.specs.declared.set_block.ReceivedSet.{ReceivedSet}

-- the table of a set of a group with this scope, of this directory and these rows
abbrev pub table_by : List (List ℕ) → Guide → Scope → Set → Option Table
table_by ids rows scope s = table_at ids rows (place_of scope (field s.header 1))

-- every table of this scope stands among the rows
abbrev pub Scoped : Guide → Scope → Type 0
Scoped rows scope = (st01 : Bytes) → Stands rows (place_of scope st01)

-- every table of this scope is orderly by this directory
abbrev pub Ordered : List (List ℕ) → Guide → Scope → Type 0
Ordered ids rows scope = (st01 : Bytes) → OrderlyAt ids rows (place_of scope st01)

-- the set at a place, with the table that its ST01 gives it
abbrev pub received_at : Delimiters → Scope → Bytes → SetAt → Bool → Bool → ReceivedSet
received_at d scope body place repeated quiet = record {
  place = place;
  table = place_of scope (field (split d.element (part body place.start place.header)) 1);
  repeated = repeated;
  quiet = quiet;
}

-- the set itself
abbrev pub set_of : Delimiters → Bytes → ReceivedSet → Set
set_of d body set = set_in d body set.place.start set.place

-- its report, after sets with these ST02
abbrev pub report_of : Delimiters → List (List ℕ) → Guide → Bytes → ReceivedSet → List Bytes → SetReport
report_of d ids rows body set earlier = set_report d (table_at ids rows set.table) earlier (set_of d body set)

-- where it is quiet, nothing is told of it
abbrev pub Untold : Delimiters → List (List ℕ) → Guide → Bytes → ReceivedSet → Type 0
Untold d ids rows body set = set.quiet ≡ true → notes_in d (table_at ids rows set.table) (set_of d body set) ≡ []

-- A set stands at its place, and its table among the rows.
pub record ReceivedIs (d : Delimiters) (body : Bytes) (rows : Guide) (set : ReceivedSet) : Type 0 where
  pub is : SetIs d body set.place.start set.place
  pub stands : Stands rows set.table
