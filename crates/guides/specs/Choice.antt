-- Which table a set has, by its group's GS and its ST01, and where that stands among the rows of all tables.
use Rattle.std.specs.Prelude.{ℕ, ◌-◌, ◌≤◌, Bool, true, false, ◌&&◌, List, length, take, drop, if◌then◌else◌, Option, None, Some}
use Rattle.rules.specs.Base.{Bytes, ascii, same}
use Rattle.rules.specs.Cutting.{Segment}
use Rattle.rules.specs.Tables.{Table}
use Rattle.rules.specs.Groups.{supported, edition}
use Rattle.tables.specs.Rows.{table_of}
use Rattle.tables.specs.Reading.{Guide, Limits, Orderly}
use Rattle.guides.specs.declared.Edition.{Edition}
use Rattle.guides.specs.declared.Edition.TheVariants.{E006010, E004010, Other}
use Rattle.guides.specs.declared.Scope.{Scope}
use Rattle.guides.specs.declared.TableAt.{TableAt}

-- there are tables for an edition
abbrev pub has_tables : Edition → Bool
has_tables E006010 = true
has_tables E004010 = true
has_tables Other = false

-- the edition that six bytes name
unfoldable pub edition_in : Bytes → Edition
edition_in bs = if same bs (ascii "006010") then E006010 else (if same bs (ascii "004010") then E004010 else Other)

-- the scope of a group with this GS
unfoldable pub scope_in : Segment → Scope
scope_in gs = record { supported = supported gs; edition = edition_in (edition gs) }

-- where the table of an edition stands
abbrev pub place_in : Edition → Option TableAt
place_in E006010 = Some (record { start = 0; end = 20 })
place_in E004010 = Some (record { start = 20; end = 36 })
place_in Other = None

-- where the table of a set stands, by its group's scope and its ST01
unfoldable pub place_of : Scope → Bytes → Option TableAt
place_of scope st01 = if scope.supported && same st01 (ascii "990") then place_in scope.edition else None

-- the rows at a place
abbrev pub rows_at : Guide → ℕ → ℕ → Guide
rows_at rows from end = take (end - from) (drop from rows)

-- the table that stands at a place, with this directory
abbrev pub table_at : List (List ℕ) → Guide → Option TableAt → Option Table
table_at ids rows None = None
table_at ids rows (Some t) = Some (table_of ids (rows_at rows t.start t.end))

-- what stands at a place lies among the rows, and keeps the limits
pub record Lies (rows : Guide) (from end : ℕ) : Type 0 where
  pub ordered : from ≤ end
  pub within : end ≤ length rows
  pub limits : Limits (rows_at rows from end)

abbrev pub Stands : Guide → Option TableAt → Type 0
Stands rows None = Unit {0}
Stands rows (Some t) = Lies rows t.start t.end

-- what stands at a place is orderly by a directory
abbrev pub OrderlyAt : List (List ℕ) → Guide → Option TableAt → Type 0
OrderlyAt ids rows None = Unit {0}
OrderlyAt ids rows (Some t) = Orderly ids (rows_at rows t.start t.end)
