-- `tables::next_due` meets its contract.
use Prim.Native.Nat.{ℕ}
use mathlib.Core.Path.{◌≡◌}
use mathlib.Core.Bool.{Bool, ◌||◌}
use mathlib.Core.List.{List}
use Rattle.rules.specs.Base.{Bytes}
use Rattle.text.specs.Text.{next_where}
use Rattle.tables.specs.Reading.{is_entry_row, is_mandatory_row}
use Rattle.tables.proofs.next_due.Given as goal

-- the row at which the search stops: the segment with the id, or a mandatory one
abbrev pub stops : Bytes → List ℕ → Bool
stops id r = is_entry_row id r || is_mandatory_row r

abbrev pub invariant-loop-k : goal.invariant-loop-k
invariant-loop-k l = next_where (stops l.id) l.guide l.from ≡ next_where (stops l.id) l.guide l.k
