-- `tables::next_mandatory` meets its contract.
use mathlib.Core.Path.{◌≡◌}
use lib.ListN.{take}
use Rattle.text.specs.Text.{next_where}
use Rattle.tables.specs.Reading.{is_mandatory_row}
use Rattle.tables.proofs.next_mandatory.Given as goal

abbrev pub invariant-loop-k : goal.invariant-loop-k
invariant-loop-k l =
    next_where is_mandatory_row (take l.fn.end l.guide) l.from ≡ next_where is_mandatory_row (take l.fn.end l.guide) l.k
