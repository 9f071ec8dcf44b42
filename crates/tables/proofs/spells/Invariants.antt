-- `tables::spells` meets its contract.
use mathlib.Core.Path.{◌≡◌}
use lib.ListN.{drop}
use Rattle.rules.specs.Base.{same}
use Rattle.tables.specs.Rows.{filled}
use Rattle.tables.proofs.spells.Given as goal

abbrev pub invariant-loop-i : goal.invariant-loop-i
invariant-loop-i l = same (filled l.numbers) l.bytes ≡ same (filled (drop l.i l.numbers)) (drop l.i l.bytes)
