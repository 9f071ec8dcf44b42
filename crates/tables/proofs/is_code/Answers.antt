-- `tables::is_code` meets its contract.
use mathlib.Core.Path.{◌∙◌, ap}
use mathlib.Core.List.{List}
use Prim.Native.Nat.{ℕ}
use lib.ListN.{drop, length-drop}
use lib.Seq.{take_all}
use Rattle.rules.specs.Base.{same}
use Rattle.tables.specs.Rows.{filled}
use Rattle.tables.proofs.Numbers.{same_swap}
use native.Mathlib.Omega.{arith}
use Rattle.tables.proofs.is_code.Goals as goal

pub returns : goal.returns
returns c = c.spells.ensures ∙ same_swap _ _ ∙ ap (λ (l : List ℕ). same c.args.value.now (filled l)) (take_all 5 (drop 1 c.args.row) (omega (arith, length-drop 1 c.args.row, c.well_formed.0.1.0.1)))
