-- `text::find_near` meets its contract.
use Prim.Native.Nat.{◌+◌}
use mathlib.Core.Path.{◌≡◌}
use lib.ListN.{drop}
use Rattle.text.specs.Text.{index_of}
use Rattle.text.proofs.find_near.Given as goal

abbrev pub invariant-loop-i : goal.invariant-loop-i
invariant-loop-i l = l.from + index_of l.b (drop l.from l.s) ≡ l.i + index_of l.b (drop l.i l.s)
