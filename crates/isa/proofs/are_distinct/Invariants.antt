-- `isa::are_distinct` meets its contract.
use mathlib.Core.Path.{◌≡◌}
use lib.ListN.{drop}
use Rattle.rules.specs.Refusals.{distinct}
use Rattle.isa.proofs.are_distinct.Given as goal

abbrev pub invariant-loop-k : goal.invariant-loop-k
invariant-loop-k l = distinct l.bytes ≡ distinct (drop l.k l.bytes)
