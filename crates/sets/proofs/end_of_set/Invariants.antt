-- `sets::end_of_set` meets its contract: each turn goes on through the set, or finds its end.
use mathlib.Core.Bool.{true}
use Prim.Native.Nat.{◌+◌, ◌-◌}
use lib.ListN.{length}
use Rattle.sets.specs.Places.{ThroughSet}
use Rattle.sets.proofs.end_of_set.Given as goal

abbrev pub invariant-loop-next : goal.invariant-loop-next
invariant-loop-next l = ThroughSet l.d l.i l.at true l.next

abbrev pub decreases-loop-next : goal.decreases-loop-next
decreases-loop-next l = length l.i + 1 - l.next
