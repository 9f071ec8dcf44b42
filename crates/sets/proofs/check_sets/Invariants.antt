-- `sets::check_sets` meets its contract: what is left of the body and whether every header so far is good decide.
use Prim.Native.Nat.{◌+◌, ◌-◌}
use lib.ListN.{length}
use Rattle.sets.proofs.Refused.{Decides}
use Rattle.sets.proofs.check_sets.Given as goal

abbrev pub invariant-loop-next : goal.invariant-loop-next
invariant-loop-next l = Decides l.d l.i l.at l.good l.next

abbrev pub decreases-loop-next : goal.decreases-loop-next
decreases-loop-next l = length l.i + 1 - l.next
