-- `envelope::groups_end` meets its contract.
use mathlib.Core.Path.{◌≡◌}
use Prim.Native.Nat.{◌-◌, ◌≤◌}
use Rattle.envelope.specs.Places.{groups_end}
use Rattle.envelope.proofs.groups_end.Given as goal

abbrev pub invariant-loop-next : goal.invariant-loop-next
invariant-loop-next l = (l.groups ≤ l.limit) × (groups_end l.limit l.d l.i 0 l.initial.iea l.initial.next ≡ groups_end (l.limit - l.groups) l.d l.i l.groups l.iea l.next)

abbrev pub decreases-loop-next : goal.decreases-loop-next
decreases-loop-next l = l.limit - l.groups
