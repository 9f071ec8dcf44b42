-- `sets::next_set` meets its contract: from where the set goes on, the pieces that are left decide its end.
use mathlib.Core.Path.{◌≡◌}
use Prim.Native.Nat.{◌+◌, ◌-◌, ◌≤◌}
use lib.ListN.{length, drop}
use Rattle.rules.specs.Cutting.{pieces}
use Rattle.sets.specs.Places.{set_at, set_from}
use Rattle.sets.proofs.next_set.Given as goal

abbrev pub invariant-loop-next : goal.invariant-loop-next
invariant-loop-next l = (l.next ≤ length l.body + 1) × ((l.segments ≤ l.next) × (set_at l.d l.body l.at ≡ set_from l.d.element l.at l.header l.segments l.next (pieces l.d.terminator (drop l.next l.body))))

abbrev pub decreases-loop-next : goal.decreases-loop-next
decreases-loop-next l = length l.body + 1 - l.next
