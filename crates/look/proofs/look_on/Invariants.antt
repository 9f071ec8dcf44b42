-- `look::look_on` meets its contract.
use Prim.Native.Nat.{◌+◌, ◌-◌, ◌≤◌}
use mathlib.Core.Path.{◌≡◌}
use lib.ListN.{length}
use Rattle.look.specs.Looking.{look_from}
use Rattle.look.proofs.Within.{look_at}
use Rattle.look.proofs.look_on.Given as goal

abbrev pub invariant-loop-further : goal.invariant-loop-further
invariant-loop-further l =
    (l.c.segments ≤ l.c.at)
    × (l.c.at ≤ length l.body + 1)
    × (look_from l.valid l.d l.guide l.body l.at l.header (length l.body) (record { at = l.header + 1; row = 0; used = 1; next = l.next; segments = 1 })
    ≡ look_at l.valid l.d l.guide l.body l.at l.header l.c)

abbrev pub decreases-loop-further : goal.decreases-loop-further
decreases-loop-further l = length l.body + 1 - l.c.at
