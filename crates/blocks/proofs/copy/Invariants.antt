-- `blocks::copy` meets its contract: so far, the first i bytes stand over the buffer's start.
use mathlib.Core.Path.{◌≡◌}
use lib.ListN.{length, take}
use Rattle.writing.specs.Over.{over}
use Rattle.blocks.proofs.copy.Given as goal

abbrev pub invariant-loop-i : goal.invariant-loop-i
invariant-loop-i l = (l.out ≡ over (take l.i l.bytes) l.initial.out) × (length l.out ≡ length l.initial.out)
