-- `writing::put_padded` meets its contract: the digits that are left, over what stands, are the whole over what was lent.
use mathlib.Core.Path.{◌≡◌}
use lib.ListN.{length}
use Rattle.rules.specs.Numbers.{padded}
use Rattle.writing.specs.Over.{over}
use Rattle.writing.proofs.put_padded.Given as goal

abbrev pub invariant-loop-i : goal.invariant-loop-i
invariant-loop-i l = (over (padded l.i l.rest) l.out ≡ over (padded l.w l.v) l.initial.out) × (length l.out ≡ length l.initial.out)
