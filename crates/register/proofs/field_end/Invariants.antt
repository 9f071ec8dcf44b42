-- `register::field_end` meets its contract: what is left of the field decides its end.
use Prim.Native.Nat.{◌+◌, ◌≤◌}
use mathlib.Core.Path.{◌≡◌}
use lib.ListN.{length, drop}
use Rattle.register.specs.Fields.{field_in}
use Rattle.register.proofs.field_end.Given as goal

abbrev pub invariant-loop-i : goal.invariant-loop-i
invariant-loop-i l = (l.at + length (field_in l.d 0 (drop l.at l.body)) ≡ l.i + length (field_in l.d 0 (drop l.i l.body))) × (length l.body ≤ l.at → l.i ≡ l.at)
