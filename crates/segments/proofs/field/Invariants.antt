-- `segments::field` meets its contract.
use Prim.Native.Nat.{◌≤◌}
use lib.ListN.{length}
use Rattle.segments.proofs.Fields.{FieldAt}
use Rattle.segments.proofs.field.Given as goal

abbrev pub invariant-loop : goal.invariant-loop
invariant-loop l = (l.at ≤ length l.s) × FieldAt l.e l.s l.counter l.at
