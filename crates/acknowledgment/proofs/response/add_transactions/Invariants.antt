-- `acknowledgment::response::add_transactions` meets its contract: the 997s of the groups that are left are still owed.
use Prim.Native.Nat.{◌+◌}
use mathlib.Core.Path.{◌≡◌}
use Rattle.acknowledgment.proofs.Passes.{Writing}
use Rattle.acknowledgment.proofs.response.add_transactions.Given as goal

abbrev pub invariant-loop : goal.invariant-loop
invariant-loop l = (Writing l.d l.i l.fn.envelope l.starts l.marks l.n l.progress l.initial.out l.out) × (l.progress.number ≡ l.counter + 1)
