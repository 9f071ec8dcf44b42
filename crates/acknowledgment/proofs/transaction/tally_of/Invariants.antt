-- `acknowledgment::transaction::tally_of` meets its contract: what is counted of the marks that are left decides.
use Prim.Native.Nat.{◌≤◌}
use mathlib.Core.Path.{◌≡◌}
use lib.ListN.{drop}
use Rattle.acknowledgment.specs.Surveys.{tally_from, tally_of}
use Rattle.acknowledgment.proofs.transaction.tally_of.Given as goal

abbrev pub invariant-loop-mark : goal.invariant-loop-mark
invariant-loop-mark l = (tally_of l.marks ≡ tally_from l.received l.accepted (drop l.mark-index l.marks)) × (l.received ≡ l.mark-index) × (l.accepted ≤ l.mark-index)
