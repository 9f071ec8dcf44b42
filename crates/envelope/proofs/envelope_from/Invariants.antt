-- `envelope::envelope_from` meets its contract.
use mathlib.Core.Path.{◌≡◌}
use Prim.Native.Nat.{◌+◌, ◌-◌}
use lib.ListN.{length, drop}
use Rattle.rules.specs.Cutting.{pieces}
use Rattle.envelope.specs.Places.{until_envelope}
use Rattle.envelope.proofs.envelope_from.Given as goal

abbrev pub invariant-loop-at : goal.invariant-loop-at
invariant-loop-at l = l.from + until_envelope l.d.element (pieces l.d.terminator (drop l.from l.i)) ≡ l.at + until_envelope l.d.element (pieces l.d.terminator (drop l.at l.i))

abbrev pub decreases-loop-at : goal.decreases-loop-at
decreases-loop-at l = length l.i + 1 - l.at
