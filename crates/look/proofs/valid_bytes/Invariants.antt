-- `look::valid_bytes` meets its contract.
use mathlib.Core.Path.{◌≡◌}
use lib.ListN.{length, take}
use Rattle.look.specs.Bytes.{answers_from}
use Rattle.look.proofs.valid_bytes.Given as goal

abbrev pub invariant-loop-b : goal.invariant-loop-b
invariant-loop-b l = (length l.valid ≡ 256) × (take l.b l.valid ≡ answers_from l.d 0 l.b)
