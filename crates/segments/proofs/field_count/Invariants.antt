-- `segments::field_count` meets its contract: so many separators stand before this byte.
use mathlib.Core.Path.{◌≡◌}
use lib.Dec.{eqb}
use lib.ListN.{take}
use Rattle.std.specs.List.{count_by}
use Rattle.segments.proofs.field_count.Given as goal

abbrev pub invariant-loop-b : goal.invariant-loop-b
invariant-loop-b l = l.separators ≡ count_by (λ b. eqb b l.e) (take l.b-index l.s)
