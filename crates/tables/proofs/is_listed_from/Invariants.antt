-- `tables::is_listed_from` meets its contract.
use mathlib.Core.Path.{◌≡◌}
use Rattle.rules.specs.Base.{member}
use Rattle.tables.specs.Reading.{codes_at}
use Rattle.tables.proofs.is_listed_from.Given as goal

abbrev pub invariant-loop-k : goal.invariant-loop-k
invariant-loop-k l = member l.value (codes_at l.guide l.from) ≡ member l.value (codes_at l.guide l.k)
