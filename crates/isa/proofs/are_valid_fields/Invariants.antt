-- `isa::are_valid_fields` meets its contract.
use mathlib.Core.Path.{◌≡◌}
use lib.Seq.{slice}
use Rattle.rules.specs.Base.{all}
use Rattle.rules.specs.Cutting.{valid, isa}
use Rattle.isa.proofs.are_valid_fields.Given as goal

abbrev pub invariant-loop-n : goal.invariant-loop-n
invariant-loop-n l = all (all (valid l.d)) (slice l.from l.to (isa l.i)) ≡ all (all (valid l.d)) (slice l.n l.to (isa l.i))
