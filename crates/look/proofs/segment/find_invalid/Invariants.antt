-- `look::segment::find_invalid` meets its contract.
use mathlib.Core.Path.{◌≡◌}
use Rattle.text.specs.Text.{next_where}
use Rattle.look.specs.Bytes.{is_other}
use Rattle.look.proofs.segment.find_invalid.Given as goal

abbrev pub invariant-loop-i : goal.invariant-loop-i
invariant-loop-i l = next_where (is_other l.valid) l.s l.from ≡ next_where (is_other l.valid) l.s l.i
