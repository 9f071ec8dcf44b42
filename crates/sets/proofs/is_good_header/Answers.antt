-- `sets::is_good_header` meets its contract.
use native.Mathlib.Omega.{arith}
use Rattle.text.proofs.Search.{find_le}
use Rattle.sets.proofs.Headers.{bad_short, bad_kind, good_by}
use Rattle.sets.proofs.is_good_header.Goals as goal

pub returns-then-header-lt11 : goal.returns-then-header-lt11
returns-then-header-lt11 c = grind (arith, bad_short, bad_kind)

pub slice_bounds-is_text-end : goal.slice_bounds-is_text-end
slice_bounds-is_text-end c =
    omega (arith, find_le c.args.d.element c.args.header.now 7 (omega arith))

pub returns-then-is_digits : goal.returns-then-is_digits
returns-then-is_digits c = grind (arith, good_by)

pub returns-else-is_digits : goal.returns-else-is_digits
returns-else-is_digits c = grind (arith, good_by)
