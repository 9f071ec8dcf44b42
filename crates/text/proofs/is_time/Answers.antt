-- `text::is_time` meets its contract.
use Rattle.std.proofs.Common.{arith, sym, ◌∙◌}
use lib.ListN.{length-take}
use Rattle.text.proofs.Times.{TimeDigits, time_digits, time_is, time_short}
use Rattle.text.proofs.is_time.Goals as goal
use Rattle.text.proofs.is_time.Goals.{Else-not-is_time_digits}

known : (c : Else-not-is_time_digits) → TimeDigits c.args.s.now
known c = time_digits _ (sym c.is_time_digits.ensures ∙ c.if-not-is_time_digits.false)

pub returns-then-not-is_time_digits : goal.returns-then-not-is_time_digits
returns-then-not-is_time_digits c = grind (arith, time_is)

pub slice_bounds-value-end : goal.slice_bounds-value-end
slice_bounds-value-end c = simp length-take (omega (arith, (known c).minutes))

pub slice_bounds-value-end-then-value-le23 : goal.slice_bounds-value-end-then-value-le23
slice_bounds-value-end-then-value-le23 c = (known (goal.at.slice_bounds-value-end-then-value-le23 c).Else-not-is_time_digits).minutes

pub slice_bounds-value-end-else-s-eq4 : goal.slice_bounds-value-end-else-s-eq4
slice_bounds-value-end-else-s-eq4 c = (known (goal.at.slice_bounds-value-end-else-s-eq4 c).Else-not-is_time_digits).seconds c.if-s-eq4.false

pub returns-then-s-eq4 : goal.returns-then-s-eq4
returns-then-s-eq4 c = grind (arith, time_is, time_short)

pub returns-else-s-eq4 : goal.returns-else-s-eq4
returns-else-s-eq4 c = grind (arith, time_is)

pub returns-else-value-le59 : goal.returns-else-value-le59
returns-else-value-le59 c = grind (arith, time_is)
