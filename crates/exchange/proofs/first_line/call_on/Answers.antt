-- `exchange::first_line::call_on` meets its contract: a line that passes is long enough, and its numbers are small.
use mathlib.Core.Path.{sym}
use native.Mathlib.Omega.{arith}
use lib.Seq.{length-take-le}
use Rattle.exchange.proofs.FirstLine.{long, small_date, small_time, small_control, numbers_on}
use Rattle.exchange.proofs.first_line.call_on.Goals as goal

pub slice_bounds-value-end : goal.slice_bounds-value-end
slice_bounds-value-end c = sym (length-take-le 8 c.args.line.now (grind (arith, long)))

pub overflow_cast-date : goal.overflow_cast-date
overflow_cast-date c = grind (arith, small_date)

pub slice_bounds-value-end-2 : goal.slice_bounds-value-end-2
slice_bounds-value-end-2 c = grind (arith, long)

pub overflow_cast-time : goal.overflow_cast-time
overflow_cast-time c = grind (arith, small_time)

pub slice_bounds-value-count-2 : goal.slice_bounds-value-count-2
slice_bounds-value-count-2 c = grind (arith, long)

pub slice_bounds-value-start-2 : goal.slice_bounds-value-start-2
slice_bounds-value-start-2 c = grind (arith, long)

pub overflow_cast-control : goal.overflow_cast-control
overflow_cast-control c = grind (arith, small_control)

pub returns : goal.returns
returns c = sym (numbers_on _ _ _ _ (sym c.if-not-is_call.ensures) c.value-date.ensures c.value-time.ensures c.value-control.ensures)
