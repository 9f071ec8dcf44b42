-- `program::write_answer` meets its contract: what is printed lies within the output, and is the answer to the input.
use mathlib.Core.Path.{sym}
use native.Mathlib.Omega.{arith}
use lib.Seq.{length-take-le}
use Rattle.exchange.proofs.Laws.{holds}
use Rattle.program.proofs.Answered.{left_is, starts}
use Rattle.program.proofs.write_answer.Goals as goal

pub slice_bounds-print-end : goal.slice_bounds-print-end
slice_bounds-print-end c = omega (arith, holds _ _ _ c.exchange-length.ensures.0 (omega arith))

pub slice_bounds-print-end-2 : goal.slice_bounds-print-end-2
slice_bounds-print-end-2 c = sym (length-take-le _ _ (slice_bounds-print-end c))

pub print-requires : goal.print-requires
print-requires c = starts _ _ c.args.output.now c.exchange-length.ensures.0 c.exchange-length.ensures.1 c.requires

pub returns : goal.returns
returns c = left_is _ _ _ c.exchange-length.ensures.0 c.exchange-length.ensures.1 c.requires
