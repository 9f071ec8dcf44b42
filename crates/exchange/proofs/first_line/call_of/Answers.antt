-- `exchange::first_line::call_of` meets its contract.
use mathlib.Core.Path.{sym, ◌∙◌}
use native.Mathlib.Omega.{arith}
use lib.Seq.{length-take-le}
use Rattle.exchange.proofs.FirstLine.{ends_nowhere, ends_there, no_call, call_at}
use Rattle.exchange.proofs.first_line.call_of.Goals as goal

pub returns-then-input-end : goal.returns-then-input-end
returns-then-input-end c = sym (no_call _ (ends_nowhere _ _ c.find-end.ensures (omega arith)))

pub slice_bounds-call_on-end : goal.slice_bounds-call_on-end
slice_bounds-call_on-end c = sym (length-take-le c.find-end.result c.args.input.now (omega arith))

pub returns : goal.returns
returns c = c.call_on.ensures ∙ sym (call_at _ (ends_there _ _ c.find-end.ensures c.if-input-end.false))
