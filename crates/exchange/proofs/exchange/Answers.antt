-- `exchange::exchange` meets its contract.
use mathlib.Core.Path.{sym, ◌∙◌}
use native.Mathlib.Omega.{arith}
use Rattle.exchange.proofs.FirstLine.{starts_within, rest}
use Rattle.exchange.proofs.Laws.{exchanged}
use Rattle.exchange.proofs.exchange.Goals as goal

pub slice_bounds-print_answer-count : goal.slice_bounds-print_answer-count
slice_bounds-print_answer-count c = starts_within _ (sym c.in-Some.is ∙ c.call_of.ensures)

pub slice_bounds-print_answer-start : goal.slice_bounds-print_answer-start
slice_bounds-print_answer-start c = starts_within _ (sym c.in-Some.is ∙ c.call_of.ensures)

pub returns-in-Some : goal.returns-in-Some
returns-in-Some c = exchanged _ _ (sym c.in-Some.is ∙ c.call_of.ensures) (rw rest at c.print_answer.ensures) (omega arith)

pub returns-in-None : goal.returns-in-None
returns-in-None c = exchanged _ _ (sym c.in-None.is ∙ c.call_of.ensures) c.put_refused.ensures (omega arith)
