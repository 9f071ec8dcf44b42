-- `isa::are_good_marks` meets its contract.
use mathlib.Core.Path.{sym, ◌∙◌}
use Rattle.rules.specs.Refusals.{good_marks}
use Rattle.isa.proofs.are_good_marks.Goals as goal

pub returns-then-are_distinct : goal.returns-then-are_distinct
unfolding good_marks
returns-then-are_distinct c = rw (sym c.are_distinct.ensures ∙ c.if-are_distinct.true) c.are_plain.ensures

pub returns-else-are_distinct : goal.returns-else-are_distinct
unfolding good_marks
returns-else-are_distinct c = rw (sym c.are_distinct.ensures ∙ c.if-are_distinct.false) c.if-are_distinct.false
