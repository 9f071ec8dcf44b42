-- `text::is_digits` meets its contract.
use mathlib.Core.Path.{sym, ◌∙◌}
use Rattle.rules.specs.Numbers.{digits}
use Rattle.text.proofs.is_digits.Goals as goal

pub returns-then-is_between : goal.returns-then-is_between
unfolding digits
returns-then-is_between c = rw (sym c.is_between.ensures ∙ c.if-is_between.true) c.all_digits.ensures

pub returns-else-is_between : goal.returns-else-is_between
unfolding digits
returns-else-is_between c = rw (sym c.is_between.ensures ∙ c.if-is_between.false) c.if-is_between.false
