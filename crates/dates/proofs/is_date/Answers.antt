-- `dates::is_date` meets its contract.
use mathlib.Core.Path.{sym, ◌∙◌}
use native.Mathlib.Omega.{arith}
use Rattle.dates.proofs.Read.{date_read, read_below, date_unread, date_other}
use Rattle.dates.proofs.is_date.Goals as goal

pub returns-then-s-ne8 : goal.returns-then-s-ne8
returns-then-s-ne8 c = sym (date_other _ c.if-s-ne8.true)

pub overflow_cast-n : goal.overflow_cast-n
overflow_cast-n c = omega (arith, read_below _ c.if-s-ne8.false (sym c.in-Some.is ∙ c.count_in.ensures))

pub returns-in-Some : goal.returns-in-Some
returns-in-Some c = c.is_day.ensures ∙ sym (date_read _ c.if-s-ne8.false (sym c.in-Some.is ∙ c.count_in.ensures))

pub returns-in-None : goal.returns-in-None
returns-in-None c = sym (date_unread _ c.if-s-ne8.false (sym c.in-None.is ∙ c.count_in.ensures))
