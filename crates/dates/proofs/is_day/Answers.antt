-- `dates::is_day` meets its contract.
use mathlib.Core.Path.{sym, ◌∙◌}
use Rattle.rules.specs.Numbers.{is_day}
use Rattle.dates.proofs.is_day.Goals as goal

pub returns-then-is_between : goal.returns-then-is_between
unfolding is_day
returns-then-is_between c =
    rw (
      sym c.is_between.ensures ∙ c.if-is_between.true,
      sym c.month_length.ensures,
      c.is_between-then-is_between.ensures,
    )

pub returns-else-is_between : goal.returns-else-is_between
unfolding is_day
returns-else-is_between c = rw (sym c.is_between.ensures ∙ c.if-is_between.false) c.if-is_between.false
