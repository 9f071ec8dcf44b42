-- `isa::knows_repetition` meets its contract.
use mathlib.Core.Path.{sym, ◌∙◌}
use lib.Dec.{lit≤}
use Rattle.rules.specs.Cutting.{knows_repetition}
use Rattle.text.proofs.Digits.{value_of}
use Rattle.isa.proofs.knows_repetition.Goals as goal

pub returns-then-is_digits : goal.returns-then-is_digits
unfolding knows_repetition
returns-then-is_digits c =
    let five = sym c.is_digits.ensures ∙ c.if-is_digits.true in
    rw (five, c.value.ensures, value_of 5 5 _ five (lit≤ tt))

pub returns-else-is_digits : goal.returns-else-is_digits
unfolding knows_repetition
returns-else-is_digits c = rw (sym c.is_digits.ensures ∙ c.if-is_digits.false) c.if-is_digits.false
