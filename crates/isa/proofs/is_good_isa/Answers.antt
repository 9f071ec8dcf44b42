-- `isa::is_good_isa` meets its contract.
use mathlib.Core.Path.{sym, ◌∙◌}
use Rattle.rules.specs.Refusals.{good_isa}
use Rattle.isa.proofs.is_good_isa.Goals as goal

pub returns-then-not-are_valid_text_fields : goal.returns-then-not-are_valid_text_fields
unfolding good_isa
returns-then-not-are_valid_text_fields c = rw (sym c.are_valid_text_fields.ensures ∙ c.if-not-are_valid_text_fields.true)

pub returns-then-not-is_digits : goal.returns-then-not-is_digits
unfolding good_isa
returns-then-not-is_digits c = rw (sym c.are_valid_text_fields.ensures ∙ c.if-not-are_valid_text_fields.false, ← c.isa_field.ensures, sym c.is_digits.ensures ∙ c.if-not-is_digits.true)

pub returns : goal.returns
unfolding good_isa
returns c = rw (sym c.are_valid_text_fields.ensures ∙ c.if-not-are_valid_text_fields.false, ← c.isa_field.ensures, sym c.is_digits.ensures ∙ c.if-not-is_digits.false, ← c.isa_field-2.ensures) c.is_usage.ensures
