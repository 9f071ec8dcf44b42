-- `group_header::check_header` meets its contract.
use mathlib.Core.Path.{sym, ap, ◌∙◌}
use borrow.Author.Tests.{eq-eqb, ne_eqb}
use lib.ListN.{length}
use Rattle.rules.specs.Base.{first, all, is_upper_or_digit}
use Rattle.rules.specs.Cutting.{text}
use Rattle.rules.specs.Numbers.{digits, is_date, is_time}
use Rattle.rules.specs.Refusals.{good_gs}
use Rattle.text.proofs.Loops.{and_false}
use Rattle.rules.specs.Refusals.{header_rules}
use Rattle.rules.specs.Refused.{refused, unless}
use Rattle.group_header.proofs.check_header.Goals as goal

pub returns-then-field_count-ne9 : goal.returns-then-field_count-ne9
unfolding unless refused first good_gs header_rules
returns-then-field_count-ne9 c = simp (ne_eqb _ _ (λ h. c.if-field_count-ne9.true (c.field_count.ensures ∙ h)))

pub returns-then-code-ne2 : goal.returns-then-code-ne2
unfolding unless refused first good_gs header_rules
returns-then-code-ne2 c = simp (ne_eqb _ _ (λ h. c.if-code-ne2.true (ap length c.field-code.ensures ∙ h)), and_false)

pub returns-then-not-is_name : goal.returns-then-not-is_name
unfolding unless refused first good_gs header_rules
returns-then-not-is_name c = simp (ap (all is_upper_or_digit) (sym c.field-code.ensures) ∙ sym c.is_name.ensures ∙ c.if-not-is_name.true, and_false)

pub returns-then-not-is_text : goal.returns-then-not-is_text
unfolding unless refused first good_gs header_rules
returns-then-not-is_text c = simp (ap (text _ 2 15) (sym c.field.ensures) ∙ sym c.is_text.ensures ∙ c.if-not-is_text.true, and_false)

pub returns-then-not-is_text-2 : goal.returns-then-not-is_text-2
unfolding unless refused first good_gs header_rules
returns-then-not-is_text-2 c = simp (ap (text _ 2 15) (sym c.field-2.ensures) ∙ sym c.is_text-2.ensures ∙ c.if-not-is_text-2.true, and_false)

pub returns-then-not-is_date : goal.returns-then-not-is_date
unfolding unless refused first good_gs header_rules
returns-then-not-is_date c = simp (ap is_date (sym c.field-3.ensures) ∙ sym c.is_date.ensures ∙ c.if-not-is_date.true, and_false)

pub returns-then-not-is_time : goal.returns-then-not-is_time
unfolding unless refused first good_gs header_rules
returns-then-not-is_time c = simp (ap is_time (sym c.field-4.ensures) ∙ sym c.is_time.ensures ∙ c.if-not-is_time.true, and_false)

pub returns-then-not-is_digits : goal.returns-then-not-is_digits
unfolding unless refused first good_gs header_rules
returns-then-not-is_digits c = simp (ap (digits 1 9) (sym c.field-5.ensures) ∙ sym c.is_digits.ensures ∙ c.if-not-is_digits.true, and_false)

pub returns-then-not-is_text-3 : goal.returns-then-not-is_text-3
unfolding unless refused first good_gs header_rules
returns-then-not-is_text-3 c = simp (ap (text _ 1 2) (sym c.field-6.ensures) ∙ sym c.is_text-3.ensures ∙ c.if-not-is_text-3.true, and_false)

pub returns-then-not-is_text-4 : goal.returns-then-not-is_text-4
unfolding unless refused first good_gs header_rules
returns-then-not-is_text-4 c = simp (ap (text _ 1 12) (sym c.field-7.ensures) ∙ sym c.is_text-4.ensures ∙ c.if-not-is_text-4.true, and_false)

pub returns : goal.returns
unfolding unless refused first good_gs header_rules
returns c =
    simp (
      eq-eqb _ _ (sym c.field_count.ensures ∙ c.if-field_count-ne9.false),
      eq-eqb _ _ (ap length (sym c.field-code.ensures) ∙ c.if-code-ne2.false),
      ap (all is_upper_or_digit) (sym c.field-code.ensures) ∙ sym c.is_name.ensures ∙ c.if-not-is_name.false,
      ap (text _ 2 15) (sym c.field.ensures) ∙ sym c.is_text.ensures ∙ c.if-not-is_text.false,
      ap (text _ 2 15) (sym c.field-2.ensures) ∙ sym c.is_text-2.ensures ∙ c.if-not-is_text-2.false,
      ap is_date (sym c.field-3.ensures) ∙ sym c.is_date.ensures ∙ c.if-not-is_date.false,
      ap is_time (sym c.field-4.ensures) ∙ sym c.is_time.ensures ∙ c.if-not-is_time.false,
      ap (digits 1 9) (sym c.field-5.ensures) ∙ sym c.is_digits.ensures ∙ c.if-not-is_digits.false,
      ap (text _ 1 2) (sym c.field-6.ensures) ∙ sym c.is_text-3.ensures ∙ c.if-not-is_text-3.false,
      ap (text _ 1 12) (sym c.field-7.ensures) ∙ sym c.is_text-4.ensures ∙ c.if-not-is_text-4.false,
    )
