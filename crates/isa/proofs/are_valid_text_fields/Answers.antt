-- `isa::are_valid_text_fields` meets its contract.
use mathlib.Core.Path.{sym, ◌∙◌}
use Rattle.isa.proofs.Places.{texts_all, texts_others}
use Rattle.isa.proofs.are_valid_text_fields.Goals as goal

pub returns-in-None : goal.returns-in-None
returns-in-None c = c.are_valid_fields.ensures ∙ texts_all _ _ _ c.in-None.is

pub returns-then-are_valid_fields : goal.returns-then-are_valid_fields
returns-then-are_valid_fields c =
    rw (← texts_others _ _ _ c.in-Some.is, sym c.are_valid_fields-in-Some.ensures ∙ c.if-are_valid_fields.true)
    c.are_valid_fields-then-are_valid_fields.ensures

pub returns-else-are_valid_fields : goal.returns-else-are_valid_fields
returns-else-are_valid_fields c =
    rw (← texts_others _ _ _ c.in-Some.is, sym c.are_valid_fields-in-Some.ensures ∙ c.if-are_valid_fields.false) c.if-are_valid_fields.false
