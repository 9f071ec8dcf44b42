-- `register::next_field` meets its contract: the byte at the field's end decides each later field.
use Rattle.std.proofs.Common.{rules}
use Rattle.register.proofs.Fields.{field_after, field_last}
use Rattle.register.proofs.next_field.Goals as goal

pub returns-in-Some : goal.returns-in-Some
returns-in-Some c = (search rules, λ n. field_after _ _ _ c.field_end-end.ensures n (search rules) (search rules))

pub returns-in_default : goal.returns-in_default
returns-in_default c = (search rules, λ n. field_last _ _ _ c.field_end-end.ensures n (λ h. search rules))

pub returns-in_default-2 : goal.returns-in_default-2
returns-in_default-2 c = (search rules, λ n. field_last _ _ _ c.field_end-end.ensures n (λ h. search rules))
