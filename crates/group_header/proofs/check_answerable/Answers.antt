-- `group_header::check_answerable` meets its contract.
use Rattle.std.proofs.Common.{sym, ap, ◌∙◌}
use Rattle.rules.specs.Base.{Bytes, ascii, same, first}
use Rattle.rules.specs.Refusals.{answer_rules}
use Rattle.rules.specs.Refused.{refused, unless}
use Rattle.group_header.proofs.check_answerable.Goals as goal

pub returns-then-same_bytes : goal.returns-then-same_bytes
unfolding unless refused answer_rules first
returns-then-same_bytes c = rw (ap (λ (f : Bytes). same f (ascii "FA")) (sym c.field.ensures) ∙ sym c.same_bytes.ensures ∙ c.if-same_bytes.true)

pub returns-else-same_bytes : goal.returns-else-same_bytes
unfolding unless answer_rules first
returns-else-same_bytes c = rw (ap (λ (f : Bytes). same f (ascii "FA")) (sym c.field.ensures) ∙ sym c.same_bytes.ensures ∙ c.if-same_bytes.false)
