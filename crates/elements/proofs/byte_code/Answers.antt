-- `elements::byte_code` meets its contract.
use Rattle.std.proofs.Common.{sym, ◌∙◌}
use Rattle.elements.proofs.Codes.{bytes_valid, bytes_repeat, bytes_bad}
use Rattle.elements.proofs.byte_code.Goals as goal

pub returns-then-all_valid : goal.returns-then-all_valid
returns-then-all_valid c = sym (bytes_valid _ _ (sym c.all_valid.ensures ∙ c.if-all_valid.true))

pub returns-then-repeats : goal.returns-then-repeats
returns-then-repeats c = sym (bytes_repeat _ _ (sym c.repeats.ensures ∙ c.if-repeats.true))

pub returns-else-repeats : goal.returns-else-repeats
returns-else-repeats c =
    sym (bytes_bad _ _ (sym c.repeats.ensures ∙ c.if-repeats.false) (sym c.all_valid.ensures ∙ c.if-all_valid.false))
