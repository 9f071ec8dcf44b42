-- `text::is_text` meets its contract.
use Rattle.std.proofs.Common.{rules, tests, sym, ◌∙◌}
use Rattle.rules.specs.Cutting.{valid, text}
use Rattle.text.proofs.Library.{all_of}
use Rattle.text.proofs.is_text.Goals as goal

pub returns-then-is_between : goal.returns-then-is_between
unfolding text
returns-then-is_between c =
    rw (sym c.is_between.ensures ∙ c.if-is_between.true)
    (all_of (valid c.args.d) c.all.ensures.ran c.iter.ensures.rest (λ x b q k. search (rules, tests)))

pub returns-else-is_between : goal.returns-else-is_between
unfolding text
returns-else-is_between c = rw (sym c.is_between.ensures ∙ c.if-is_between.false) c.if-is_between.false
