-- `text::all_digits` meets its contract.
use Rattle.std.proofs.Common.{rules, tests}
use Rattle.rules.specs.Base.{is_digit}
use Rattle.text.proofs.Library.{all_of}
use Rattle.text.proofs.all_digits.Goals as goal

pub returns : goal.returns
returns c = all_of is_digit c.all.ensures.ran c.iter.ensures.rest (λ x b q k. search (rules, tests))
