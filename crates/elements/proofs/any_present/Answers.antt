-- `elements::any_present` meets its contract.
use Rattle.std.proofs.Common.{rules, tests}
use Rattle.rules.specs.Cutting.{split}
use Rattle.rules.specs.Elements.{present}
use Rattle.text.proofs.Library.{any_of}
use Rattle.elements.proofs.any_present.Goals as goal

pub returns : goal.returns
returns c = let a = c.args in any_of (present (split a.e a.s.now)) c.any.ensures.ran c.iter.ensures.rest (λ x b q k. search (rules, tests))
