-- `elements::Marks::any_of` meets its contract.
use Rattle.std.proofs.Common.{rules, tests}
use Rattle.elements.specs.Marks.{marked}
use Rattle.text.proofs.Library.{any_of}
use Rattle.elements.proofs.Marks.any_of.Goals as goal

pub returns : goal.returns
returns c = any_of (marked c.args.self) c.any.ensures.ran c.iter.ensures.rest (λ x b q k. search (rules, tests))
