-- `elements::Marks::all_of` meets its contract.
use Rattle.std.proofs.Common.{rules, tests}
use Rattle.elements.specs.Marks.{marked}
use Rattle.text.proofs.Library.{all_of}
use Rattle.elements.proofs.Marks.all_of.Goals as goal

pub returns : goal.returns
returns c = all_of (marked c.args.self) c.all.ensures.ran c.iter.ensures.rest (λ x b q k. search (rules, tests))
