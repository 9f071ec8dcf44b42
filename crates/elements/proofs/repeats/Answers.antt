-- `elements::repeats` meets its contract.
use Rattle.std.proofs.Common.{rules, tests}
use Rattle.rules.specs.Cutting.{separates_repetitions}
use Rattle.text.proofs.Library.{any_of}
use Rattle.elements.proofs.repeats.Goals as goal

pub returns : goal.returns
returns c = any_of (separates_repetitions c.args.d) c.any.ensures.ran c.iter.ensures.rest (λ x b q k. search (rules, tests))
