-- `isa::are_plain` meets its contract.
use Rattle.std.proofs.Common.{rules, tests}
use Rattle.rules.specs.Refusals.{plain}
use Rattle.text.proofs.Library.{all_of}
use Rattle.isa.proofs.are_plain.Goals as goal

pub returns : goal.returns
returns c = all_of plain c.all.ensures.ran c.iter.ensures.rest (λ x b q k. search (rules, tests))
