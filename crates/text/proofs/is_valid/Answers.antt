-- `text::is_valid` meets its contract.
use Rattle.std.proofs.Common.{arith}
use Rattle.rules.specs.Cutting.{valid}
use Rattle.text.proofs.is_valid.Goals as goal

pub returns-then-matches : goal.returns-then-matches
unfolding valid
returns-then-matches c = grind arith

pub returns-else-matches : goal.returns-else-matches
unfolding valid
returns-else-matches c = grind arith
