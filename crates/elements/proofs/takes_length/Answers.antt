-- `elements::takes_length` meets its contract.
use Rattle.std.proofs.Common.{arith}
use Rattle.std.proofs.lemmas.Bool.Decides.{nat_tests}
use Rattle.elements.specs.Values.{takes_length}
use Rattle.elements.proofs.takes_length.Goals as goal

pub returns-then-not-has_values : goal.returns-then-not-has_values
unfolding takes_length
returns-then-not-has_values c = grind (arith, nat_tests)

pub returns-else-not-has_values : goal.returns-else-not-has_values
unfolding takes_length
returns-else-not-has_values c = grind (arith, nat_tests)
