-- `elements::value_code` meets its contract.
use Rattle.std.proofs.Common.{arith}
use Rattle.std.proofs.lemmas.Bool.Decides.{nat_tests}
use Rattle.elements.specs.Values.{value_code}
use Rattle.elements.proofs.value_code.Goals as goal

pub returns-then-not-is_spelled : goal.returns-then-not-is_spelled
unfolding value_code
returns-then-not-is_spelled c = grind (arith, nat_tests)

pub returns-then-length-row : goal.returns-then-length-row
unfolding value_code
returns-then-length-row c = grind (arith, nat_tests)

pub returns-then-row-length : goal.returns-then-row-length
unfolding value_code
returns-then-row-length c = grind (arith, nat_tests)

pub returns-then-is_unlisted : goal.returns-then-is_unlisted
unfolding value_code
returns-then-is_unlisted c = grind (arith, nat_tests)

pub returns : goal.returns
unfolding value_code
returns c = grind (arith, nat_tests)
