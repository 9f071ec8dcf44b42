-- `verdicts::Codes::with` meets its contract.
use Rattle.std.proofs.Common.{arith}
use Rattle.std.proofs.lemmas.Grind.{common_steps}
use Rattle.verdicts.specs.Collecting.{with_code}
use Rattle.verdicts.proofs.Codes.with.Goals as goal

pub returns-then-self-lt-MOST : goal.returns-then-self-lt-MOST
unfolding with_code
returns-then-self-lt-MOST c = grind (arith, common_steps)

pub returns-else-applies : goal.returns-else-applies
unfolding with_code
returns-else-applies c = grind (arith, common_steps)
