-- `verdicts::allowed_sets` meets its contract.
use Rattle.std.proofs.Common.{arith}
use Rattle.std.proofs.lemmas.Grind.{common_steps}
use Rattle.rules.specs.Base.{same}
use Rattle.verdicts.proofs.allowed_sets.Goals as goal

pub returns-in-Accepted : goal.returns-in-Accepted
unfolding same
returns-in-Accepted c = grind (arith, common_steps)

pub returns-in-Rejected : goal.returns-in-Rejected
unfolding same
returns-in-Rejected c = grind (arith, common_steps)
