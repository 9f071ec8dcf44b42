-- `register::bits_at` meets its contract.
use Rattle.std.proofs.Common.{arith}
use Rattle.std.proofs.lemmas.Grind.{common_steps}
use Rattle.register.specs.Trees.{bits_at}
use Rattle.register.proofs.bits_at.Goals as goal

pub returns : goal.returns
unfolding bits_at
returns c = grind (arith, common_steps)
