-- `elements::empty_code` meets its contract.
use Rattle.std.proofs.Common.{arith}
use Rattle.rules.specs.Base.{first}
use Rattle.elements.proofs.empty_code.Goals as goal

pub returns : goal.returns
unfolding first
returns c = grind arith
