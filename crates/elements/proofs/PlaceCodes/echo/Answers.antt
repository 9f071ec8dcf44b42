-- `elements::PlaceCodes::echo` meets its contract.
use Rattle.std.proofs.Common.{arith}
use Rattle.elements.specs.Checks.{echo_at}
use Rattle.elements.proofs.PlaceCodes.echo.Goals as goal

pub returns-then-not-is_withheld : goal.returns-then-not-is_withheld
unfolding echo_at
returns-then-not-is_withheld c = grind arith

pub returns : goal.returns
unfolding echo_at
returns c = grind arith
