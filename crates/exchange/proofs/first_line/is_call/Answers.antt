-- `exchange::first_line::is_call` meets its contract.
use native.Mathlib.Omega.{arith}
use Rattle.std.proofs.lemmas.Bool.Decides.{nat_tests}
use Rattle.exchange.proofs.FirstLine.{by_tests}
use Rattle.exchange.proofs.first_line.is_call.Goals as goal

pub returns-then-line-eq32-2 : goal.returns-then-line-eq32-2
returns-then-line-eq32-2 c = grind (arith, nat_tests, by_tests c.args.line.now)

pub returns-else-line-eq32-2 : goal.returns-else-line-eq32-2
returns-else-line-eq32-2 c = grind (arith, nat_tests, by_tests c.args.line.now)
