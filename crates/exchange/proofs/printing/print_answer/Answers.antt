-- `exchange::printing::print_answer` meets its contract.
use native.Mathlib.Omega.{arith}
use Rattle.exchange.proofs.Laws.{written, refused}
use Rattle.exchange.proofs.printing.print_answer.Goals as goal

pub returns-in-Ok : goal.returns-in-Ok
returns-in-Ok c = written _ c.acknowledge.ensures c.in-Ok.is (omega arith)

pub returns-in-Err : goal.returns-in-Err
returns-in-Err c = refused _ c.acknowledge.ensures c.in-Err.is c.put_refused.ensures
