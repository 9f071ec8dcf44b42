-- `refusals::check_head` meets its contract: the caller's numbers, then ISA.
use native.Mathlib.Omega.{arith}
use Rattle.refusals.proofs.Laws.{head_stages}
use Rattle.refusals.proofs.check_head.Goals as goal

pub returns-in_err-check_call : goal.returns-in_err-check_call
returns-in_err-check_call c = grind (arith, head_stages)

pub returns : goal.returns
returns c = grind (arith, head_stages)
