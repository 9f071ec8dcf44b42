-- `acknowledgment::response::add_transactions` meets its contract: the 997s of the groups that are left are still owed.
use mathlib.Core.Path.{refl}
use native.Mathlib.Omega.{arith}
use Rattle.acknowledgment.proofs.Passes.{writing_start, writing_next, writable, writing_turn, writing_end}
use Rattle.acknowledgment.proofs.response.add_transactions.Goals as goal

pub loop-init : goal.loop-init
loop-init c = (writing_start c.requires (omega arith) (omega arith), refl)

pub add_transaction-progress-requires : goal.add_transaction-progress-requires
add_transaction-progress-requires c = writable c.loop.invariant.0 c.requires (omega (arith, c.loop.invariant.1))

pub loop-preserved : goal.loop-preserved
loop-preserved c =
    let sofar = c.loop.invariant in
    let next = writing_next sofar.0 (omega (arith, sofar.1)) in
    let wrote = c.add_transaction-progress.ensures _ _ next.found next.recorded in
    (writing_turn sofar.0 next wrote, omega (arith, sofar.1, wrote.number))

pub returns : goal.returns
returns c = writing_end c.loop.invariant.0 (omega (arith, c.loop.invariant.1))
