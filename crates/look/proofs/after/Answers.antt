-- `look::after` meets its contract.
use Rattle.look.specs.Looking.{afterward}
use Rattle.look.proofs.after.Goals as goal

pub returns-then-same_bytes : goal.returns-then-same_bytes
unfolding afterward
returns-then-same_bytes c = rw (← c.same_bytes.ensures, c.if-same_bytes.true)

pub returns-then-same_bytes-2 : goal.returns-then-same_bytes-2
unfolding afterward
returns-then-same_bytes-2 c = rw (← c.same_bytes.ensures, c.if-same_bytes.false, ← c.same_bytes-2.ensures, c.if-same_bytes-2.true)

pub returns : goal.returns
unfolding afterward
returns c = rw (← c.same_bytes.ensures, c.if-same_bytes.false, ← c.same_bytes-2.ensures, c.if-same_bytes-2.false)
