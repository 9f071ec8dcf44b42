-- `elements::surplus` meets its contract.
use Rattle.std.proofs.Common.{le-ltb, lt-ltb}
use Rattle.elements.specs.Checks as checks
use Rattle.elements.proofs.surplus.Goals as goal

pub returns-then-s-c : goal.returns-then-s-c
unfolding checks.surplus
returns-then-s-c c = rw (le-ltb _ _ c.if-s-c.true)

pub returns : goal.returns
unfolding checks.surplus
returns c = rw (lt-ltb _ _ c.if-s-c.false)
