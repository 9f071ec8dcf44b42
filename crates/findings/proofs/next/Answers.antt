-- `findings::next` meets its contract.
use Rattle.std.proofs.Common.{arith}
use Rattle.std.proofs.lemmas.Bool.Decides.{nat_tests}
use Rattle.text.proofs.Search.{find_end}
use Rattle.findings.specs.Steps as steps
use Rattle.findings.proofs.next.Goals as goal

pub slice_bounds-id-end : goal.slice_bounds-id-end
slice_bounds-id-end c = find_end _ _ _ _ c.find-end.ensures c.if-w-set.true

pub segment-requires : goal.segment-requires
segment-requires c = omega (arith, find_end _ _ _ _ c.find-end.ensures c.if-w-set.true)

pub returns-then-w-set : goal.returns-then-w-set
unfolding steps.step
returns-then-w-set c = grind (arith, nat_tests)

pub returns-then-closed : goal.returns-then-closed
unfolding steps.step
returns-then-closed c = grind (arith, nat_tests)

pub returns : goal.returns
unfolding steps.step
returns c = grind (arith, nat_tests)
