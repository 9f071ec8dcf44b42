-- `isa::are_distinct` meets its contract.
use mathlib.Core.Path.{sym, ◌∙◌}
use Rattle.isa.proofs.Marks.{distinct_not, distinct_step, distinct_end}
use Rattle.isa.proofs.are_distinct.Goals as goal

pub returns-then-find-bytes : goal.returns-then-find-bytes
returns-then-find-bytes c = sym (c.loop-k.invariant ∙ distinct_not _ _ _ c.loop-k-test.true c.find.ensures c.if-find-bytes.true)

pub loop-k-preserved : goal.loop-k-preserved
loop-k-preserved c = c.loop-k.invariant ∙ distinct_step _ _ _ c.loop-k-test.true c.find.ensures c.if-find-bytes.false

pub returns : goal.returns
returns c = sym (c.loop-k.invariant ∙ distinct_end _ _ c.loop-k-test.false)
