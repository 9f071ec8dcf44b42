-- `envelope::envelope_from` meets its contract.
use mathlib.Core.Path.{sym, ◌∙◌}
use Rattle.text.proofs.Search.{find_end}
use Rattle.envelope.proofs.Places.{until_here, until_later, until_none}
use Rattle.envelope.proofs.envelope_from.Goals as goal

pub slice_bounds-ends_body-end : goal.slice_bounds-ends_body-end
slice_bounds-ends_body-end c = find_end _ _ _ _ c.find-end.ensures c.loop-at-test.true

pub returns-then-ends_body : goal.returns-then-ends_body
returns-then-ends_body c = sym (c.loop-at.invariant ∙ until_here _ _ _ _ _ c.loop-at-test.true c.find-end.ensures (sym c.ends_body.ensures ∙ c.if-ends_body.true))

pub loop-at-preserved : goal.loop-at-preserved
loop-at-preserved c = c.loop-at.invariant ∙ until_later _ _ _ _ _ c.loop-at-test.true c.find-end.ensures (sym c.ends_body.ensures ∙ c.if-ends_body.false)

pub returns : goal.returns
returns c = sym (c.loop-at.invariant ∙ until_none _ _ _ _ c.loop-at-test.false)
