-- `look::segment::find_invalid` meets its contract.
use mathlib.Core.Path.{sym, ◌∙◌}
use Rattle.text.proofs.Where.{next_here, next_later, next_none}
use Rattle.text.proofs.Library.{next_past}
use Rattle.look.proofs.segment.find_invalid.Goals as goal

pub returns-then-not-valid-from : goal.returns-then-not-valid-from
returns-then-not-valid-from c = sym (c.loop-i.invariant ∙ next_here _ _ 0 _ c.loop-i-test.true (rw (← c.from.ensures, c.if-not-valid-from.true)))

pub loop-i-preserved : goal.loop-i-preserved
loop-i-preserved c = c.loop-i.invariant ∙ next_later _ _ 0 _ c.loop-i-test.true (rw (← c.from.ensures, c.if-not-valid-from.false))

pub returns : goal.returns
returns c =
    let found = c.loop-i.invariant ∙ next_none _ _ 0 _ c.loop-i-test.false in
    c.max.ensures ∙ next_past _ _ _ found c.loop-i-test.false ∙ sym found
