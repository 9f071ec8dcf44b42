-- `text::find_near` meets its contract.
use mathlib.Core.Path.{sym, ◌∙◌}
use native.Mathlib.Omega.{arith}
use Rattle.text.proofs.Search.{index_here, index_later, index_none}
use Rattle.text.proofs.find_near.Goals as goal

pub returns-then-s-i : goal.returns-then-s-i
returns-then-s-i c = sym (c.loop-i.invariant ∙ index_here _ _ _ c.loop-i-test.true c.if-s-i.true)

pub loop-i-preserved : goal.loop-i-preserved
loop-i-preserved c = c.loop-i.invariant ∙ index_later _ _ _ c.loop-i-test.true c.if-s-i.false

pub returns : goal.returns
returns c =
    let none = index_none c.args.b c.args.s.now in
    grind (arith, none c.loop-i.i, none c.args.from)
