-- `tables::is_listed_from` meets its contract.
use mathlib.Core.Path.{refl, sym, ◌∙◌}
use mathlib.Core.Bool.{true, false}
use mathlib.Core.List.{[]}
use lib.ListN.{get_or-eq_default}
use Rattle.tables.proofs.Laws.{listed_step, listed_end}
use Rattle.tables.proofs.is_listed_from.Goals as goal

pub returns-then-not-is_value : goal.returns-then-not-is_value
returns-then-not-is_value c =
    sym (c.loop-k.invariant ∙ listed_end c.args.guide.now c.loop-k.k _ (sym c.is_value.ensures ∙ c.if-not-is_value.true))

pub returns-then-is_code : goal.returns-then-is_code
returns-then-is_code c =
    sym (c.loop-k.invariant ∙ listed_step c.args.guide.now c.loop-k.k _ true (sym c.is_value.ensures ∙ c.if-not-is_value.false) (sym c.is_code.ensures ∙ c.if-is_code.true))

pub loop-k-preserved : goal.loop-k-preserved
loop-k-preserved c =
    c.loop-k.invariant ∙ listed_step c.args.guide.now c.loop-k.k _ false (sym c.is_value.ensures ∙ c.if-not-is_value.false) (sym c.is_code.ensures ∙ c.if-is_code.false)

pub returns : goal.returns
returns c =
    sym (c.loop-k.invariant ∙ listed_end c.args.guide.now c.loop-k.k _ (rw (get_or-eq_default c.args.guide.now [] c.loop-k-test.false) refl))
