-- `tables::spells` meets its contract.
use mathlib.Core.Path.{◌≡◌, sym, ap, ◌∙◌}
use mathlib.Core.Bool.{true}
use lib.Dec.{eqb}
use lib.ListN.{length, get_or}
use native.Mathlib.Omega.{arith}
use borrow.Author.Tests.{eq-eqb}
use Rattle.tables.proofs.Numbers.{spell_apart, spell_step, spell_end}
use Rattle.tables.proofs.spells.Goals as goal
use Rattle.tables.proofs.spells.Goals.{then-number-eq0-via-then-number-eq0, then-number-eq0-via-else-number-eq0+then-number-from}

pub returns-then-number-eq0 : goal.returns-then-number-eq0
returns-then-number-eq0 c = sym (c.loop-i.invariant ∙ spell_apart _ _ _ c.loop-i-test.true (λ e. elim c.then-number-eq0.branch [
  | then-number-eq0-via-then-number-eq0 w ↦ omega arith
  | then-number-eq0-via-else-number-eq0+then-number-from w ↦ absurd (omega arith)
]))

pub loop-i-preserved : goal.loop-i-preserved
loop-i-preserved c =
    c.loop-i.invariant ∙ spell_step _ _ _ true c.loop-i-test.true (λ e. c.if-number-eq0.false (c.number_at-number.ensures ∙ e)) (eq-eqb _ _ (omega arith))

pub returns : goal.returns
returns c =
    let i : c.loop-i.i ≡ length c.args.bytes.now = omega (arith, c.loop-i.auto.i-end) in
    ap (λ n. eqb n 0) c.number_at.ensures ∙ sym (c.loop-i.invariant ∙ spell_end _ _ _ c.loop-i-test.false ∙ ap (λ n. eqb (get_or c.args.numbers.now n 0) 0) i)
