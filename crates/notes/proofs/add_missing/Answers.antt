-- `notes::add_missing` meets its contract.
use mathlib.Core.Path.{sym, ◌∙◌}
use Rattle.findings.proofs.Search.{missing_in_lem}
use Rattle.notes.proofs.Laws.{missing_more, missing_none, missing_fewer}
use Rattle.notes.proofs.Sofar.{onward, ends}
use native.Mathlib.Omega.{arith}
use Rattle.notes.proofs.add_missing.Goals as goal

pub overflow_add-from : goal.overflow_add-from
overflow_add-from c =
    let a = c.args in
    omega (arith, missing_in_lem a.guide.now c.loop-row.from a.passed.end (sym c.next_missing.ensures ∙ c.in-Some.is))

pub loop-row-smaller : goal.loop-row-smaller
loop-row-smaller c =
    let a = c.args in
    missing_fewer a.passed.position a.guide.now c.loop-row.from a.passed.end (sym c.next_missing.ensures ∙ c.in-Some.is)

pub loop-row-preserved : goal.loop-row-preserved
loop-row-preserved c =
    let a = c.args in
    onward c.loop-row.invariant (missing_more a.passed.position a.guide.now c.loop-row.from a.passed.end (sym c.next_missing.ensures ∙ c.in-Some.is)) (rw c.absent.ensures at c.add_line-sum.ensures)

pub returns : goal.returns
returns c =
    let a = c.args in
    ends c.loop-row.invariant (missing_none a.passed.position a.guide.now c.loop-row.from a.passed.end (sym c.next_missing.ensures ∙ c.in_default.is))
