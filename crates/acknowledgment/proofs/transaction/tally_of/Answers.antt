-- `acknowledgment::transaction::tally_of` meets its contract: what is counted of the marks that are left decides.
use mathlib.Core.Path.{sym, ◌∙◌}
use native.Mathlib.Omega.{arith}
use Rattle.acknowledgment.proofs.Recorded.{not_end, not_accepted, tally_mark, tally_stops, tally_none}
use Rattle.acknowledgment.proofs.transaction.tally_of.Goals as goal
use Rattle.acknowledgment.proofs.transaction.tally_of.Goals.{in-Accepted, in_default}

pub loop-mark-preserved : goal.loop-mark-preserved
loop-mark-preserved c =
    let inv = c.loop-mark.invariant in
    elim c.match-mark.branch [
      | in-Accepted w ↦
          (inv.0 ∙ tally_mark _ _ _ _ c.loop-mark-test.true (rw w.in-Accepted.is) (rw w.in-Accepted.is w.accepted-is), omega (arith, inv.1), omega (arith, inv.2))
      | in_default w ↦ (
        inv.0 ∙ tally_mark _ _ _ _ c.loop-mark-test.true (not_end _ w.in_default.not-GroupEnd) (rw (not_accepted _ w.in_default.not-Accepted) w.accepted-is),
        omega (arith, inv.1),
        omega (arith, inv.2),
      )
    ]

pub returns-after-loop-mark : goal.returns-after-loop-mark
returns-after-loop-mark c = sym (c.loop-mark.invariant.0 ∙ tally_none _ _ _ _ c.loop-mark-test.false)

pub returns-in-GroupEnd : goal.returns-in-GroupEnd
returns-in-GroupEnd c = sym (c.loop-mark.invariant.0 ∙ tally_stops _ _ _ _ c.loop-mark-test.true (rw c.in-GroupEnd.is))
