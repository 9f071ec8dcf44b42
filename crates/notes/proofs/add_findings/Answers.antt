-- `notes::add_findings` meets its contract.
use Rattle.notes.proofs.Laws.{weight_less, found_more}
use Rattle.notes.proofs.Sofar.{onward, ends}
use Rattle.notes.proofs.add_findings.Goals as goal

pub loop-rest-smaller : goal.loop-rest-smaller
loop-rest-smaller c =
    let a = c.args in rw c.next_found-rest.ensures (weight_less a.d a.s.now a.guide.now c.in-Some.is)

pub loop-rest-preserved : goal.loop-rest-preserved
loop-rest-preserved c =
    let a = c.args in
    rw c.next_found-rest.ensures (onward c.loop-rest.invariant (found_more a.d a.s.now a.guide.now c.in-Some.is) c.add_codes-sum.ensures)

pub returns : goal.returns
returns c = let a = c.args in ends c.loop-rest.invariant (rw c.in_default.is)
