-- `notes::add_finding` meets its contract.
use borrow.Author.Tests.{eq-eqb, ne_eqb}
use native.Mathlib.Omega.{arith}
use Rattle.notes.proofs.Sofar.{adds_none, adds_one}
use Rattle.notes.proofs.add_finding.Goals as goal

pub returns-then-f-eq0 : goal.returns-then-f-eq0
returns-then-f-eq0 c = rw (eq-eqb _ _ c.if-f-eq0.true) (adds_none _ _ _ (omega arith) (omega arith) (omega arith))

pub returns : goal.returns
returns c = rw (ne_eqb _ _ c.if-f-eq0.false) (adds_one c.add_ak4.ensures c.one_more.ensures)
