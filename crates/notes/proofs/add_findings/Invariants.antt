-- `notes::add_findings` meets its contract.
use mathlib.Core.List.{map}
use Rattle.rules.specs.Response.{ak4}
use Rattle.elements.specs.Checks.{findings_from}
use Rattle.notes.proofs.Laws.{weight}
use Rattle.notes.proofs.Sofar.{Sofar}
use Rattle.notes.proofs.add_findings.Given as goal

abbrev pub invariant-loop-rest : goal.invariant-loop-rest
invariant-loop-rest l = Sofar l.d l.initial.sum (map ak4 (findings_from l.d l.s l.guide l.initial.rest)) (map ak4 (findings_from l.d l.s l.guide l.rest)) l.sum l.initial.out l.out

abbrev pub decreases-loop-rest : goal.decreases-loop-rest
decreases-loop-rest l = weight l.d l.s l.guide l.rest
