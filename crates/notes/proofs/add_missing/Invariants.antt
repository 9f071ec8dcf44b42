-- `notes::add_missing` meets its contract.
use mathlib.Core.List.{map}
use lib.ListN.{length}
use lib.Seq.{slice}
use Rattle.findings.specs.Events.{written}
use Rattle.findings.specs.Remaining.{missing_in, passed_events}
use Rattle.notes.proofs.Sofar.{Sofar}
use Rattle.notes.proofs.add_missing.Given as goal

abbrev pub invariant-loop-row : goal.invariant-loop-row
invariant-loop-row l = Sofar l.d l.initial.sum (map written (passed_events l.guide l.passed)) (map written (missing_in l.passed.position (slice l.from l.passed.end l.guide))) l.sum l.initial.out l.out

abbrev pub decreases-loop-row : goal.decreases-loop-row
decreases-loop-row l = length (missing_in l.passed.position (slice l.from l.passed.end l.guide))
