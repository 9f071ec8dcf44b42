-- `notes::put_notes` meets its contract.
use mathlib.Core.List.{map}
use lib.ListN.{length}
use Rattle.findings.specs.Events.{written}
use Rattle.findings.specs.Remaining.{events, remaining}
use Rattle.findings.specs.Steps as steps
use Rattle.notes.proofs.Sofar.{Sofar}
use Rattle.notes.proofs.put_notes.Given as goal

abbrev pub invariant-loop-taken : goal.invariant-loop-taken
invariant-loop-taken l = Sofar l.d (record { length = 0; segments = 0 }) (map written (events (remaining l.set l.d l.directory l.guide l.closed steps.start))) (map written (events (remaining l.set l.d l.directory l.guide l.closed l.w))) l.told l.initial.out l.out

abbrev pub decreases-loop-taken : goal.decreases-loop-taken
decreases-loop-taken l = length (remaining l.set l.d l.directory l.guide l.closed l.w)
