-- `acknowledgment::survey::survey_sets` meets its contract: what holds of the sets so far.
use mathlib.Core.Path.{◌≡◌}
use mathlib.Core.List.{[]}
use Prim.Native.Nat.{◌+◌, ◌-◌}
use lib.ListN as lists
use Rattle.acknowledgment.specs.Received.{table_by}
use Rattle.acknowledgment.specs.Surveys.{reports}
use Rattle.acknowledgment.proofs.Surveys.{Seeing}
use Rattle.acknowledgment.proofs.Turns.{Sofar}
use Rattle.acknowledgment.proofs.survey.survey_sets.Given as goal

abbrev pub invariant-loop-at : goal.invariant-loop-at
invariant-loop-at l =
    let table = table_by l.directory l.rows l.reading.scope in
    (Seeing l.reading.delimiters table l.body l.first l.starts l.marks l.links l.received l.accepted l.at)
    × (Sofar l.reading.delimiters (reports l.reading.delimiters table l.body) [] [] l.length l.segments l.received)
    × (lists.length l.links ≡ lists.length l.initial.links)
    × (lists.length l.starts ≡ lists.length l.initial.starts)
    × (lists.length l.marks ≡ lists.length l.initial.marks)

abbrev pub decreases-loop-at : goal.decreases-loop-at
decreases-loop-at l = lists.length l.body + 1 - l.at
