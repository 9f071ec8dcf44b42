-- `acknowledgment::response::survey_groups` meets its contract: what holds of the groups so far.
use lib.ListN as lists
use Rattle.acknowledgment.proofs.Passes.{Surveying}
use Rattle.acknowledgment.proofs.response.survey_groups.Given as goal

abbrev pub invariant-loop : goal.invariant-loop
invariant-loop l = Surveying l.d l.i l.fn.envelope (lists.length l.initial.starts) l.starts l.marks l.links l.at l.counter l.entries l.length
