-- `acknowledgment::transaction::put_sets` meets its contract: the blocks of the sets that are left are still owed.
use Rattle.acknowledgment.specs.Received.{table_by}
use Rattle.acknowledgment.specs.Surveys.{reports}
use Rattle.acknowledgment.proofs.Turns.{Sofar}
use Rattle.acknowledgment.proofs.transaction.put_sets.Given as goal

abbrev pub invariant-loop-k : goal.invariant-loop-k
invariant-loop-k l = Sofar l.reading.delimiters (reports l.reading.delimiters (table_by l.directory l.rows l.reading.scope) l.body) l.initial.out l.out l.n l.segments l.k
