-- `exchange::printing::acknowledge` meets its contract: the entry that is called is that of the acknowledgment asked for.
use Rattle.exchange.specs.Replies.{replies_of}
use Rattle.exchange.proofs.printing.acknowledge.Goals as goal

pub returns-in-Functional : goal.returns-in-Functional
unfolding replies_of
returns-in-Functional c = rw c.in-Functional.is c.acknowledge.ensures

pub returns-in-Interchange : goal.returns-in-Interchange
unfolding replies_of
returns-in-Interchange c = rw c.in-Interchange.is c.acknowledge_interchange.ensures
