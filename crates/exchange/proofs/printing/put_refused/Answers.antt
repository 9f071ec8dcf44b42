-- `exchange::printing::put_refused` meets its contract: a row of pieces.
use Rattle.rules.specs.Program.{refused_text}
use Rattle.writing.proofs.Laws.{seq, whole}
use Rattle.exchange.proofs.printing.put_refused.Goals as goal

pub returns : goal.returns
unfolding refused_text
returns c =
    whole (seq (seq c.add-n.ensures (rw c.number.ensures at c.add-n-2.ensures)) c.add.ensures)
