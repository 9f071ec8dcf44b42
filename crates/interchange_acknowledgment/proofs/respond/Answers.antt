-- `interchange_acknowledgment::respond` meets its contract: the length is known, and the three segments are written one after the other.
use Rattle.interchange_acknowledgment.proofs.Laws.{too_long, written}
use Rattle.interchange_acknowledgment.proofs.respond.Goals as goal

pub returns-then-out-lt-LENGTH : goal.returns-then-out-lt-LENGTH
returns-then-out-lt-LENGTH c = too_long _ _ c.requires.0 _ c.if-out-lt-LENGTH.true

pub returns : goal.returns
returns c =
    written _ _ c.requires.0 c.requires.1 c.note_code-note.ensures c.if-out-lt-LENGTH.false
    c.add_isa-n.ensures c.add_ta1-n.ensures c.add_iea.ensures
