-- `notes::add_codes` meets its contract.
use mathlib.Core.Path.{sym}
use Rattle.notes.proofs.Laws.{findings_two}
use Rattle.notes.proofs.Sofar.{adds_more, adds_same}
use Rattle.notes.proofs.add_codes.Goals as goal

pub returns : goal.returns
returns c =
    let a = c.args in
    adds_same (sym (findings_two a.s.now a.c))
    (adds_more (rw (c.finding.ensures, c.lower.ensures) at c.add_finding-told.ensures)
    (rw (c.finding-2.ensures, c.higher.ensures) at c.add_finding.ensures))
