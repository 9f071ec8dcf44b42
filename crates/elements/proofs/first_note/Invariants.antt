-- `elements::first_note` meets its contract.
use Rattle.std.proofs.Common.{◌≡◌}
use Rattle.elements.specs.Checks.{note_row}
use Rattle.elements.proofs.first_note.Given as goal

abbrev pub invariant-loop-k : goal.invariant-loop-k
invariant-loop-k l = note_row l.guide l.from ≡ note_row l.guide l.k
