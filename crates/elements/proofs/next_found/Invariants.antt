-- `elements::next_found` meets its contract.
use Rattle.std.proofs.Common.{◌≡◌}
use Rattle.elements.specs.Checks.{next_found}
use Rattle.elements.proofs.next_found.Given as goal

abbrev pub invariant-loop-row : goal.invariant-loop-row
invariant-loop-row l = (next_found l.d l.s l.guide l.initial.c ≡ next_found l.d l.s l.guide l.c) × (l.c.row ≡ l.row)
