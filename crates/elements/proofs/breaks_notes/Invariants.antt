-- `elements::breaks_notes` meets its contract.
use Rattle.std.proofs.Common.{◌≡◌, drop}
use Rattle.rules.specs.Base.{any}
use Rattle.rules.specs.Cutting.{split}
use Rattle.tables.specs.Rows.{syntax_in}
use Rattle.elements.specs.Notes.{breaks}
use Rattle.elements.proofs.breaks_notes.Given as goal

abbrev pub invariant-loop-k : goal.invariant-loop-k
invariant-loop-k l = any (breaks l.present (split l.e l.s) l.n) (syntax_in (drop l.from l.guide)) ≡ any (breaks l.present (split l.e l.s) l.n) (syntax_in (drop l.k l.guide))
