-- `tables::has_values` meets its contract.
use mathlib.Core.Path.{sym, ap, ◌∙◌}
use mathlib.Core.Bool.{not}
use Rattle.rules.specs.Base.{null}
use Rattle.tables.specs.Reading.{Guide}
use Rattle.tables.specs.Rows.{codes_in}
use Rattle.tables.proofs.Laws.{codes_any, below_rest}
use Rattle.tables.proofs.has_values.Goals as goal

pub returns : goal.returns
returns c =
    let a = c.args in
    c.is_value.ensures
    ∙ sym (codes_any a.guide.now c.below.result)
    ∙ ap (λ (l : Guide). not (null (codes_in l))) (below_rest a.guide.now a.k c.below.ensures)
