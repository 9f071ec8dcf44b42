-- `verdicts::group_codes` meets its contract: a row of codes, each where its rule applies.
use mathlib.Core.Path.{refl, ap}
use mathlib.Core.Bool.{not}
use Rattle.verdicts.specs.Collecting.{collected, collected_from}
use Rattle.verdicts.specs.Verdicts.{group_code_rules}
use Rattle.verdicts.proofs.Collected.{then}
use Rattle.verdicts.proofs.Laws.{no_trailer}
use Rattle.verdicts.proofs.group_codes.Goals as goal

pub returns : goal.returns
unfolding collected collected_from group_code_rules
returns c =
    then 5 (then 4 (then 3 (then 2 (then 1
    c.none.ensures
    c.with.ensures refl)
    c.with-2.ensures (ap not c.has_tables.ensures))
    c.with-3.ensures (no_trailer _ _ c.is_none.ensures))
    c.with-4.ensures c.is_other_control.ensures)
    c.with-5.ensures c.is_other_count.ensures
