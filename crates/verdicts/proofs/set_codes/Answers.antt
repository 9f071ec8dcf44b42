-- `verdicts::set_codes` meets its contract: a row of codes, each where its rule applies.
use mathlib.Core.Path.{refl}
use Rattle.verdicts.specs.Collecting.{collected, collected_from}
use Rattle.verdicts.specs.Verdicts.{set_code_rules}
use Rattle.verdicts.proofs.Collected.{then}
use Rattle.verdicts.proofs.Laws.{no_trailer}
use Rattle.verdicts.proofs.set_codes.Goals as goal

pub returns : goal.returns
unfolding collected collected_from set_code_rules
returns c =
    then 23 (then 5 (then 4 (then 3 (then 2 (then 1
    c.none.ensures
    c.with.ensures refl)
    c.with-2.ensures (no_trailer _ _ c.is_none.ensures))
    c.with-3.ensures c.is_other_control.ensures)
    c.with-4.ensures c.is_other_count.ensures)
    c.with-5.ensures refl)
    c.with-6.ensures refl
