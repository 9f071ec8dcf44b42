-- `tables::is_named` meets its contract.
use Rattle.std.proofs.Common.{◌≡◌, ◌∙◌, ap, arith, rules}
use Rattle.std.proofs.lemmas.Grind.{same_number_lists}
use Rattle.rules.specs.Base.{same}
use Rattle.tables.specs.Rows.{filled}
use Rattle.tables.proofs.Numbers.{same_swap}
use Rattle.tables.proofs.is_named.Goals as goal

pub returns : goal.returns
returns c =
    let row = c.args.row in
    let id = c.args.id.now in
    let numbers = c.map.ensures.items in
    let wide : c.map.result ≡ row = same_number_lists _ _ (omega (arith, numbers.long, c.well_formed)) (λ k h. let at = numbers.at k 0 0 (omega (arith, numbers.long)) in search rules) in
    c.spells.ensures ∙ ap (λ l. same (filled l) id) wide ∙ same_swap (filled row) id
