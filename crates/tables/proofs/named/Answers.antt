-- `tables::named` meets its contract.
use Rattle.std.proofs.Common.{◌∙◌, ap, eqb, length, unwrap_or, rules, tests}
use Rattle.text.proofs.Library.{position_of, position-or}
use Rattle.tables.proofs.named.Goals as goal

pub returns : goal.returns
returns c =
    let numbers = c.args.numbers.now in
    let found = position_of (λ n. eqb n 0) c.position.ensures.ran c.iter.ensures.rest (λ x b q k. search (rules, tests)) in
    c.unwrap_or.ensures ∙ ap (λ o. unwrap_or o (length numbers)) found ∙ position-or (λ n. eqb n 0) numbers
