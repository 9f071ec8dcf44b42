-- `tables::reach` meets its contract.
use Rattle.std.proofs.Common.{◌∙◌, sym, ap, zero-add, length, unwrap_or, rules, tests}
use Rattle.tables.specs.Reading.{is_entry_row, entry_row}
use Rattle.text.proofs.Library.{position_of, position-or}
use Rattle.tables.proofs.reach.Goals as goal

pub returns : goal.returns
unfolding entry_row
returns c =
    let guide = c.args.guide.now in
    let is_entry = is_entry_row c.args.id.now in
    let found = position_of is_entry c.position.ensures.ran c.iter.ensures.rest (λ x b q k. search (rules, tests)) in
    c.unwrap_or.ensures ∙ ap (λ o. unwrap_or o (length guide)) found ∙ position-or is_entry guide ∙ sym (zero-add _)
