-- `tables::is_known` meets its contract.
use Rattle.std.proofs.Common.{◌∙◌, sym, rules, tests}
use Rattle.rules.specs.Base.{same}
use Rattle.tables.specs.Rows.{filled}
use Rattle.text.proofs.Library.{any_of}
use Rattle.tables.proofs.Numbers.{known_any}
use Rattle.tables.proofs.is_known.Goals as goal

pub returns : goal.returns
returns c =
    let a = c.args in
    any_of (λ row. same a.id.now (filled row)) c.any.ensures.ran c.iter.ensures.rest (λ x b q k. search (rules, tests)) ∙ sym (known_any a.id.now a.directory.now)
