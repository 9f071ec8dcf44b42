-- `elements::after_present` meets its contract.
use Rattle.std.proofs.Common.{◌≡◌, ◌+◌, sym, ◌∙◌, rules, tests}
use Rattle.std.specs.List.{position}
use Rattle.rules.specs.Cutting.{split}
use Rattle.rules.specs.Elements.{present}
use Rattle.text.proofs.Library.{position_of}
use Rattle.elements.proofs.Notes.{rest, after_some, after_none}
use Rattle.elements.proofs.after_present.Goals as goal
use Rattle.elements.proofs.after_present.Goals.{After-position}

found : (c : After-position) → c.position.result ≡ position (present (split c.args.e c.args.s.now)) c.args.places.now
found c = position_of (present (split c.args.e c.args.s.now)) c.position.ensures.ran c.iter.ensures.rest (λ x b q k. search (rules, tests))

pub returns-in-Some : goal.returns-in-Some
returns-in-Some c =
    let a = c.args in
    let at = found (goal.at.returns-in-Some c).After-position in
    rest a.places.now (c.in-Some.i + 1) ∙ sym (after_some (split a.e a.s.now) a.places.now (sym at ∙ c.in-Some.is))

pub returns-in-None : goal.returns-in-None
returns-in-None c =
    let a = c.args in
    let at = found (goal.at.returns-in-None c).After-position in
    sym (after_none (split a.e a.s.now) a.places.now (sym at ∙ c.in-None.is))
