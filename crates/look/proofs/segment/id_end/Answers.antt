-- `look::segment::id_end` meets its contract.
use Rattle.std.proofs.Common.{◌∙◌, ap, eqb, length, ◌||◌, ℕ, unwrap_or, rules, tests}
use Rattle.text.proofs.Library.{position_of, position-or}
use Rattle.look.specs.Passing.{id_end}
use Rattle.look.proofs.segment.id_end.Goals as goal

pub returns : goal.returns
unfolding id_end
returns c =
    let d = c.args.d in
    let rest = c.args.rest.now in
    let stops = λ (b : ℕ). eqb b d.element || eqb b d.terminator in
    let found = position_of stops c.position.ensures.ran c.iter.ensures.rest (λ x b q k. search (rules, tests)) in
    c.unwrap_or.ensures ∙ ap (λ o. unwrap_or o (length rest)) found ∙ position-or stops rest
