-- `isa::has_isa` meets its contract.
use Rattle.std.proofs.Common.{eqb, get_or, sym, ◌∙◌, rules, tests}
use Rattle.rules.specs.Cutting.{separators}
use Rattle.rules.specs.Refusals.{has_isa}
use Rattle.text.proofs.Library.{all_of}
use Rattle.isa.proofs.has_isa.Goals as goal

pub returns-then-not-same_bytes : goal.returns-then-not-same_bytes
unfolding has_isa
returns-then-not-same_bytes c = rw (← c.part.ensures, sym c.same_bytes.ensures ∙ c.if-not-same_bytes.true)

pub returns : goal.returns
unfolding has_isa separators
returns c =
    let i = c.args.i.now in
    rw (← c.part.ensures, sym c.same_bytes.ensures ∙ c.if-not-same_bytes.false)
    (all_of (λ at. eqb (get_or i at 0) (get_or i 3 0)) c.all.ensures.ran c.iter.ensures.rest (λ x b q k. search (rules, tests)))
