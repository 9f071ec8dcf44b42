-- `segments::field` meets its contract.
use mathlib.Core.Path.{◌≡◌, sym, ap, ◌∙◌}
use Rattle.rules.specs.Cutting as cutting
use Rattle.text.proofs.Search.{find_le}
use Rattle.segments.proofs.Fields.{field_first, field_at, field_next, field_past}
use native.Mathlib.Omega.{arith}
use Rattle.segments.proofs.field.Goals as goal

pub loop-init : goal.loop-init
loop-init c = (omega arith, field_first)

pub returns-then-s-end : goal.returns-then-s-end
returns-then-s-end c =
    let next = field_next c.loop.invariant.1 c.find_near-end.ensures in
    sym (field_past next (omega arith) c.args.n (omega arith))

pub loop-preserved : goal.loop-preserved
loop-preserved c = (omega arith, field_next c.loop.invariant.1 c.find_near-end.ensures)

pub slice_bounds-result-end-2 : goal.slice_bounds-result-end-2
slice_bounds-result-end-2 c =
    let l = c.loop in
    omega (arith, find_le c.args.e c.args.s.now l.at l.invariant.0, c.find_near-end-2.ensures)

pub returns : goal.returns
returns c =
    let l = c.loop in
    let reached : c.args.n ≡ l.counter = omega arith in
    sym (ap (cutting.field (cutting.split c.args.e c.args.s.now)) reached ∙ field_at l.invariant.1 c.find_near-end-2.ensures)
