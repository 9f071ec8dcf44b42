-- `tables::next_mandatory` meets its contract.
use mathlib.Core.Path.{◌≡◌, sym, ap, ◌∙◌}
use mathlib.Core.List.{[]}
use lib.ListN.{take, length-take}
use lib.Seq.{get_or-take}
use native.Mathlib.Omega.{arith}
use Rattle.text.specs.Text.{next_where}
use Rattle.text.proofs.Where.{next_here, next_later, next_none}
use Rattle.tables.specs.Reading.{is_mandatory_row, next_mandatory}
use Rattle.text.proofs.Library.{next_past}
use Rattle.tables.proofs.next_mandatory.Goals as goal

pub returns-then-is_mandatory_row : goal.returns-then-is_mandatory_row
unfolding next_mandatory
returns-then-is_mandatory_row c =
    let a = c.args in
    let k = c.loop-k.k in
    let row = ap is_mandatory_row (get_or-take a.end a.guide.now k [] (omega (arith, c.min-end.ensures))) in
    sym (c.loop-k.invariant ∙ next_here _ _ [] k (omega (arith, c.min-end.ensures, length-take a.end a.guide.now)) (row ∙ sym c.is_mandatory_row.ensures ∙ c.if-is_mandatory_row.true))

pub loop-k-preserved : goal.loop-k-preserved
loop-k-preserved c =
    let a = c.args in
    let k = c.loop-k.k in
    let row = ap is_mandatory_row (get_or-take a.end a.guide.now k [] (omega (arith, c.min-end.ensures))) in
    c.loop-k.invariant ∙ next_later _ _ [] k (omega (arith, c.min-end.ensures, length-take a.end a.guide.now)) (row ∙ sym c.is_mandatory_row.ensures ∙ c.if-is_mandatory_row.false)

pub returns : goal.returns
unfolding next_mandatory
returns c =
    let a = c.args in
    let rows = take a.end a.guide.now in
    let size = length-take a.end a.guide.now in
    let found : next_where is_mandatory_row rows a.from ≡ c.loop-k.k = c.loop-k.invariant ∙ next_none _ _ [] _ (omega (arith, c.min-end.ensures, size)) in
    let past = next_past is_mandatory_row rows a.from found (omega (arith, c.min-end.ensures, size)) in
    omega (arith, c.max.ensures, c.min-end.ensures, size)
