-- `elements::first_note` meets its contract.
use Rattle.std.proofs.Common.{◌≡◌, ◌≤◌, [], length, arith, sym, ◌∙◌}
use Rattle.text.proofs.Where.{next_here, next_later, next_none}
use Rattle.elements.specs.Checks.{note_row}
use Rattle.elements.proofs.Checks.{is_end}
use Rattle.elements.proofs.first_note.Goals as goal

pub returns-then-is_note : goal.returns-then-is_note
unfolding note_row
returns-then-is_note c = sym (c.loop-k.invariant ∙ next_here _ _ [] _ c.loop-k-test.true (grind arith))

pub loop-k-preserved : goal.loop-k-preserved
unfolding note_row
loop-k-preserved c = c.loop-k.invariant ∙ next_later _ _ [] _ c.loop-k-test.true (grind arith)

pub returns : goal.returns
unfolding note_row
returns c =
    let l = c.loop-k in
    let rows = c.args.guide.now in
    let end = next_none is_end rows [] l.k c.loop-k-test.false in
    let start : (length rows ≤ c.args.from → note_row rows c.args.from ≡ c.args.from) = next_none is_end rows [] c.args.from in
    grind (arith, l.auto.k-end, end, start)
