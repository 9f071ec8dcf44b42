-- `acknowledgment::set_block::add_notes` meets its contract: nothing without a table, and else the rest is lent.
use mathlib.Core.Path.{refl}
use native.Mathlib.Omega.{arith}
use Rattle.rules.specs.Response.{out, ak3s}
use Rattle.guides.specs.Choice.{Lies}
use Rattle.writing.proofs.Laws.{lend, none}
use Rattle.acknowledgment.proofs.Blocks.{parts_at, notes_are}
use Rattle.acknowledgment.proofs.set_block.add_notes.Goals as goal
use Rattle.acknowledgment.proofs.set_block.add_notes.Goals.{In-Some}

pub returns-in_default : goal.returns-in_default
unfolding ak3s out
returns-in_default c = λ u. rw c.in_default.is (record { text = none _ _ (omega arith) (omega arith); number = refl })

pub returns-then-set : goal.returns-then-set
unfolding ak3s out
returns-then-set c = λ u. rw (u c.if-set.true) (record { text = none _ _ (omega arith) (omega arith); number = refl })

-- the table lies among the rows
lies : (c : In-Some) → Lies c.args.rows.now c.in-Some.table.start c.in-Some.table.end
lies c = rw c.in-Some.is at c.requires.stands

pub offset_bounds-rows-table : goal.offset_bounds-rows-table
offset_bounds-rows-table c = let l = lies (goal.at.offset_bounds-rows-table c).In-Some in omega (arith, c.well_formed)

pub returns : goal.returns
returns c =
    let there = c.in-Some.is in
    let parts = parts_at c.requires.is (omega (arith, c.well_formed)) c.part-bytes.ensures refl refl in
    λ u.
    rw (there, ← notes_are parts c.args.directory.now (rw there at c.requires.stands).limits)
    (record {
      text = lend c.min-rest.ensures c.put_notes-told.ensures.text c.saturating_add.ensures (omega arith);
      number = c.put_notes-told.ensures.number;
    })
