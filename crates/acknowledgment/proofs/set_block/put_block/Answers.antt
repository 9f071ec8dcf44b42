-- `acknowledgment::set_block::put_block` meets its contract: the mark of a set decides how its block is written.
use mathlib.Core.Path.{sym, ◌∙◌}
use Rattle.acknowledgment.specs.Received.{table_by}
use Rattle.acknowledgment.specs.Surveys.{set_here}
use Rattle.acknowledgment.proofs.Blocks.{received_is, block_received}
use Rattle.acknowledgment.proofs.Reports.{mark_block, mark_repeats, mark_untold}
use Rattle.acknowledgment.proofs.set_block.put_block.Goals as goal

pub put_accepted-requires : goal.put_accepted-requires
put_accepted-requires c = (c.requires.0, c.requires.1.0)

pub returns-then-is_accepted : goal.returns-then-is_accepted
returns-then-is_accepted c =
    let a = c.args in
    let here = set_here a.reading.delimiters a.body.now a.set.start in
    λ earlier m.
    rw (mark_block a.reading.delimiters (table_by a.directory.now a.rows.now a.reading.scope here) here earlier m (sym c.is_accepted.ensures ∙ c.if-is_accepted.true))
    c.put_accepted.ensures

pub put_rejected-requires : goal.put_rejected-requires
put_rejected-requires c =
    received_is c.next_set-place.ensures (rw c.next_set-place.ensures c.requires.1.0) _ _ _ c.receive-received.ensures c.requires.1.1

pub returns : goal.returns
returns c =
    λ earlier m.
    block_received c.next_set-place.ensures (rw c.next_set-place.ensures c.requires.1.0) _ _ _ _ _ c.receive-received.ensures earlier (c.put_rejected.ensures earlier)
    (c.is_repeated.ensures ∙ mark_repeats m) (λ h. mark_untold m (sym c.is_quiet.ensures ∙ h))
