-- `acknowledgment::transaction::put_sets` meets its contract: the blocks of the sets that are left are still owed.
use native.Mathlib.Omega.{arith}
use lib.ListN.{take, get_or}
use Rattle.acknowledgment.specs.Received.{table_by}
use Rattle.acknowledgment.specs.declared.set_block.Mark.TheVariants.{Accepted}
use Rattle.acknowledgment.specs.Surveys.{Seen}
use Rattle.acknowledgment.proofs.Turns.{sofar_start, sofar_turn, sofar_end, seen_set, seen_next}
use Rattle.acknowledgment.proofs.transaction.put_sets.Goals as goal
use Rattle.acknowledgment.proofs.transaction.put_sets.Goals.{In-loop-k}

seen : (c : In-loop-k) → (let a = c.args in let k = c.loop-k.k in Seen a.reading.delimiters (table_by a.directory.now a.rows.now a.reading.scope) a.body.now (take k a.starts.now) k (get_or a.starts.now k 0) (get_or a.marks.now k Accepted))
seen c = c.requires.0.seen _ c.loop-k-test.true

pub loop-k-init : goal.loop-k-init
loop-k-init c = sofar_start _ _ _ (omega arith)

pub put_block-told-requires : goal.put_block-told-requires
put_block-told-requires c = let s = seen (goal.at.put_block-told-requires c).In-loop-k in rw c.from.ensures (s.headed, (seen_set s, c.requires.1))

pub loop-k-preserved : goal.loop-k-preserved
loop-k-preserved c =
    let s = seen (goal.at.loop-k-preserved c).In-loop-k in
    sofar_turn c.loop-k.invariant (seen_next s) c.min-rest.ensures ((rw c.from.ensures at c.put_block-told.ensures) _ s.marked) c.saturating_add-n.ensures c.saturating_add-segments.ensures

pub returns : goal.returns
returns c = let all = c.requires.0 in sofar_end c.loop-k.invariant (omega (arith, all.received))
