-- `acknowledgment::set_block::measure_rejected` meets its contract: the block is measured on an empty part.
use Rattle.acknowledgment.proofs.Blocks.{received_is, block_received}
use Rattle.acknowledgment.proofs.Turns.{measures}
use Rattle.acknowledgment.proofs.set_block.measure_rejected.Goals as goal

pub put_rejected-requires : goal.put_rejected-requires
put_rejected-requires c =
    received_is c.requires.0 c.requires.1.0 _ _ _ c.receive-received.ensures c.requires.1.1

pub returns : goal.returns
returns c =
    λ earlier k u.
    measures (block_received c.requires.0 c.requires.1.0 _ _ _ _ _ c.receive-received.ensures earlier (c.put_rejected.ensures earlier) k u)
