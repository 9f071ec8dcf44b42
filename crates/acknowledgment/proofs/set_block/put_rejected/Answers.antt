-- `acknowledgment::set_block::put_rejected` meets its contract: AK2, the notes and AK5, one after the other.
use mathlib.Core.Path.{sym, ◌∙◌}
use Rattle.guides.specs.Choice.{table_at}
use Rattle.acknowledgment.proofs.Blocks.{there_is, block_of}
use Rattle.acknowledgment.proofs.set_block.put_rejected.Goals as goal

pub codes_of-codes-requires : goal.codes_of-codes-requires
codes_of-codes-requires c =
    c.requires.is

pub returns : goal.returns
returns c =
    λ earlier k u.
    block_of _ _ (table_at c.args.directory.now c.args.rows.now c.args.set.table) earlier c.codes_of-codes.result (sym (c.requires.is.header ∙ rw c.part-header.ensures))
    c.add_ak2-n.ensures
    (c.add_notes-told.ensures u)
    (λ e. c.codes_of-codes.ensures _ _ earlier (there_is c.args.directory.now c.args.rows.now c.args.set.table) e k)
    c.add_ak5.ensures
    c.saturating_add.ensures
