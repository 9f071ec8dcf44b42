-- `other_table::x12_other_table_notes` meets its contract: the rows mean the table.
use mathlib.Core.Path.{refl}
use native.Mathlib.Omega.{arith}
use lib.Dec.{lit≤}
use Rattle.rules.proofs.Open.{everything}
use Rattle.tables.specs.Rows.{filled, kind_of, relation_of, codes_in, rows_in, syntax_in, entries_in, ids_in, table_of}
use Rattle.tables.specs.Reading.{ids_are_bytes}
use Rattle.other_table.specs.OtherTable.{t1_rows, t1_notes, other_table}
use Rattle.other_table.proofs.Laws.{notes_written}
use borrow.Author.Rules.{rules}
use Rattle.other_table.proofs.x12_other_table_notes.Goals as goal

pub returns : goal.returns
unfolding codes_in entries_in everything filled ids_are_bytes ids_in kind_of other_table relation_of rows_in syntax_in t1_notes t1_rows table_of
returns c =
    notes_written _ (omega arith) _ _
    (record { begins = refl; few = lit≤ tt; ids = refl })
    refl
    (rw c.new-d.ensures at c.put_notes-told.ensures)
