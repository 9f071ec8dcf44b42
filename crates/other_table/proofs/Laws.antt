-- By rows that mean the table, the walk of a set tells its notes.
use mathlib.Core.Path.{◌≡◌, refl}
use mathlib.Core.Bool.{true}
use mathlib.Core.List.{List, [], ◌∷◌, map}
use Prim.Native.Nat.{ℕ}
use lib.ListN.{length}
use Rattle.rules.specs.Base.{Bytes}
use Rattle.rules.specs.Cutting.{Segment, segments}
use Rattle.rules.specs.Response.{ak3s}
use Rattle.tables.specs.Rows.{table_of}
use Rattle.tables.specs.Reading.{Guide, Limits}
use Rattle.findings.specs.Events.{written}
use Rattle.findings.specs.Remaining.{events, remaining, set_slots}
use Rattle.findings.specs.Steps.{start}
use Rattle.findings.proofs.Linked.{Small, walk_notes}
use Rattle.findings.proofs.Told.{written_flat}
use Rattle.writing.specs.Over.{Wrote}
use Rattle.notes.specs.Saying.{Tells}
use Rattle.notes.specs.declared.Told.{Told}
use Rattle.other_table.specs.OtherTable.{other_table, other_delimiters, other_notes, notes_text}

module _ (set : Bytes) (small : Small (length set)) (ids : List (List ℕ)) (rows : Guide) (limits : Limits rows) (means : table_of ids rows ≡ other_table) where
  abbrev told : List Segment
  told = map written (events (remaining set other_delimiters ids rows true start))

  by_segments : (ss : List Segment) → segments other_delimiters set ≡ ss → told ≡ ak3s (other_notes ss)
  unfolding remaining start set_slots events ak3s
  by_segments [] e = rw e
  by_segments (header ∷ after) e = rw (walk_notes set other_delimiters ids rows true limits small e, means) (written_flat _)

  -- and so what it writes is their text
  pub notes_written : {r : Told} {o o' : Bytes} → Tells other_delimiters told r o o' → Wrote (notes_text set) r.length o o'
  unfolding notes_text
  notes_written tells = rw (← by_segments _ refl) tells.text
