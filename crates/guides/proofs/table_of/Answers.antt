-- `guides::table_of` meets its contract.
use Rattle.guides.specs.Choice.{place_of}
use Rattle.guides.proofs.table_of.Goals as goal
use Rattle.guides.proofs.table_of.Goals.{else-scope-via-then-scope+else-same_bytes, else-scope-via-else-scope}

pub returns-then-same_bytes : goal.returns-then-same_bytes
unfolding place_of
returns-then-same_bytes c = rw (c.if-scope.true, ← c.same_bytes.ensures, c.if-same_bytes.true) c.table.ensures

pub returns-else-scope : goal.returns-else-scope
unfolding place_of
returns-else-scope c = elim c.else-scope.branch [
  | else-scope-via-then-scope+else-same_bytes w ↦ rw (w.if-scope.true, ← w.same_bytes.ensures, w.if-same_bytes.false)
  | else-scope-via-else-scope w ↦ rw w.if-scope.false
]
