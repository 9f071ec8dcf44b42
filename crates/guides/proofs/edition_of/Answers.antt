-- `guides::edition_of` meets its contract.
use Rattle.guides.specs.Choice.{edition_in}
use Rattle.guides.proofs.edition_of.Goals as goal

pub returns-then-same_bytes : goal.returns-then-same_bytes
unfolding edition_in
returns-then-same_bytes c = rw (← c.part-edition.ensures, ← c.same_bytes.ensures, c.if-same_bytes.true)

pub returns-then-same_bytes-2 : goal.returns-then-same_bytes-2
unfolding edition_in
returns-then-same_bytes-2 c = rw (← c.part-edition.ensures, ← c.same_bytes.ensures, c.if-same_bytes.false, ← c.same_bytes-else-same_bytes.ensures, c.if-same_bytes-2.true)

pub returns-else-same_bytes-2 : goal.returns-else-same_bytes-2
unfolding edition_in
returns-else-same_bytes-2 c = rw (← c.part-edition.ensures, ← c.same_bytes.ensures, c.if-same_bytes.false, ← c.same_bytes-else-same_bytes.ensures, c.if-same_bytes-2.false)
