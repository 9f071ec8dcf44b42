-- `guides::is_supported` meets its contract.
use mathlib.Core.Path.{sym, ◌∙◌}
use Rattle.rules.specs.Base.{any}
use Rattle.text.proofs.Loops.{or_false}
use Rattle.guides.proofs.is_supported.Goals as goal

pub returns-then-same_bytes : goal.returns-then-same_bytes
unfolding any
returns-then-same_bytes c = rw (sym c.same_bytes.ensures ∙ c.if-same_bytes.true) c.if-same_bytes.true

pub returns-else-same_bytes : goal.returns-else-same_bytes
unfolding any
returns-else-same_bytes c = rw (sym c.same_bytes.ensures ∙ c.if-same_bytes.false, or_false) c.same_bytes-else-same_bytes.ensures
