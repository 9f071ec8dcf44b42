-- `writing::add_optional` meets its contract: a number as an element, or its separator alone.
use mathlib.Core.List.{[]}
use Rattle.writing.proofs.Laws.{said}
use Rattle.writing.proofs.Numbers.{optional_none}
use Rattle.writing.proofs.Segments.{field_out}
use Rattle.writing.proofs.add_optional.Goals as goal

pub returns-then-v-eq0 : goal.returns-then-v-eq0
returns-then-v-eq0 c =
    rw (optional_none _ c.if-v-eq0.true) (said (field_out _ []) c.add.ensures)
