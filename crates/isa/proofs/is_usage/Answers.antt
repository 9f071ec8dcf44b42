-- `isa::is_usage` meets its contract.
use Rattle.std.proofs.Common.{sym, ◌∙◌}
use Rattle.std.proofs.lemmas.Bool.{false≢true}
use Rattle.rules.specs.Base.{any}
use Rattle.rules.proofs.Logic.{or_none}
use Rattle.isa.proofs.is_usage.Goals as goal
use Rattle.isa.proofs.is_usage.Goals.{then-same_bytes, else-same_bytes}

pub returns-then-same_bytes-2 : goal.returns-then-same_bytes-2
unfolding any
returns-then-same_bytes-2 c =
    elim c.if-same_bytes.branch [
      | then-same_bytes w ↦ rw (sym c.same_bytes.ensures ∙ w.if-same_bytes.true) c.if-same_bytes-2.true
      | else-same_bytes w ↦
          rw (
            sym c.same_bytes.ensures ∙ w.if-same_bytes.false,
            sym w.same_bytes-else-same_bytes.ensures ∙ sym w.value-is ∙ c.if-same_bytes-2.true,
          )
          c.if-same_bytes-2.true
    ]

pub returns-else-same_bytes-2 : goal.returns-else-same_bytes-2
unfolding any
returns-else-same_bytes-2 c =
    elim c.if-same_bytes.branch [
      | then-same_bytes w ↦ absurd (false≢true (sym c.if-same_bytes-2.false ∙ w.value-is ∙ w.if-same_bytes.true))
      | else-same_bytes w ↦
          rw (
            sym c.same_bytes.ensures ∙ w.if-same_bytes.false,
            sym w.same_bytes-else-same_bytes.ensures ∙ sym w.value-is ∙ c.if-same_bytes-2.false,
            or_none _,
          )
          c.same_bytes-else-same_bytes-2.ensures
    ]
