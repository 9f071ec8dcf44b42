-- `interchange_acknowledgment::acknowledge_interchange` meets its contract, by what ISA says in each case.
use mathlib.Core.Path.{sym, ◌∙◌}
use native.Mathlib.Omega.{arith}
use Rattle.interchange_acknowledgment.proofs.Laws.{head_refuses, unasked, asked}
use Rattle.interchange_acknowledgment.proofs.acknowledge_interchange.Goals as goal

pub returns-then-not-asks_for_ta1 : goal.returns-then-not-asks_for_ta1
returns-then-not-asks_for_ta1 c =
    unasked _ _ (sym c.in_ok-d.ensures) _ (sym c.asks_for_ta1.ensures ∙ c.if-not-asks_for_ta1.true)

pub respond-requires : goal.respond-requires
respond-requires c =
    asked _ _ (sym c.in_ok-d.ensures) (sym c.asks_for_ta1.ensures ∙ c.if-not-asks_for_ta1.false)

pub returns-in_err-d : goal.returns-in_err-d
returns-in_err-d c = grind (arith, head_refuses)
