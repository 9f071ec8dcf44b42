-- `envelope::groups_end` meets its contract.
use mathlib.Core.Path.{sym, ◌∙◌}
use native.Mathlib.Omega.{arith}
use Rattle.envelope.proofs.Places.{count_none, count_full, count_one}
use Rattle.envelope.proofs.groups_end.Goals as goal

pub returns-then-groups-limit : goal.returns-then-groups-limit
returns-then-groups-limit c =
    sym (c.loop-next.invariant.1 ∙ rw c.in-Some.is (count_full _ _ _ _ _ c.if-groups-limit.true))

pub loop-next-preserved : goal.loop-next-preserved
loop-next-preserved c =
    let few = c.loop-next.invariant.0 in (
      omega arith,
      c.loop-next.invariant.1 ∙ rw (c.in-Some.is, c.group_after-next.ensures) (count_one _ _ _ _ _ (omega arith)),
    )

pub returns : goal.returns
returns c = sym (c.loop-next.invariant.1 ∙ rw c.in_default.is (count_none _ _ _ _ _))
