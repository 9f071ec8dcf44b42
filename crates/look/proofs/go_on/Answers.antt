-- `look::go_on` meets its contract.
use mathlib.Core.Path.{sym, ◌∙◌}
use native.Mathlib.Omega.{arith}
use Prim.Native.Nat.{◌+◌, ◌≤◌}
use lib.ListN.{length}
use borrow.Author.Tests.{le-ltb}
use Rattle.look.specs.Looking.{step_at}
use Rattle.look.proofs.Within.{id_ends, id_length, end_within, step_odd, step_faulty, step_clean}
use Rattle.look.proofs.go_on.Goals as goal
use Rattle.look.proofs.go_on.Goals.{In_ok-passed}

-- the segment that is passed ends within the bytes
within : (c : In_ok-passed) → c.args.c.at + c.in_ok-passed.passed.length ≤ length c.args.body.now
within c =
    let s = c.args in
    end_within s.body.now s.c.at _ _ _ _ (omega arith) c.id_end-end.ensures (sym c.pass.ensures ∙ c.in_ok-passed.was)

pub returns-then-body-c : goal.returns-then-body-c
unfolding step_at
returns-then-body-c c = rw (le-ltb c.args.c.at _ c.if-body-c.true)

pub slice_bounds-id-end : goal.slice_bounds-id-end
slice_bounds-id-end c =
    let s = c.args in
    id_length s.body.now s.c.at _ c.id_end-end.ensures

pub pass-requires : goal.pass-requires
pass-requires c =
    let s = c.args in
    id_ends s.body.now s.c.at _ c.id_end-end.ensures

pub overflow_add-c : goal.overflow_add-c
overflow_add-c c = omega (arith, within (goal.at.overflow_add-c c).In_ok-passed)

pub overflow_add-c-2 : goal.overflow_add-c-2
overflow_add-c-2 c = omega (arith, within (goal.at.overflow_add-c-2 c).In_ok-passed)

pub returns-in_err-turn : goal.returns-in_err-turn
returns-in_err-turn c =
    let s = c.args in
    c.from_residual.ensures ∙ sym (step_odd _ _ _ s.body.now s.c c.if-body-c.false c.id_end-end.ensures (sym c.turn_on.ensures ∙ c.in_err-turn.was))

pub returns-in_err-passed : goal.returns-in_err-passed
returns-in_err-passed c =
    let s = c.args in
    c.from_residual-in_err-passed.ensures
    ∙ sym (step_faulty _ _ _ s.body.now s.c c.if-body-c.false c.id_end-end.ensures (sym c.turn_on.ensures ∙ c.in_ok-turn.was) (sym c.pass.ensures ∙ c.in_err-passed.was))

pub returns : goal.returns
returns c =
    let s = c.args in
    c.after.ensures ∙ sym (step_clean _ _ _ s.body.now s.c c.if-body-c.false c.id_end-end.ensures (sym c.turn_on.ensures ∙ c.in_ok-turn.was) (sym c.pass.ensures ∙ c.in_ok-passed.was))
