-- `look::look_at` meets its contract.
use mathlib.Core.Path.{sym, ◌∙◌}
use native.Mathlib.Omega.{arith}
use Prim.Native.Nat.{◌+◌, ◌≤◌}
use lib.ListN.{length}
use borrow.Author.Tests.{le-ltb}
use Rattle.look.specs.Looking.{looked}
use Rattle.look.proofs.Within.{id_ends, end_within, open_faulty, open_clean}
use Rattle.look.proofs.look_at.Goals as goal
use Rattle.look.proofs.look_at.Goals.{In_ok-passed}

-- the header that is passed ends within the bytes
within : (c : In_ok-passed) → c.args.at + c.in_ok-passed.passed.length ≤ length c.args.body.now
within c =
    let s = c.args in
    end_within s.body.now s.at _ _ _ _ (omega arith) c.id_end.ensures (sym c.pass.ensures ∙ c.in_ok-passed.was)

pub returns-then-body-at : goal.returns-then-body-at
unfolding looked
returns-then-body-at c = rw (le-ltb c.args.at _ c.if-body-at.true)

pub pass-requires : goal.pass-requires
pass-requires c =
    let s = c.args in
    id_ends s.body.now s.at _ c.id_end.ensures

pub returns-in_err-passed : goal.returns-in_err-passed
returns-in_err-passed c =
    let s = c.args in
    c.from_residual.ensures ∙ sym (open_faulty _ _ _ s.body.now s.at c.if-body-at.false c.id_end.ensures (sym c.pass.ensures ∙ c.in_err-passed.was))

pub overflow_add-at : goal.overflow_add-at
overflow_add-at c = omega (arith, within (goal.at.overflow_add-at c).In_ok-passed)

pub look_on-requires : goal.look_on-requires
look_on-requires c = within (goal.at.look_on-requires c).In_ok-passed

pub returns : goal.returns
returns c =
    let s = c.args in
    c.look_on.ensures ∙ sym (open_clean _ _ _ s.body.now s.at c.if-body-at.false c.id_end.ensures (sym c.pass.ensures ∙ c.in_ok-passed.was))
