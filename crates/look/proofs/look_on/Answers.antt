-- `look::look_on` meets its contract.
use Rattle.std.specs.Prelude.{Some}
use mathlib.Core.Path.{◌≡◌, sym, ap, ◌∙◌}
use native.Mathlib.Omega.{arith}
use Rattle.look.specs.Looking.{step_at}
use Rattle.look.specs.declared.Step.TheVariants.{On}
use Rattle.look.proofs.Within.{step_goes, look_on, look_closed, look_odd}
use Rattle.look.proofs.look_on.Goals as goal
use Rattle.look.proofs.look_on.Goals.{In-On}

-- the look goes on
goes : (c : In-On) → (let a = c.args in step_at a.valid.now a.d a.guide.now a.body.now c.loop-further.c) ≡ Some (On c.in-On.further)
goes c = sym c.go_on.ensures ∙ c.in_ok-further.was ∙ ap Some c.in-On.is

pub returns-in_err-further : goal.returns-in_err-further
returns-in_err-further c =
    c.from_residual.ensures
    ∙ sym (c.loop-further.invariant.2 ∙ look_odd _ _ _ _ _ _ c.loop-further.c c.loop-further.invariant.0 (sym c.go_on.ensures ∙ c.in_err-further.was))

pub loop-further-smaller : goal.loop-further-smaller
loop-further-smaller c =
    let g = step_goes _ _ _ c.args.body.now c.loop-further.c (goes (goal.at.loop-further-smaller c).In-On) in
    omega arith

pub loop-further-preserved : goal.loop-further-preserved
loop-further-preserved c =
    let e = goes (goal.at.loop-further-preserved c).In-On in
    let g = step_goes _ _ _ c.args.body.now c.loop-further.c e in
    (omega arith, g.2, c.loop-further.invariant.2 ∙ look_on _ _ _ _ _ _ c.loop-further.c c.loop-further.invariant.0 e)

pub returns-in-Closed : goal.returns-in-Closed
returns-in-Closed c =
    sym (c.loop-further.invariant.2 ∙ look_closed _ _ _ _ _ _ c.loop-further.c c.loop-further.invariant.0 (sym c.go_on.ensures ∙ c.in_ok-further.was ∙ ap Some c.in-Closed.is))
