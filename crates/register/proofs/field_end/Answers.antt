-- `register::field_end` meets its contract: what is left of the field decides its end.
use Rattle.std.proofs.Common.{arith}
use Rattle.std.proofs.lemmas.Grind.{common_steps}
use Rattle.register.proofs.Fields.{field_past, field_cut, field_kept}
use Rattle.register.proofs.field_end.Goals as goal

pub returns-then-body-i : goal.returns-then-body-i
returns-then-body-i c = grind (arith, common_steps, c.loop-i.invariant.0, field_cut c.args.d c.args.body.now c.loop-i.i)

pub loop-i-preserved : goal.loop-i-preserved
loop-i-preserved c = grind (arith, common_steps, c.loop-i.invariant.0, field_kept c.args.d c.args.body.now c.loop-i.i)

pub returns : goal.returns
returns c = grind (arith, c.loop-i.invariant, field_past c.args.d c.args.body.now c.loop-i.i)
