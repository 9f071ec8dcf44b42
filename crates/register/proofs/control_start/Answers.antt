-- `register::control_start` meets its contract.
use mathlib.Core.Path.{◌∙◌}
use Rattle.register.proofs.Fields.{control_field}
use Rattle.register.proofs.control_start.Goals as goal

pub returns : goal.returns
returns c =
    let a = c.args in
    (c.next_field-2.ensures.0, control_field a.d a.body.now a.at ∙ c.next_field.ensures.1 1 ∙ c.next_field-2.ensures.1 0)
