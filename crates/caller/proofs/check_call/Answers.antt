-- `caller::check_call` meets its contract.
use Rattle.std.proofs.Common.{sym, ◌∙◌}
use Rattle.rules.specs.Base.{first}
use Rattle.rules.specs.Refusals.{call_rules, good_call}
use Rattle.rules.specs.Refused.{refused, unless}
use Rattle.caller.proofs.check_call.Goals as goal
use Rattle.caller.proofs.check_call.Goals.{else-is_date-via-then-is_date+then-is_time+else-is_control, else-is_date-via-then-is_date+else-is_time, else-is_date-via-else-is_date}

pub returns-then-is_control : goal.returns-then-is_control
unfolding unless call_rules first good_call
returns-then-is_control c =
    rw (
      sym c.is_date.ensures ∙ c.if-is_date.true,
      sym c.is_time.ensures ∙ c.if-is_time.true,
      sym c.is_control.ensures ∙ c.if-is_control.true,
    )

pub returns-else-is_date : goal.returns-else-is_date
unfolding unless refused call_rules first good_call
returns-else-is_date c =
    elim c.else-is_date.branch [
      | else-is_date-via-then-is_date+then-is_time+else-is_control w ↦
          rw (
            sym c.is_date.ensures ∙ w.if-is_date.true,
            sym w.is_time.ensures ∙ w.if-is_time.true,
            sym w.is_control.ensures ∙ w.if-is_control.false,
          )
      | else-is_date-via-then-is_date+else-is_time w ↦
          rw (sym c.is_date.ensures ∙ w.if-is_date.true, sym w.is_time.ensures ∙ w.if-is_time.false)
      | else-is_date-via-else-is_date w ↦ rw (sym c.is_date.ensures ∙ w.if-is_date.false)
    ]
