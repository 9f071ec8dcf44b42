-- `acknowledgment::acknowledge` meets its contract, by what the checks say in each case.
use mathlib.Core.Path.{refl, sym, ◌∙◌}
use Rattle.rules.proofs.Facts.{refusal_allowed}
use Rattle.refusals.proofs.Laws.{head_decides, envelope_decides, groups_decide}
use Rattle.acknowledgment.proofs.Answering.{handed, answering}
use Rattle.acknowledgment.proofs.acknowledge.Goals as goal

pub answer_groups-requires : goal.answer_groups-requires
answer_groups-requires c =
    answering _ _
    (groups_decide _ _ (sym c.check_head.ensures ∙ c.in_ok-d.was) (sym c.check_envelope.ensures ∙ c.in_ok-envelope.was))

pub returns-in_err-d : goal.returns-in_err-d
returns-in_err-d c =
    let due = head_decides _ _ (sym c.check_head.ensures ∙ c.in_err-d.was) in
    rw (handed c.from_residual.ensures.1, due.0) (refusal_allowed _ _ refl due.1)

pub returns-in_err-envelope : goal.returns-in_err-envelope
returns-in_err-envelope c =
    let due = envelope_decides _ _ (sym c.check_head.ensures ∙ c.in_ok-d.was) (sym c.check_envelope.ensures ∙ c.in_err-envelope.was) in
    rw (handed c.from_residual-in_err-envelope.ensures.1) (refusal_allowed _ _ due.0 due.1)
