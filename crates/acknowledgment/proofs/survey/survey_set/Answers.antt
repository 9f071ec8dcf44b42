-- `acknowledgment::survey::survey_set` meets its contract.
use mathlib.Core.Path.{sym, ◌∙◌}
use Rattle.acknowledgment.proofs.Looks.{surveyed_accepted, measure_ready, surveyed_rejected}
use Rattle.acknowledgment.proofs.survey.survey_set.Goals as goal

pub see-seen-requires : goal.see-seen-requires
see-seen-requires c = c.requires.0

pub returns-then-is_accepted : goal.returns-then-is_accepted
returns-then-is_accepted c =
    surveyed_accepted c.requires.0 _ _ (c.see-seen.ensures.1 _ c.requires.1) c.mark_of-mark.ensures c.see-seen.ensures.0 (sym c.is_accepted.ensures ∙ c.if-is_accepted.true) c.measure_accepted.ensures

pub measure_rejected-requires : goal.measure_rejected-requires
measure_rejected-requires c =
    measure_ready c.requires.0 c.see-seen.ensures.0

pub returns : goal.returns
returns c =
    surveyed_rejected c.requires.0 _ _ (c.see-seen.ensures.1 _ c.requires.1) c.mark_of-mark.ensures c.see-seen.ensures.0 c.measure_rejected.ensures
