-- `acknowledgment::response::survey_groups` meets its contract: what holds of the groups so far.
use mathlib.Core.Path.{sym, ◌∙◌}
use native.Mathlib.Omega.{arith}
use Rattle.acknowledgment.proofs.Answering.{handed}
use Rattle.acknowledgment.proofs.Passes.{surveying_start, surveying_refused, entries_inside, surveyable, entries_next, surveying_turn, surveying_end}
use borrow.Author.Rules.{rules}
use Rattle.acknowledgment.proofs.response.survey_groups.Goals as goal

pub loop-init : goal.loop-init
loop-init c = surveying_start c.requires

pub offset_bounds-starts-entries : goal.offset_bounds-starts-entries
offset_bounds-starts-entries c = omega (arith, entries_inside c.loop.invariant c.loop-test.true c.requires.sound (sym c.check_group.ensures ∙ c.in_ok-group.was), c.loop.invariant.few)

-- the entries of a group that is not refused start inside
pub slice_bounds-survey_group-count : goal.slice_bounds-survey_group-count
slice_bounds-survey_group-count c =
    omega (arith, entries_inside c.loop.invariant c.loop-test.true c.requires.sound (sym c.check_group.ensures ∙ c.in_ok-group.was))

pub slice_bounds-survey_group-start : goal.slice_bounds-survey_group-start
slice_bounds-survey_group-start c = omega (arith, entries_inside c.loop.invariant c.loop-test.true c.requires.sound (sym c.check_group.ensures ∙ c.in_ok-group.was))

pub slice_bounds-survey_group-end : goal.slice_bounds-survey_group-end
slice_bounds-survey_group-end c = omega (arith, entries_inside c.loop.invariant c.loop-test.true c.requires.sound (sym c.check_group.ensures ∙ c.in_ok-group.was))

pub survey_group-survey-requires : goal.survey_group-survey-requires
survey_group-survey-requires c =
    let pre = c.requires in
    surveyable c.loop.invariant c.loop-test.true pre.sound (sym c.check_group.ensures ∙ c.in_ok-group.was) pre.bytes pre.directory pre.tables

pub overflow_add-entries : goal.overflow_add-entries
overflow_add-entries c =
    omega (
      arith,
      c.loop.invariant.few,
      entries_next c.loop.invariant c.loop-test.true c.requires.sound (sym c.check_group.ensures ∙ c.in_ok-group.was) c.survey_group-survey.ensures,
    )

pub loop-preserved : goal.loop-preserved
loop-preserved c =
    surveying_turn c.loop.invariant c.loop-test.true c.requires.sound (sym c.check_group.ensures ∙ c.in_ok-group.was) c.survey_group-survey.ensures
    (let same = c.starts-1.given in search rules) (let same = c.marks-1.given in search rules) (let same = c.links-1.given in search rules) c.saturating_add-length.ensures

pub returns-in_err-group : goal.returns-in_err-group
returns-in_err-group c =
    rw (handed c.from_residual.ensures.1) (surveying_refused c.loop.invariant c.loop-test.true (sym c.check_group.ensures ∙ c.in_err-group.was))

pub slice_bounds-survey_group-count-in-loop : goal.slice_bounds-survey_group-count-in-loop
slice_bounds-survey_group-count-in-loop c = omega (arith, entries_inside c.loop.invariant c.loop-test.true c.requires.sound (sym c.check_group.ensures ∙ c.in_ok-group.was), c.loop.invariant.marked)

pub slice_bounds-survey_group-start-in-loop : goal.slice_bounds-survey_group-start-in-loop
slice_bounds-survey_group-start-in-loop c = omega (arith, entries_inside c.loop.invariant c.loop-test.true c.requires.sound (sym c.check_group.ensures ∙ c.in_ok-group.was), c.loop.invariant.marked)

pub returns : goal.returns
returns c = surveying_end c.loop.invariant c.loop-test.false
