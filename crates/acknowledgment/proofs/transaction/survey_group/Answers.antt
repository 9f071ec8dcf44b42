-- `acknowledgment::transaction::survey_group` meets its contract: the sets are looked at, and the entry after theirs ends the group.
use Prim.Native.Nat.{◌<◌}
use mathlib.Core.Path.{refl}
use native.Mathlib.Omega.{arith}
use Rattle.acknowledgment.proofs.Transactions.{sets_open, body_small, sets_few, entry_inside, surveyed_group}
use borrow.Author.Rules.{rules}
use Rattle.acknowledgment.proofs.transaction.survey_group.Goals as goal
use Rattle.acknowledgment.proofs.transaction.survey_group.Goals.{After-survey_sets-survey}

few : (c : After-survey_sets-survey) → c.survey_sets-survey.result.sets.received < 65535
few c =
    sets_few c.requires c.part-gs.ensures c.part-body.ensures c.scope_of-scope.ensures c.survey_sets-survey.ensures

pub survey_sets-survey-requires : goal.survey_sets-survey-requires
survey_sets-survey-requires c =
    sets_open c.requires c.part-gs.ensures c.part-body.ensures c.scope_of-scope.ensures

pub overflow_cast-starts : goal.overflow_cast-starts
overflow_cast-starts c =
    omega (arith, body_small c.requires c.part-gs.ensures c.part-body.ensures c.scope_of-scope.ensures)

pub offset_bounds-starts-received : goal.offset_bounds-starts-received
offset_bounds-starts-received c = omega (arith, few (goal.at.offset_bounds-starts-received c).After-survey_sets-survey)

pub bounds-starts-received : goal.bounds-starts-received
bounds-starts-received c =
    (entry_inside c.requires c.part-gs.ensures c.part-body.ensures c.scope_of-scope.ensures c.survey_sets-survey.ensures
    (let same = c.starts-1.given in search rules) (let same = c.marks-1.given in search rules)).0

pub bounds-marks-received : goal.bounds-marks-received
bounds-marks-received c =
    (entry_inside c.requires c.part-gs.ensures c.part-body.ensures c.scope_of-scope.ensures c.survey_sets-survey.ensures
    (let same = c.starts-1.given in search rules) (let same = c.marks-1.given in search rules)).1

pub overflow_add-result : goal.overflow_add-result
overflow_add-result c = omega (arith, few (goal.at.overflow_add-result c).After-survey_sets-survey)

pub returns : goal.returns
returns c =
    surveyed_group c.requires c.part-gs.ensures c.part-body.ensures c.scope_of-scope.ensures c.survey_sets-survey.ensures
    (let same = c.starts-1.given in search rules) (let same = c.marks-1.given in search rules)
    refl (rw c.trailer_of-ge.ensures at c.summary_of-summary.ensures) c.transaction_length.ensures
