-- `acknowledgment::response::answer_over` meets its contract: the groups as surveyed give the length of the response, and its parts are written one after the other.
use mathlib.Core.Path.{sym, ◌∙◌}
use native.Mathlib.Omega.{arith}
use Rattle.rules.specs.Response.{response}
use Rattle.rules.proofs.Facts.{response_allowed, refusal_allowed}
use Rattle.writing.proofs.Delivered.{too_long, written}
use Rattle.acknowledgment.proofs.Answering.{handed, response_measured, response_written, bounded}
use Rattle.acknowledgment.proofs.response.answer_over.Goals as goal

-- the length of the response is what was measured
pub returns-then-out-needed : goal.returns-then-out-needed
returns-then-out-needed c =
    let surveyed = rw c.in_ok-acknowledgments.was at c.survey_groups.ensures in
    response_allowed _ _ (c.requires.0.decides ∙ surveyed.0)
    (too_long _ (response c.args.i.now c.args.call) (response_measured c.requires.0 c.part-gs.ensures surveyed.1.0 c.response_length-needed.ensures)
    (bounded c.requires.0 c.part-gs.ensures) c.if-out-needed.true)

pub add_transactions-n-requires : goal.add_transactions-n-requires
add_transactions-n-requires c =
    let surveyed = rw c.in_ok-acknowledgments.was at c.survey_groups.ensures in
    record {
      sound = c.requires.0.sound;
      directory = c.directory-directory.ensures;
      tables = c.rows-rows.ensures;
      few = let same = c.starts-1.given in omega (arith, c.requires.1.few, same);
      entries = surveyed.1.1;
    }

pub returns-in_err-acknowledgments : goal.returns-in_err-acknowledgments
returns-in_err-acknowledgments c =
    let due = rw c.in_err-acknowledgments.was at c.survey_groups.ensures in
    rw (handed c.from_residual.ensures.1, due.0) (refusal_allowed _ _ (sym c.requires.0.decides) due.1)

pub returns : goal.returns
returns c =
    let surveyed = rw c.in_ok-acknowledgments.was at c.survey_groups.ensures in
    response_allowed _ _ (c.requires.0.decides ∙ surveyed.0)
    (written _ (response c.args.i.now c.args.call) (response_measured c.requires.0 c.part-gs.ensures surveyed.1.0 c.response_length-needed.ensures)
    (bounded c.requires.0 c.part-gs.ensures) c.if-out-needed.false
    (response_written c.requires.0 c.part-gs.ensures c.put_opening-n.ensures c.add_transactions-n.ensures c.add_closing.ensures))
