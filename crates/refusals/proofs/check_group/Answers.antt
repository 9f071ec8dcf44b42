-- `refusals::check_group` meets its contract, stage by stage.
use native.Mathlib.Omega.{arith}
use Rattle.text.proofs.Search.{find_end}
use Rattle.refusals.proofs.Laws.{header_within, group_stages}
use Rattle.refusals.proofs.check_group.Goals as goal

pub returns-in_err-check_header : goal.returns-in_err-check_header
returns-in_err-check_header c = grind (arith, group_stages)

pub returns-in_err-check_answerable : goal.returns-in_err-check_answerable
returns-in_err-check_answerable c = grind (arith, group_stages)

pub overflow_add-gs_end : goal.overflow_add-gs_end
overflow_add-gs_end c =
    let there = header_within c.args.d c.args.i.now c.args.at {u = c.in_ok-check_header.field-0} (cc (c.in_ok-check_header.ensures)) in
    omega (arith, find_end _ _ _ _ c.find-gs_end.ensures there)

pub returns-in_err-body_end : goal.returns-in_err-body_end
returns-in_err-body_end c = grind (arith, group_stages)

pub returns : goal.returns
returns c = grind (arith, group_stages)
