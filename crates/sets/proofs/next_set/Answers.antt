-- `sets::next_set` meets its contract: from where the set goes on, the pieces that are left decide its end.
use mathlib.Core.Path.{sym, ◌∙◌}
use native.Mathlib.Omega.{arith}
use Rattle.text.proofs.Search.{find_end}
use Rattle.sets.specs.declared.Role.TheVariants.{Header, Trailer, Other}
use Rattle.sets.proofs.Turns.{set_none, set_opens, set_turn, set_ends}
use Rattle.sets.proofs.next_set.Goals.{else-loop-next-test, then-loop-next-test+in-Header}
use Rattle.sets.proofs.next_set.Goals as goal

pub returns-then-body-at : goal.returns-then-body-at
returns-then-body-at c = c.without_trailer.ensures ∙ sym (set_none _ _ _ c.if-body-at.true)

pub overflow_add-next : goal.overflow_add-next
overflow_add-next c = omega (arith, find_end _ _ _ _ c.find-header.ensures c.if-body-at.false)

pub loop-next-init : goal.loop-next-init
loop-next-init c =
    let within = find_end _ _ _ _ c.find-header.ensures c.if-body-at.false in
    (omega arith, (omega arith, set_opens _ _ _ _ c.if-body-at.false c.find-header.ensures))

pub slice_bounds-role_of-end : goal.slice_bounds-role_of-end
slice_bounds-role_of-end c = find_end _ _ _ _ c.find-end.ensures c.loop-next-test.true

pub returns-in-Trailer : goal.returns-in-Trailer
returns-in-Trailer c =
    c.with_trailer.ensures
    ∙ sym (c.loop-next.invariant.1.1 ∙ set_turn _ _ _ _ c.loop-next-test.true c.find-end.ensures _ _ _ _ Trailer c.in-Trailer.ensures)

pub loop-next-preserved : goal.loop-next-preserved
loop-next-preserved c =
    let within = find_end _ _ _ _ c.find-end.ensures c.loop-next-test.true in (
      omega arith,
      (
        omega (arith, c.loop-next.invariant.1.0),
        c.loop-next.invariant.1.1 ∙ set_turn _ _ _ _ c.loop-next-test.true c.find-end.ensures _ _ _ _ Other c.in-Other.ensures,
      ),
    )

pub returns : goal.returns
returns c =
    c.without_trailer-2.ensures
    ∙ sym (c.loop-next.invariant.1.1 ∙ elim c.loop-next-test.branch [
      | else-loop-next-test w ↦ set_ends _ _ _ w.loop-next-test.false _ _ _ _
      | then-loop-next-test+in-Header w ↦ set_turn _ _ _ _ w.loop-next-test.true w.find-end.ensures _ _ _ _ Header w.in-Header.ensures
    ])
