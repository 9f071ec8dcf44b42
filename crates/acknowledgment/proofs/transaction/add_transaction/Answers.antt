-- `acknowledgment::transaction::add_transaction` meets its contract: the group is found again by its entries, and the parts of its 997 are written.
use Prim.Native.Nat.{◌-◌, ◌<◌}
use mathlib.Core.Path.{◌≡◌, refl, ◌∙◌}
use native.Mathlib.Omega.{arith}
use Prim.Native.Nat.{ℕ}
use mathlib.Core.List.{List}
use Rattle.rules.specs.Base.{Bytes}
use Rattle.rules.specs.declared.Delimiters.{Delimiters}
use lib.ListN.{length, take, drop, length-drop}
use Rattle.envelope.specs.Places.{next_group}
use Rattle.envelope.specs.declared.GroupAt.{GroupAt}
use Rattle.std.specs.Prelude.{Some}
use Rattle.verdicts.specs.declared.Tally.{Tally}
use Rattle.acknowledgment.specs.declared.set_block.Mark.{Mark}
use Rattle.writing.proofs.Laws.{lend}
use Rattle.acknowledgment.specs.Entries.{GroupEntries}
use Rattle.acknowledgment.proofs.Recorded.{part_all, tally_is}
use Rattle.acknowledgment.proofs.Transactions.{header_within, body_within, group_is, sets_looked, group_written}
use borrow.Author.Rules.{rules}
use Rattle.acknowledgment.proofs.transaction.add_transaction.Goals as goal
use Rattle.acknowledgment.proofs.transaction.add_transaction.Goals.{After-group_ending-group, After-tally_of-sets, Start}

-- the entries of the group, as they are lent on
abbrev Entered : Delimiters → Bytes → List ℕ → List Mark → ℕ → GroupAt → Tally → Type 0
Entered d i starts marks k g sets = GroupEntries d i g sets (take (length starts - k) (drop k starts)) (take (length marks - k) (drop k marks))

entered : (c : Start)
    → Entered c.args.d c.args.i.now c.args.starts.now c.args.marks.now c.args.progress.entry c.requires.group c.requires.sets
entered c =
    let a = c.args in
    rw (part_all a.progress.entry a.starts.now, part_all a.progress.entry a.marks.now) c.requires.recorded

inside : (c : Start) → (c.args.progress.entry < length c.args.starts.now) × (c.args.progress.entry < length c.args.marks.now)
inside c =
    let a = c.args in
    let e = c.requires.recorded in
    (omega (arith, e.stored, length-drop a.progress.entry a.starts.now), omega (arith, e.marked, length-drop a.progress.entry a.marks.now))

tallied : (c : After-tally_of-sets) {g : GroupAt} {sets : Tally}
    → Entered c.args.d c.args.i.now c.args.starts.now c.args.marks.now c.args.progress.entry g sets → c.tally_of-sets.result ≡ sets
tallied c e = c.tally_of-sets.ensures ∙ tally_is e

few : (c : After-tally_of-sets)
    → Entered c.args.d c.args.i.now c.args.starts.now c.args.marks.now c.args.progress.entry c.requires.group c.requires.sets
    → c.tally_of-sets.result.received < 5477
few c e =
    let a = c.args in
    rw (tallied c e) (omega (arith, c.requires.few, c.requires.recorded.stored, length-drop a.progress.entry a.starts.now))

-- the group is the one that stands there, and the tally that of its sets
again : (c : After-group_ending-group) {g : GroupAt} {sets : Tally}
    → next_group c.args.d c.args.i.now c.args.progress.at ≡ Some g
    → Entered c.args.d c.args.i.now c.args.starts.now c.args.marks.now c.args.progress.entry g sets
    → (c.group_ending-group.result ≡ g) × (c.tally_of-sets.result ≡ sets)
again c f e = group_is e _ f c.tally_of-sets.ensures c.find-gs_end.ensures (rw c.from.ensures at c.group_ending-group.ensures)

pub offset_bounds-starts-entry : goal.offset_bounds-starts-entry
offset_bounds-starts-entry c = omega (arith, (inside (goal.at.offset_bounds-starts-entry c).Start).0, c.requires.few)

pub slice_bounds-starts-count : goal.slice_bounds-starts-count
slice_bounds-starts-count c = omega (arith, (inside (goal.at.slice_bounds-starts-count c).Start).0)

pub slice_bounds-starts-start : goal.slice_bounds-starts-start
slice_bounds-starts-start c = let h = (inside (goal.at.slice_bounds-starts-start c).Start).0 in search rules

pub slice_bounds-marks-count : goal.slice_bounds-marks-count
slice_bounds-marks-count c = omega (arith, (inside (goal.at.slice_bounds-marks-count c).Start).1)

pub slice_bounds-marks-start : goal.slice_bounds-marks-start
slice_bounds-marks-start c = let h = (inside (goal.at.slice_bounds-marks-start c).Start).1 in search rules

pub overflow_add-body_end : goal.overflow_add-body_end
overflow_add-body_end c =
    omega (arith, c.find-gs_end.ensures, header_within (entered (goal.at.overflow_add-body_end c).Start) _ c.requires.found)

pub offset_bounds-starts-received : goal.offset_bounds-starts-received
offset_bounds-starts-received c = omega (arith, few (goal.at.offset_bounds-starts-received c).After-tally_of-sets (entered (goal.at.offset_bounds-starts-received c).Start))

pub bounds-starts-received : goal.bounds-starts-received
bounds-starts-received c =
    rw (tallied (goal.at.bounds-starts-received c).After-tally_of-sets (entered (goal.at.bounds-starts-received c).Start)) (entered (goal.at.bounds-starts-received c).Start).stored

pub overflow_add-body_end-2 : goal.overflow_add-body_end-2
overflow_add-body_end-2 c =
    rw (c.from.ensures, c.find-gs_end.ensures, tallied (goal.at.overflow_add-body_end-2 c).After-tally_of-sets (entered (goal.at.overflow_add-body_end-2 c).Start)) (omega (arith, body_within (entered (goal.at.overflow_add-body_end-2 c).Start) _ c.requires.found))

pub put_sets-told-requires : goal.put_sets-told-requires
put_sets-told-requires c =
    let e = entered (goal.at.put_sets-told-requires c).Start in
    let known = again (goal.at.put_sets-told-requires c).After-group_ending-group c.requires.found e in
    rw known.1
    (sets_looked e (rw known.0 at c.part-gs.ensures) (rw known.0 at c.part-body.ensures) c.scope_of-scope.ensures c.requires.directory c.requires.tables)

pub overflow_add-result : goal.overflow_add-result
overflow_add-result c =
    omega (arith, few (goal.at.overflow_add-result c).After-tally_of-sets (entered (goal.at.overflow_add-result c).Start), (inside (goal.at.overflow_add-result c).Start).0, c.requires.few)

pub overflow_add-result-2 : goal.overflow_add-result-2
overflow_add-result-2 c =
    omega (arith, few (goal.at.overflow_add-result-2 c).After-tally_of-sets (entered (goal.at.overflow_add-result-2 c).Start), (inside (goal.at.overflow_add-result-2 c).Start).0, c.requires.few)

pub overflow_add-result-3 : goal.overflow_add-result-3
overflow_add-result-3 c =
    omega (arith, c.requires.number)

pub returns : goal.returns
returns c =
    let a = c.args in
    λ g tally f e.
    let entered_so : Entered a.d a.i.now a.starts.now a.marks.now a.progress.entry g tally = rw (part_all a.progress.entry a.starts.now, part_all a.progress.entry a.marks.now) e in
    let known = again (goal.at.returns c).After-group_ending-group f entered_so in
    record {
      text =
          group_written entered_so (rw known.0 at c.part-gs.ensures) (rw known.0 at c.part-body.ensures) c.scope_of-scope.ensures
          c.requires.directory c.requires.tables refl a.progress.number
          (rw (c.trailer_of-ge.ensures, known.0, known.1) at c.summary_of-summary.ensures) c.put_sets-told.ensures.number c.add_beginning-n.ensures
          (lend c.min-rest.ensures c.put_sets-told.ensures.text c.saturating_add-n.ensures (omega arith)) c.add_ending.ensures;
      at = rw known.0;
      entry = rw known.1;
      number = refl;
    }
