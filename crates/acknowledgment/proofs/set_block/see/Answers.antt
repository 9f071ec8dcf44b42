-- `acknowledgment::set_block::see` meets its contract: no table is a code; else the look decides, and of a quiet set its trailer.
use mathlib.Core.Path.{◌≡◌, sym, ap, ◌∙◌}
use native.Mathlib.Omega.{arith}
use Rattle.rules.specs.Cutting.{field}
use Rattle.guides.specs.Choice.{Lies}
use Rattle.sets.specs.declared.SetAt.{SetAt}
use Rattle.acknowledgment.specs.declared.set_block.SeenSet.{SeenSet}
use Rattle.acknowledgment.specs.Surveys.{set_here}
use Rattle.acknowledgment.proofs.Headers.{header_inside, header_kind}
use Rattle.acknowledgment.proofs.Looks.{kind_here, sees_nowhere, sees_quiet, sees_odd, not_quiet}
use Rattle.acknowledgment.proofs.set_block.see.Goals as goal
use Rattle.acknowledgment.proofs.set_block.see.Goals.{After-kind_of, In-Some}

kind : (c : After-kind_of) → (let a = c.args in c.kind_of.result.now ≡ field (set_here a.reading.delimiters a.body.now a.at).header 1)
kind c = let s = c.requires in c.kind_of.ensures ∙ header_kind s.headed ∙ kind_here s.headed

pub kind_of-requires : goal.kind_of-requires
kind_of-requires c = omega (arith, header_inside c.requires.headed)

-- the table lies among the rows
lies : (c : In-Some) → Lies c.args.rows.now c.in-Some.table.start c.in-Some.table.end
lies c = rw (sym c.table_of.ensures ∙ c.in-Some.is) at (c.requires.tables c.kind_of.result.now)

pub offset_bounds-rows-table : goal.offset_bounds-rows-table
offset_bounds-rows-table c = let l = lies (goal.at.offset_bounds-rows-table c).In-Some in omega (arith, c.well_formed)

pub slice_bounds-look_at-count : goal.slice_bounds-look_at-count
slice_bounds-look_at-count c = let l = lies (goal.at.slice_bounds-look_at-count c).In-Some in omega arith

pub slice_bounds-look_at-start : goal.slice_bounds-look_at-start
slice_bounds-look_at-start c = let l = lies (goal.at.slice_bounds-look_at-start c).In-Some in omega arith

pub slice_bounds-look_at-end : goal.slice_bounds-look_at-end
slice_bounds-look_at-end c = let l = lies (goal.at.slice_bounds-look_at-end c).In-Some in omega arith

pub is_closed_well-requires : goal.is_closed_well-requires
is_closed_well-requires c =
    let s = c.requires in
    let q = sees_quiet s (kind (goal.at.is_closed_well-requires c).After-kind_of) (sym c.table_of.ensures ∙ c.in-Some.is) s.ids s.ordered (sym c.in-Some-look_at.is ∙ c.look_at.ensures) in
    omega (arith, ap (λ (p : SetAt). p.end) q.0, s.is.onward)

pub returns-in_default : goal.returns-in_default
returns-in_default c =
    let s = c.requires in (
      ap (λ (r : SeenSet). r.place) c.odd_set.ensures,
      λ ids o.
          not_quiet c.odd_set.ensures (sees_nowhere s (kind (goal.at.returns-in_default c).After-kind_of) (sym c.table_of.ensures ∙ c.in_default.is) ids),
    )

pub returns-in-None : goal.returns-in-None
returns-in-None c =
    let s = c.requires in (
      ap (λ (r : SeenSet). r.place) c.odd_set-in-None.ensures,
      λ ids o.
          not_quiet c.odd_set-in-None.ensures
          (sees_odd s (kind (goal.at.returns-in-None c).After-kind_of) (sym c.table_of.ensures ∙ c.in-Some.is) ids o (sym c.in-None.is ∙ c.look_at.ensures)),
    )

pub returns-in-Some-look_at : goal.returns-in-Some-look_at
returns-in-Some-look_at c =
    let s = c.requires in
    let e = sym c.table_of.ensures ∙ c.in-Some.is in
    let q = sym c.in-Some-look_at.is ∙ c.look_at.ensures in (
      (sees_quiet s (kind (goal.at.returns-in-Some-look_at c).After-kind_of) e s.ids s.ordered q).0,
      λ ids o.
          let says = (sees_quiet s (kind (goal.at.returns-in-Some-look_at c).After-kind_of) e ids o q).1 in
          record { clean = c.is_closed_well.ensures ∙ says.0; untold = λ h. says.1 },
    )
