-- `elements::Marks::breaks_note` meets its contract.
use Rattle.std.proofs.Common.{ℕ, List, sym, ap, ◌∙◌, length-take-le}
use Rattle.tables.proofs.Laws.{places_within, places_named}
use Rattle.elements.specs.Marks.{marked, broken_by}
use Rattle.elements.proofs.Marks.breaks_note.Goals as goal

pub slice_bounds-numbers-end : goal.slice_bounds-numbers-end
slice_bounds-numbers-end c = let a = c.args in places_within a.guide.now a.k c.places_at-count.ensures

pub slice_bounds-breaks-end : goal.slice_bounds-breaks-end
slice_bounds-breaks-end c = let a = c.args in sym (length-take-le _ _ (places_within a.guide.now a.k c.places_at-count.ensures))

pub returns : goal.returns
returns c =
    let a = c.args in
    rw (sym c.is_note.ensures ∙ c.if-not-is_note.false)
    (c.breaks.ensures
    ∙ ap (λ (ps : List ℕ). broken_by (marked a.self) c.relation_at-relation.result ps) (places_named a.guide.now a.k c.places_at-count.ensures)
    ∙ rw c.relation_at-relation.ensures)
