-- `elements::breaks_note` meets its contract.
use Rattle.std.proofs.Common.{◌≡◌, ℕ, List, sym, ap, ◌∙◌, length-take-le, rules}
use Rattle.rules.specs.Cutting.{split}
use Rattle.tables.specs.Reading.{note_at}
use Rattle.tables.proofs.Laws.{places_within, places_named}
use Rattle.elements.specs.Notes.{breaks, is_e}
use Rattle.elements.proofs.Notes.{breaks_not, alike}
use Rattle.elements.proofs.breaks_note.Goals as goal

pub returns-then-eq-present : goal.returns-then-eq-present
returns-then-eq-present c =
    let a = c.args in
    let note = note_at a.guide.now a.k in
    let shuts : c.eq.result ≡ is_e c.relation_at-relation.result = search rules in
    rw (sym c.is_note.ensures ∙ c.if-not-is_note.false)
    (sym (breaks_not (split a.e a.s.now) a.n a.present note.relation note.places (rw (shuts, c.relation_at-relation.ensures) at c.if-eq-present.true)))

pub slice_bounds-numbers-end : goal.slice_bounds-numbers-end
slice_bounds-numbers-end c = let a = c.args in places_within a.guide.now a.k c.places_at-count.ensures

pub slice_bounds-is_broken-end : goal.slice_bounds-is_broken-end
slice_bounds-is_broken-end c = let a = c.args in sym (length-take-le _ _ (places_within a.guide.now a.k c.places_at-count.ensures))

pub returns : goal.returns
returns c =
    let a = c.args in
    let relation = c.relation_at-relation.result in
    let shuts : c.eq.result ≡ is_e relation = search rules in
    rw (sym c.is_note.ensures ∙ c.if-not-is_note.false)
    (c.is_broken.ensures
    ∙ ap (λ (ps : List ℕ). breaks (is_e relation) (split a.e a.s.now) a.n (record { relation = relation; places = ps })) (places_named a.guide.now a.k c.places_at-count.ensures)
    ∙ rw (sym shuts ∙ alike c.eq.result a.present c.if-eq-present.false, c.relation_at-relation.ensures))
