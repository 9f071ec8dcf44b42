-- `elements::codes_at` meets its contract.
use Rattle.elements.specs.Checks.{codes_at}
use Rattle.elements.proofs.Places.{after_order, after_within}
use Rattle.elements.proofs.codes_at.Goals as goal

pub slice_bounds-element_code-count : goal.slice_bounds-element_code-count
slice_bounds-element_code-count c = let a = c.args in after_order a.d.element a.s.now a.c.end c.field_after-value.ensures

pub slice_bounds-element_code-start : goal.slice_bounds-element_code-start
slice_bounds-element_code-start c = let a = c.args in after_order a.d.element a.s.now a.c.end c.field_after-value.ensures

pub slice_bounds-element_code-end : goal.slice_bounds-element_code-end
slice_bounds-element_code-end c = let a = c.args in after_within a.d.element a.s.now a.c.end c.field_after-value.ensures

pub returns : goal.returns
unfolding codes_at
returns c = rw (c.number-2.ensures, c.note_code.ensures, c.number.ensures, c.element_code.ensures, c.element_at.ensures, c.field_after-value.ensures)
