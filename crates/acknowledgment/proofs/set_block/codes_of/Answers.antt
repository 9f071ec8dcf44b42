-- `acknowledgment::set_block::codes_of` meets its contract: the parts of the set at its place.
use native.Mathlib.Omega.{arith}
use Rattle.acknowledgment.proofs.Blocks.{copied_if, parts_at, codes_are}
use mathlib.Core.Path.{refl}
use Rattle.acknowledgment.proofs.set_block.codes_of.Goals as goal

pub overflow_sub-place : goal.overflow_sub-place
overflow_sub-place c = let on = c.requires.onward in omega arith

pub returns : goal.returns
returns c =
    λ t notes earlier.
    codes_are (parts_at c.requires (omega (arith, c.well_formed)) refl c.part-header.ensures c.part-trailer.ensures)
    (rw (c.then_some.ensures, copied_if, c.is_some.ensures) at c.set_codes.ensures) t notes earlier
