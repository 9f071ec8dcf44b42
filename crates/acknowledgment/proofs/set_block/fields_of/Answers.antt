-- `acknowledgment::set_block::fields_of` meets its contract: what follows the id, up to the end of ST02.
use mathlib.Core.Path.{◌∙◌}
use Prim.Native.Nat.{◌+◌}
use native.Mathlib.Omega.{arith}
use lib.ListN.{drop, length-drop}
use Rattle.acknowledgment.proofs.Headers.{field_short, header_inside, header_control, header_fields}
use Rattle.acknowledgment.proofs.set_block.fields_of.Goals as goal

pub slice_bounds-result-end : goal.slice_bounds-result-end
slice_bounds-result-end c =
    let a = c.args in
    omega (arith, c.field_end-end.ensures, header_inside c.requires, field_short a.d (drop (a.at + 7) a.body.now), length-drop (a.at + 7) a.body.now)

pub returns : goal.returns
returns c =
    let end = c.field_end-end in
    header_fields c.requires end.result (end.ensures ∙ rw (header_control c.requires))
