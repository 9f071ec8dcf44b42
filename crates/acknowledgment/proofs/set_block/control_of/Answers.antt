-- `acknowledgment::set_block::control_of` meets its contract: the field that starts seven bytes on is ST02.
use mathlib.Core.Path.{◌≡◌, ◌∙◌}
use Prim.Native.Nat.{◌+◌, ◌-◌}
use native.Mathlib.Omega.{arith}
use lib.ListN.{length, drop, length-drop}
use Rattle.register.specs.Fields.{field_in}
use Rattle.acknowledgment.proofs.Headers.{field_begins, field_short, header_inside, header_control}
use Rattle.acknowledgment.proofs.set_block.control_of.Goals as goal

pub slice_bounds-result-end : goal.slice_bounds-result-end
slice_bounds-result-end c =
    let a = c.args in
    omega (arith, c.field_end-end.ensures, header_inside c.requires, field_short a.d (drop (a.at + 7) a.body.now), length-drop (a.at + 7) a.body.now)

pub returns : goal.returns
returns c =
    let a = c.args in
    let rest = drop (a.at + 7) a.body.now in
    let z : c.field_end-end.result - (a.at + 7) ≡ length (field_in a.d 0 rest) = omega (arith, c.field_end-end.ensures) in
    rw z (field_begins a.d rest) ∙ header_control c.requires
