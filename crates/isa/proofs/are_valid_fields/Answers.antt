-- `isa::are_valid_fields` meets its contract.
use mathlib.Core.Path.{refl, sym, ◌∙◌}
use mathlib.Core.List.{[]}
use native.Mathlib.Omega.{arith}
use Rattle.rules.specs.Cutting.{separators}
use Rattle.isa.proofs.Places.{isa_length, part_step, part_end}
use Rattle.isa.proofs.are_valid_fields.Goals as goal

pub field_at-requires : goal.field_at-requires
unfolding separators
field_at-requires c = (refl, omega (arith, c.loop-n-test.true, c.requires))

pub returns-then-not-all_valid : goal.returns-then-not-all_valid
returns-then-not-all_valid c =
    sym (c.loop-n.invariant ∙ part_step _ _ (isa_length _) _ c.requires _ [] _ _ c.loop-n-test.true c.field_at.ensures (sym c.all_valid.ensures ∙ c.if-not-all_valid.true))

pub loop-n-preserved : goal.loop-n-preserved
loop-n-preserved c =
    c.loop-n.invariant ∙ part_step _ _ (isa_length _) _ c.requires _ [] _ _ c.loop-n-test.true c.field_at.ensures (sym c.all_valid.ensures ∙ c.if-not-all_valid.false)

pub returns : goal.returns
returns c = sym (c.loop-n.invariant ∙ part_end _ _ (isa_length _) _ c.requires _ c.loop-n-test.false)
