-- `isa::isa_field` meets its contract.
use mathlib.Core.List.{[]}
use mathlib.Core.Path.{refl, sym}
use Rattle.rules.specs.Cutting.{isa, separators}
use lib.ListN.{get_or-eq_default}
use Rattle.isa.proofs.Places.{isa_length}
use Rattle.isa.proofs.isa_field.Goals as goal

pub returns-then-n-ge-FIELDS : goal.returns-then-n-ge-FIELDS
returns-then-n-ge-FIELDS c = let i = c.args.i.now in sym (get_or-eq_default (isa i) [] {n = c.args.n} (rw isa_length c.if-n-ge-FIELDS.true))

pub field_at-requires : goal.field_at-requires
unfolding separators
field_at-requires c = (refl, c.if-n-ge-FIELDS.false)
