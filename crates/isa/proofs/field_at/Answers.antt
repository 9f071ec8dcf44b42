-- `isa::field_at` meets its contract.
use Prim.Native.Nat.{◌-◌}
use native.Mathlib.Nat.{sub-zero}
use native.Mathlib.Omega.{arith}
use Rattle.isa.proofs.Places.{separator_low, isa_first, isa_next}
use Rattle.isa.proofs.field_at.Goals as goal

pub returns-then-n-eq0 : goal.returns-then-n-eq0
returns-then-n-eq0 c = rw (isa_first _ _ c.if-n-eq0.true, ← c.requires.0) (rw sub-zero at c.part.ensures)

pub overflow_add-separators : goal.overflow_add-separators
overflow_add-separators c =
    rw c.requires.0 (omega (arith, separator_low (c.args.n - 1) (omega (arith, c.requires.1))))

pub returns : goal.returns
returns c =
    rw (isa_next _ _ c.if-n-eq0.false c.requires.1, ← c.requires.0) c.part-2.ensures
