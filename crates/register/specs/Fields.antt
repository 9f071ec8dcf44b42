-- A field of a segment, byte by byte.
use Rattle.std.specs.Prelude.{ℕ, zero, suc, [], ◌∷◌, eqb, if◌then◌else◌}
use Rattle.rules.specs.Base.{Bytes}
use Rattle.rules.specs.declared.Delimiters.{Delimiters}

-- field n of the segment that the bytes begin with, byte by byte
unfoldable pub field_in : Delimiters → ℕ → Bytes → Bytes
field_in d n [] = []
field_in d zero (b ∷ bs) =
    let r = field_in d zero bs in
    if eqb b d.terminator then [] else (if eqb b d.element then [] else b ∷ r)
field_in d (suc n) (b ∷ bs) =
    let next = field_in d n bs in
    let r = field_in d (suc n) bs in
    if eqb b d.terminator then [] else (if eqb b d.element then next else r)
