-- `rules::Delimiters::is_mark` meets its contract.
use Rattle.std.specs.Prelude.{Option, None, Some}
use mathlib.Core.Path.{◌≡◌, refl}
use mathlib.Core.Bool.{Bool, true, false, ◌||◌}
use mathlib.Core.List.{◌∷◌}
use Prim.Native.Nat.{ℕ}
use lib.Dec.{eqb}
use Rattle.rules.specs.Base.{any, last}
use Rattle.rules.specs.Cutting.{repetition_mark, marks}
use Rattle.rules.proofs.Delimiters.is_mark.Goals as goal

three : (x y z : Bool) → ((x || y) || z) || z ≡ x || (y || (z || false))
three true y z = refl
three false true z = refl
three false false true = refl
three false false false = refl

four : (x y z u : Bool) → ((x || y) || z) || u ≡ x || (y || (z || (u || false)))
four true y z u = refl
four false true z u = refl
four false false true u = refl
four false false false true = refl
four false false false false = refl

-- a byte is one of the delimiters e, c, t and those of r, where the last of them is asked twice if r has none
one_of : (b e c t : ℕ) (r : Option ℕ)
    → ((eqb b e || eqb b c) || eqb b t) || eqb b (last t (repetition_mark r)) ≡ any (eqb b) (e ∷ c ∷ t ∷ repetition_mark r)
unfolding any last
one_of b e c t None = three (eqb b e) (eqb b c) (eqb b t)
one_of b e c t (Some s) = four (eqb b e) (eqb b c) (eqb b t) (eqb b s)

pub returns : goal.returns
unfolding marks last
returns c =
    let a = c.args in
    let d = a.self in
    rw c.last-last.ensures (one_of a.b d.element d.component d.terminator d.repetition)
