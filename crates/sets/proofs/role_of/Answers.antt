-- `sets::role_of` meets its contract.
use mathlib.Core.Path.{◌≡◌, ap, ◌∙◌}
use Prim.Native.Nat.{ℕ}
use native.Mathlib.Omega.{arith}
use Rattle.std.specs.Prelude.{Some}
use Rattle.std.specs.List.{slice_get}
use Rattle.std.proofs.lemmas.Option.{slice_get-get_or}
use Rattle.rules.specs.Base.{Bytes, ascii}
use Rattle.rules.specs.Cutting.{split}
use Rattle.segments.proofs.Fields.{named_other}
use Rattle.sets.specs.Places.{role_of}
use Rattle.sets.specs.declared.Role.TheVariants.{Other}
use Rattle.sets.proofs.role_of.Goals as goal

-- neither name starts as the segment does
starts_other : (e : ℕ) (s : Bytes) → (slice_get s 0 ≡ Some 83 → ⊥) → role_of (split e s) ≡ Other
unfolding role_of
starts_other e s n =
    rw (
      named_other e s (ascii "SE") (omega arith) (λ l p. n (slice_get-get_or s 0 0 l ∙ ap Some p)),
      named_other e s (ascii "ST") (omega arith) (λ l p. n (slice_get-get_or s 0 0 l ∙ ap Some p)),
    )

pub returns-then-ne : goal.returns-then-ne
returns-then-ne c = grind (arith, starts_other)

pub returns-then-is_named : goal.returns-then-is_named
unfolding role_of
returns-then-is_named c = grind arith

pub returns-then-is_named-2 : goal.returns-then-is_named-2
unfolding role_of
returns-then-is_named-2 c = grind arith

pub returns-else-is_named-2 : goal.returns-else-is_named-2
unfolding role_of
returns-else-is_named-2 c = grind arith
