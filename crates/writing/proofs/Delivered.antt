-- A response in a buffer: what it is to be told that it does not fit, and to have it written.
use Rattle.std.specs.Prelude.{Ok, Err}
use Prim.Native.Nat.{ℕ, ◌≤◌, ◌<◌}
use mathlib.Core.Path.{◌≡◌, refl, ◌∙◌}
use native.Mathlib.Omega.{arith}
use borrow.Author.Tests.{le-leb, lt-leb}
use lib.ListN.{length}
use Rattle.rules.specs.Base.{Bytes}
use Rattle.rules.specs.Answers.{fitting, buffer}
use Rattle.rules.specs.declared.Refusal.TheVariants.{TooLong}
use Rattle.writing.specs.Over.{sat, Wrote}
use Rattle.writing.proofs.Over.{over_fits}
use Rattle.writing.proofs.Laws.{exact}

-- a text that is no longer than a response is, and the length that was told of it
module _ (o t : Bytes) {n : ℕ} (told : n ≡ sat (length t)) (small : length t < 4398046511104) where
  length_is : n ≡ length t
  length_is = omega arith

  -- it does not fit: the buffer is as it was
  pub too_long : length o < n → (Err (TooLong n) ≡ fitting t (length o)) × (o ≡ o)
  too_long h = (rw (lt-leb (length t) (length o) (rw length_is at h), length_is), refl)

  -- it fits, and is written
  pub written : {q : Bytes} {m : ℕ} → n ≤ length o → Wrote t m o q → (Ok m ≡ fitting t (length o)) × (q ≡ buffer (Ok m) t o)
  written {q} {m} h w =
      let fits : length t ≤ length o = rw length_is at h in
      let e = exact w (omega arith) in
      (rw (le-leb (length t) (length o) fits, e), w.bytes ∙ rw e (over_fits t o fits))
