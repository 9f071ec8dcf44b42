-- An answer that is told to C, as a number and a length, has the outcome of the call.
use Prim.Native.Nat.{ℕ}
use mathlib.Core.Path.{◌≡◌}
use Rattle.rules.specs.Base.{Bytes}
use Rattle.rules.specs.Answers.{Answer, Reply, Outcome, Allowed, called, number, size}
use Rattle.rules.proofs.Facts.{Numbered, allowed_outcome}

pub delivered : (reply : Reply) (lent : Bytes) (a : Answer) {left : Bytes} {n m : ℕ} → Numbered reply → Allowed reply lent a left → (n ≡ number a) × (m ≡ size a)
    → ◌≡◌ {A = Outcome} (record { number = n; size = m; buffer = left }) (called reply lent)
delivered reply lent a numbered p (e, f) = rw (e, f) (allowed_outcome reply lent a numbered p)
