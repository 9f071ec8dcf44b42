-- What a writer promises: its text over the start of a buffer, clipped to what fits, and the text's full length.
use Rattle.std.specs.Prelude.{ℕ, zero, suc, ◌+◌, ◌<◌, min, ◌≡◌, [], ◌∷◌, length}
use Rattle.rules.specs.Base.{Bytes}

-- the text t over the start of the buffer o: what of t does not fit is left off, and what lies after t stays
unfoldable pub over : Bytes → Bytes → Bytes
over [] o = o
over (x ∷ t) [] = []
over (x ∷ t) (y ∷ o) = x ∷ over t o

-- the same from byte n on: nothing where the buffer ends before n
unfoldable pub from : ℕ → Bytes → Bytes → Bytes
from zero t o = over t o
from (suc n) t [] = []
from (suc n) t (y ∷ o) = y ∷ from n t o

-- a length as a usize: the largest stands for every length that is greater
abbrev pub sat : ℕ → ℕ
sat n = min n 18446744073709551615

-- A block wrote t: it answers r, t's length, and leaves o as o'.
pub record Wrote (t : Bytes) (r : ℕ) (o o' : Bytes) : Type 0 where
  pub count : r ≡ sat (length t)
  pub bytes : o' ≡ over t o

-- A piece wrote t after n bytes: it answers r, the length so far, and leaves o as o'. `room` is so of each slice, and here for the laws to use.
pub record From (n : ℕ) (t : Bytes) (r : ℕ) (o o' : Bytes) : Type 0 where
  pub count : r ≡ sat (n + length t)
  pub bytes : o' ≡ from n t o
  pub room : length o < 9223372036854775808
