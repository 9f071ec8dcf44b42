-- The laws of `over` and `from`: a text over a buffer, byte by byte, in parts, and after another text.
use mathlib.Core.Path.{◌≡◌, refl, sym, ap, ◌∙◌}
use mathlib.Core.List.{[], ◌∷◌, ◌++◌}
use Prim.Native.Nat.{ℕ, zero, suc, ◌+◌, ◌≤◌, ◌<◌, min}
use native.Mathlib.Nat.{not-suc-le-zero, le_of_suc-le-suc, zero-add, suc-add}
use native.Mathlib.Numerals.{add-one}
use native.Mathlib.Omega.{arith}
use lib.ListN.{length, take, drop, set, get_or}
use Rattle.rules.specs.Base.{Bytes}
use Rattle.writing.specs.Over.{over, from, sat}

-- 1. From the start.
pub over_none : (o : Bytes) → over [] o ≡ o
unfolding over
over_none o = refl

-- a text over no buffer at all: the measuring pass
pub over_nil : (t : Bytes) → over t [] ≡ []
unfolding over
over_nil [] = refl
over_nil (x ∷ t) = refl

pub over_byte : (b : ℕ) (o : Bytes) → over (b ∷ []) o ≡ set o 0 b
unfolding over
over_byte b [] = refl
over_byte b (y ∷ o) = refl

pub length_over : (t o : Bytes) → length (over t o) ≡ length o
unfolding over
length_over [] o = refl
length_over (x ∷ t) [] = refl
length_over (x ∷ t) (y ∷ o) = ap suc (length_over t o)

-- a text that fits stands before what lies after it
pub over_fits : (t o : Bytes) → length t ≤ length o → over t o ≡ t ++ drop (length t) o
unfolding over
over_fits [] o h = refl
over_fits (x ∷ t) [] h = absurd (not-suc-le-zero h)
over_fits (x ∷ t) (y ∷ o) h = ap (λ (l : Bytes). x ∷ l) (over_fits t o (le_of_suc-le-suc h))

-- one byte more of a text is one store more
over_one : (t o : Bytes) (i : ℕ) → i < length t → over (take (suc i) t) o ≡ set (over (take i t) o) i (get_or t i 0)
unfolding over
over_one [] o i h = absurd (not-suc-le-zero h)
over_one (x ∷ t) [] zero h = refl
over_one (x ∷ t) (y ∷ o) zero h = refl
over_one (x ∷ t) [] (suc i) h = refl
over_one (x ∷ t) (y ∷ o) (suc i) h = ap (λ (l : Bytes). x ∷ l) (over_one t o i (le_of_suc-le-suc h))

-- a copying loop's turn
pub over_turn : (t o out : Bytes) (i : ℕ) → out ≡ over (take i t) o → i < length t → set out i (get_or t i 0) ≡ over (take (i + 1) t) o
over_turn t o out i e h = rw (e, add-one) (sym (over_one t o i h))

-- what does not fit makes no difference
over_clip : (n : ℕ) (t o : Bytes) → min (length t) (length o) ≤ n → over (take n t) o ≡ over t o
unfolding over
over_clip zero [] o h = refl
over_clip zero (x ∷ t) [] h = refl
over_clip zero (x ∷ t) (y ∷ o) h = absurd (omega (arith, h))
over_clip (suc n) [] o h = refl
over_clip (suc n) (x ∷ t) [] h = refl
over_clip (suc n) (x ∷ t) (y ∷ o) h = ap (λ (l : Bytes). x ∷ l) (over_clip n t o (omega arith))

-- a copying loop's end
pub over_whole : (t o out : Bytes) (i : ℕ) → out ≡ over (take i t) o → min (length t) (length o) ≤ i → out ≡ over t o
over_whole t o out i e h = e ∙ over_clip i t o h

-- a text whose last byte stands already
pub over_last : (t : Bytes) (b : ℕ) (o : Bytes) → over (t ++ b ∷ []) o ≡ over t (set o (length t) b)
unfolding over
over_last [] b o = over_byte b o
over_last (x ∷ t) b [] = refl
over_last (x ∷ t) b (y ∷ o) = ap (λ (l : Bytes). x ∷ l) (over_last t b o)

-- 2. From byte n on.
pub from_zero : (t o : Bytes) → from 0 t o ≡ over t o
unfolding from
from_zero t o = refl

pub from_none : (n : ℕ) (o : Bytes) → from n [] o ≡ o
unfolding from
from_none zero o = over_none o
from_none (suc n) [] = refl
from_none (suc n) (y ∷ o) = ap (λ (l : Bytes). y ∷ l) (from_none n o)

from_nil : (n : ℕ) (t : Bytes) → from n t [] ≡ []
unfolding from
from_nil zero t = over_nil t
from_nil (suc n) t = refl

pub length_from : (n : ℕ) (t o : Bytes) → length (from n t o) ≡ length o
unfolding from
length_from zero t o = length_over t o
length_from (suc n) t [] = refl
length_from (suc n) t (y ∷ o) = ap suc (length_from n t o)

-- the text stands over what is left of the buffer from n on
pub from_split : (n k : ℕ) (t o : Bytes) → k ≡ min n (length o) → take k o ++ over t (drop k o) ≡ from n t o
unfolding from
from_split zero k t o h = let e : k ≡ 0 = omega arith in rw e
from_split (suc n) k t [] h = let e : k ≡ 0 = omega arith in rw e (over_nil t)
from_split (suc n) zero t (y ∷ o) h = absurd (omega arith)
from_split (suc n) (suc k) t (y ∷ o) h = ap (λ (l : Bytes). y ∷ l) (from_split n k t o (omega arith))

-- a saturated count serves as well, since no buffer reaches it
pub from_sat : (n m : ℕ) (t o : Bytes) → m ≡ sat n → length o < 9223372036854775808 → from m t o ≡ from n t o
from_sat n m t o e h = sym (from_split m (min n (length o)) t o (omega arith)) ∙ from_split n (min n (length o)) t o refl

-- 3. A text after a text.
over_seq : (t s o : Bytes) → from (length t) s (over t o) ≡ over (t ++ s) o
unfolding over from
over_seq [] s o = refl
over_seq (x ∷ t) s [] = refl
over_seq (x ∷ t) s (y ∷ o) = ap (λ (l : Bytes). x ∷ l) (over_seq t s o)

pub from_seq : (n : ℕ) (t s o : Bytes) → from (n + length t) s (from n t o) ≡ from n (t ++ s) o
unfolding from
from_seq zero t s o = rw zero-add (over_seq t s o)
from_seq (suc n) t s [] = from_nil (suc n + length t) s
from_seq (suc n) t s (y ∷ o) = rw suc-add (ap (λ (l : Bytes). y ∷ l) (from_seq n t s o))
