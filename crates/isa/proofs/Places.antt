-- ISA by its places: the sixteen separators, the fields between them, and the last byte.
use Rattle.std.specs.Prelude.{Option, None, Some}
use Prim.Native.Nat.{ℕ, zero, suc, ◌+◌, ◌-◌, ◌<◌, ◌≤◌}
use mathlib.Core.Path.{◌≡◌, refl, sym, ap, ◌∙◌}
use mathlib.Core.Bool.{Bool, true, ◌&&◌}
use mathlib.Core.List.{List, [], ◌∷◌}
use native.Mathlib.Nat.{not-suc-le-zero, le_of_suc-le-suc, sub-zero}
use native.Mathlib.Omega.{arith}
use borrow.Author.Tests.{ltb-true}
use lib.Dec.{ltb}
use lib.ListN.{length, get_or, take, drop, length-take}
use lib.Seq.{slice, take-nil, get_or-take}
use Rattle.rules.specs.Base.{Bytes, all, last}
use Rattle.rules.specs.Cutting.{separators, fields_at, field, isa}
use Rattle.rules.specs.Refusals.{text_fields}
use Rattle.rules.proofs.Logic.{all_both, all_at}
use Rattle.text.proofs.Loops.{all_step, all_end}

sixteen : length separators ≡ 16
unfolding separators
sixteen = refl

pub separator_low : (k : ℕ) → k < 16 → get_or separators k 0 < 106
unfolding separators all
separator_low k h = ltb-true (get_or separators k 0) 106 (all_at (λ at. ltb at 106) separators 0 k refl h)

-- a test over the part of sixteen from k up to m: x, at k, passes as q says, and the rest decides
module _ {A : Type 0} (p : A → Bool) (xs : List A) (l : length xs ≡ 16) (m : ℕ) (few : m ≤ 16) (k : ℕ) where
  pub part_step : (d x : A) (q : Bool) → k < m → x ≡ get_or xs k d → p x ≡ q → all p (slice k m xs) ≡ q && all p (slice (k + 1) m xs)
  part_step d x q h at e =
      all_step p (take m xs) d k q (simp length-take (omega (arith, l, few))) (ap p (get_or-take m xs k d h ∙ sym at) ∙ e)

  pub part_end : m ≤ k → all p (slice k m xs) ≡ true
  part_end h = all_end p (take m xs) k (simp length-take (omega arith))

-- a test over the fields of ISA that are text: over all of them, or over all but ISA11
module _ (p : Bytes → Bool) (i : Bytes) (r : Option ℕ) where
  pub texts_all : r ≡ None → all p (slice 0 16 (isa i)) ≡ all p (text_fields r (isa i))
  unfolding isa fields_at separators
  texts_all e = rw e

  pub texts_others : {b : ℕ} → r ≡ Some b → all p (slice 0 11 (isa i)) && all p (slice 12 16 (isa i)) ≡ all p (text_fields r (isa i))
  unfolding isa fields_at separators
  texts_others e = rw e (sym (all_both p (take 11 (isa i)) (drop 12 (isa i))))

-- the fields of ISA: sixteen, the first up to the first separator, each other between two
pub isa_length : (i : Bytes) → length (isa i) ≡ 16
unfolding isa fields_at separators
isa_length i = refl

pub isa_first : (i : Bytes) (n : ℕ) → n ≡ 0 → field (isa i) n ≡ take (get_or separators n 0) i
unfolding isa fields_at separators
isa_first i n z = rw z

between_places : (i : Bytes) (start : ℕ) (es : List ℕ) (m : ℕ) → suc m < length es
    → field (fields_at start es i) (suc m) ≡ slice (get_or es m 0 + 1) (get_or es (suc m) 0) i
unfolding fields_at
between_places i start [] m h = absurd (not-suc-le-zero h)
between_places i start (e ∷ []) m h = absurd (not-suc-le-zero (le_of_suc-le-suc h))
between_places i start (e ∷ (f ∷ es)) zero h = refl
between_places i start (e ∷ (f ∷ es)) (suc m) h = between_places i (e + 1) (f ∷ es) m (le_of_suc-le-suc h)

-- what is left of the first b bytes without the first a
slice_part : (a b : ℕ) (s : Bytes) → slice a b s ≡ take (b - a) (drop a s)
slice_part zero b s = rw sub-zero
slice_part (suc a) b [] = rw (take-nil b, take-nil (b - suc a))
slice_part (suc a) zero (x ∷ xs) = let none : 0 - suc a ≡ 0 = omega arith in rw none
slice_part (suc a) (suc b) (x ∷ xs) = let less : suc b - suc a ≡ b - a = omega arith in rw less (slice_part a b xs)

pub isa_next : (i : Bytes) (n : ℕ) → (n ≡ 0 → ⊥) → n < 16
    → field (isa i) n ≡ take (get_or separators n 0 - (get_or separators (n - 1) 0 + 1)) (drop (get_or separators (n - 1) 0 + 1) i)
unfolding isa
isa_next i zero z h = absurd (z refl)
isa_next i (suc m) z h =
    let n : suc m - 1 ≡ m = omega arith in
    let l : suc m < length separators = omega (arith, sixteen) in
    rw n (between_places i 0 separators m l ∙ slice_part (get_or separators m 0 + 1) (get_or separators (suc m) 0) i)

pub last_at : (i : Bytes) → last 0 i ≡ get_or i (length i - 1) 0
unfolding last
last_at [] = refl
last_at (x ∷ xs) = let n : suc (length xs) - 1 ≡ length xs = omega arith in rw n (go 0 x xs)
  where
    go : (d x : ℕ) (xs : Bytes) → last d (x ∷ xs) ≡ get_or (x ∷ xs) (length xs) 0
    go d x [] = refl
    go d x (y ∷ ys) = go x y ys
