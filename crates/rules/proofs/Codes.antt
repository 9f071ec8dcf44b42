-- The codes of AK4 and AK3 against their numbers, where 0 is none.
use Rattle.std.proofs.Common.{◌≡◌, ℕ, min, max, ℤ, pos, Bool, true, false, not, cond, eqb, ltb, [], ◌∷◌, map, get_or, Option, Some, None, is_some, Less, Equal, Greater, refl, sym, ap, ◌∙◌, arith, ne_eqb, ltb-true, ltb-false}
use Rattle.std.specs.Option.{option_cmp}
use Rattle.std.specs.Ordering.{is_lt, int_cmp, ord_min, ord_max}
use denote.Enum.Declared.{tag_of}
use Rattle.rules.specs.contracts.ElementCode.{the_type}
use Rattle.rules.specs.contracts.ElementCodeOrd.TheImpl as ord
use Rattle.rules.specs.Codes.{element_number, element_coded, segment_number}
use Rattle.rules.specs.declared.ElementCode.{ElementCode}
use Rattle.rules.specs.declared.ElementCode.TheVariants as element
use Rattle.rules.specs.declared.SegmentCode.{SegmentCode}
use Rattle.rules.specs.declared.SegmentCode.TheVariants as segment

-- a code is that of its number
pub element_coded-number : (c : Option ElementCode) → element_coded (element_number c) ≡ c
unfolding element_coded
element_coded-number None = refl
element_coded-number (Some element.Missing) = refl
element_coded-number (Some element.MissingByNote) = refl
element_coded-number (Some element.BeyondTable) = refl
element_coded-number (Some element.TooShort) = refl
element_coded-number (Some element.TooLong) = refl
element_coded-number (Some element.BadByte) = refl
element_coded-number (Some element.NotListed) = refl
element_coded-number (Some element.NoDate) = refl
element_coded-number (Some element.NoTime) = refl
element_coded-number (Some element.ShutOut) = refl
element_coded-number (Some element.TooManyRepetitions) = refl

-- so a number has one code
pub by_number : (c : Option ElementCode) {n : ℕ} → element_number c ≡ n → c ≡ element_coded n
by_number c e = sym (element_coded-number c) ∙ ap element_coded e

pub element_same : (a b : Option ElementCode) → element_number a ≡ element_number b → a ≡ b
element_same a b e = by_number a e ∙ element_coded-number b

-- a code has a number that is not 0
pub some_number : (c : ElementCode) → element_number (Some c) ≡ 0 → ⊥
unfolding element_coded
some_number c e = let z : Some c ≡ None = by_number (Some c) e in absurd (cc)

pub element_some : (c : Option ElementCode) → is_some c ≡ not (eqb (element_number c) 0)
element_some None = refl
element_some (Some c) = rw (ne_eqb (element_number (Some c)) 0 (some_number c))

pub segment_some : (c : Option SegmentCode) → is_some c ≡ not (eqb (segment_number c) 0)
segment_some None = refl
segment_some (Some segment.NotKnown) = refl
segment_some (Some segment.Missing) = refl
segment_some (Some segment.BeyondMaximum) = refl
segment_some (Some segment.NotInTable) = refl
segment_some (Some segment.OutOfOrder) = refl
segment_some (Some segment.HasFindings) = refl

-- Codes are in the order of their numbers, and none comes first.
-- the number that the derived order compares
abbrev discriminant : ElementCode → ℤ
discriminant c = get_or (map pos (1 ∷ 2 ∷ 3 ∷ 4 ∷ 5 ∷ 6 ∷ 7 ∷ 8 ∷ 9 ∷ 10 ∷ 12 ∷ [])) (tag_of the_type c) (pos 0)

discriminant_is : (c : ElementCode) → discriminant c ≡ pos (element_number (Some c))
discriminant_is element.Missing = refl
discriminant_is element.MissingByNote = refl
discriminant_is element.BeyondTable = refl
discriminant_is element.TooShort = refl
discriminant_is element.TooLong = refl
discriminant_is element.BadByte = refl
discriminant_is element.NotListed = refl
discriminant_is element.NoDate = refl
discriminant_is element.NoTime = refl
discriminant_is element.ShutOut = refl
discriminant_is element.TooManyRepetitions = refl

module _ (a b : ElementCode) where
  abbrev m : ℕ
  m = element_number (Some a)

  abbrev n : ℕ
  n = element_number (Some b)

  comes_first : is_lt (ord.cmp-value.it b a) ≡ ltb n m
  comes_first =
      ap (λ (x : ℤ). is_lt (int_cmp x (discriminant a))) (discriminant_is b)
      ∙ ap (λ (y : ℤ). is_lt (int_cmp (pos n) y)) (discriminant_is a)
      ∙ go (ltb n m) (ltb m n)
    where
      go : (x y : Bool) → is_lt (cond x Less (cond y Greater Equal)) ≡ x
      go true y = refl
      go false true = refl
      go false false = refl

  some_min : element_number (cond (is_lt (ord.cmp-value.it b a)) (Some b) (Some a)) ≡ min m n
  some_min = ap (λ (l : Bool). element_number (cond l (Some b) (Some a))) comes_first ∙ go (ltb n m) refl
    where
      go : (l : Bool) → ltb n m ≡ l → element_number (cond l (Some b) (Some a)) ≡ min m n
      go true e = let h = ltb-true n m e in omega arith
      go false e = let h = ltb-false n m e in omega arith

  some_max : element_number (cond (is_lt (ord.cmp-value.it b a)) (Some a) (Some b)) ≡ max m n
  some_max = ap (λ (l : Bool). element_number (cond l (Some a) (Some b))) comes_first ∙ go (ltb n m) refl
    where
      go : (l : Bool) → ltb n m ≡ l → element_number (cond l (Some a) (Some b)) ≡ max m n
      go true e = let h = ltb-true n m e in omega arith
      go false e = let h = ltb-false n m e in omega arith

pub element_min : (a b : Option ElementCode) → element_number (ord_min (option_cmp ord.cmp-value.it) a b) ≡ min (element_number a) (element_number b)
element_min None None = refl
element_min None (Some b) = omega arith
element_min (Some a) None = omega arith
element_min (Some a) (Some b) = some_min a b

pub element_max : (a b : Option ElementCode) → element_number (ord_max (option_cmp ord.cmp-value.it) a b) ≡ max (element_number a) (element_number b)
element_max None None = refl
element_max None (Some b) = omega arith
element_max (Some a) None = omega arith
element_max (Some a) (Some b) = some_max a b
