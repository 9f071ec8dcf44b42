-- The cutting of a segment in the words of the library.
use Rattle.std.proofs.Common.{◌≡◌, ℕ, Bool, true, false, ◌&&◌, ◌||◌, List, [], ◌∷◌, eqb, refl, sym, cond, length, arith}
use Rattle.std.specs.Prelude.{Option, Some, None, not}
use Rattle.std.specs.List.{slice_split, onto_first, slice_get, starts_with, list_any}
use borrow.Author.Tests.{eq-eqb, ne_eqb, eqb-true, eqb-false}
use Rattle.rules.specs.Base.{Bytes, same}
use Rattle.rules.specs.Cutting.{split, cut_at, field, is_named}

pub split-is : (e : ℕ) (s : Bytes) → split e s ≡ slice_split (λ b. eqb b e) s
unfolding split
split-is e [] = refl
split-is e (b ∷ s) = rw (split-is e s) (go (eqb b e) (slice_split (λ x. eqb x e) s))
  where
    go : (q : Bool) (ps : List Bytes) → cut_at q b ps ≡ cond q ([] ∷ ps) (onto_first b ps)
    go true ps = refl
    go false [] = refl
    go false (p ∷ ps) = refl

-- an id may end here: before a separator, or where the segment ends
abbrev pub ends : ℕ → Option ℕ → Bool
ends e None = true
ends e (Some b) = eqb b e

-- the id is a name that has no separator, and ends after it
pub named-is : (e : ℕ) (s name : Bytes)
    → is_named name (split e s) ≡ (starts_with eqb s name && not (list_any (λ b. eqb b e) name) && ends e (slice_get s (length name)))
unfolding split same
named-is e [] [] = refl
named-is e (b ∷ s) [] = go (eqb b e) (split e s)
  where
    go : (q : Bool) (ps : List Bytes) → same (field (cut_at q b ps) 0) [] ≡ q
    go true ps = refl
    go false [] = refl
    go false (p ∷ ps) = refl
named-is e [] (n ∷ name) = refl
named-is e (b ∷ s) (n ∷ name) = go (eqb b e) (eqb n b) (split e s) _ _ _ refl refl (named-is e s name)
  where
    go : (q c : Bool) (ps : List Bytes) (long lacks ended : Bool) → eqb b e ≡ q → eqb n b ≡ c → is_named name ps ≡ (long && not lacks && ended)
        → same (field (cut_at q b ps) 0) (n ∷ name) ≡ (c && long && not (eqb n e || lacks) && ended)
    go true true ps _ _ _ h k i = let f : eqb n e ≡ true = cc (eqb-true n b k) in rw f (grind arith)
    go true false ps _ _ _ h k i = refl
    go false true [] _ _ _ h k i = let f : eqb n e ≡ false = cc (eqb-true n b k) in rw (f, eq-eqb b n (sym (eqb-true n b k))) i
    go false true (p ∷ ps) _ _ _ h k i = let f : eqb n e ≡ false = cc (eqb-true n b k) in rw (f, eq-eqb b n (sym (eqb-true n b k))) i
    go false false [] _ _ _ h k i = rw (ne_eqb b n (λ f. eqb-false n b k (sym f)))
    go false false (p ∷ ps) _ _ _ h k i = rw (ne_eqb b n (λ f. eqb-false n b k (sym f)))
