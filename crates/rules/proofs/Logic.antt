-- Laws of tests, lists and rules that hold whatever they are about.
use mathlib.Core.Path.{◌≡◌, refl, sym, ◌∙◌, ap, subst⁻¹}
use mathlib.Core.Bool.{Bool, true, false, ◌&&◌, ◌||◌, not, and_assoc, false≢true, true≢false}
use mathlib.Core.Logic.{◌⊎◌, inl, inr}
use mathlib.Core.List.{List, [], ◌∷◌, ◌++◌, map}
use Prim.Native.Nat.{ℕ, zero, suc, ◌≤◌, ◌<◌}
use native.Mathlib.Nat.{not-suc-le-zero, le_of_suc-le-suc}
use native.Mathlib.Omega.{arith}
use borrow.Author.Tests.{eqb-true, eqb-false, leb-true}
use lib.Dec.{T, T_not, leb, eqb}
use lib.ListN.{length, get_or, take, drop}
use Rattle.rules.specs.Base.{Bytes, same, all, any, front, last, between, Rule, ◌⇒◌, first, every}

pub and_left : (a b : Bool) → a && b ≡ true → a ≡ true
and_left true b e = refl
and_left false b e = e

pub and_right : (a b : Bool) → a && b ≡ true → b ≡ true
and_right true b e = e
and_right false b e = absurd (false≢true e)

pub or_left : (a b : Bool) → a || b ≡ false → a ≡ false
or_left false b e = refl
or_left true b e = absurd (true≢false e)

pub or_right : (a b : Bool) → a || b ≡ false → b ≡ false
or_right false b e = e
or_right true b e = absurd (true≢false e)

pub or_none : (b : Bool) → b || false ≡ b
or_none true = refl
or_none false = refl

pub same→eq : (a b : Bytes) → same a b ≡ true → a ≡ b
unfolding same
same→eq [] [] e = refl
same→eq [] (y ∷ b) e = absurd (false≢true e)
same→eq (x ∷ a) [] e = absurd (false≢true e)
same→eq (x ∷ a) (y ∷ b) e =
    rw (eqb-true x y (and_left (eqb x y) (same a b) e), same→eq a b (and_right (eqb x y) (same a b) e))

module _ {A : Type 0} (p : A → Bool) where
  pub all_head : (x : A) (xs : List A) → all p (x ∷ xs) ≡ true → p x ≡ true
  unfolding all
  all_head x xs e = and_left (p x) (all p xs) e

  pub all_tail : (x : A) (xs : List A) → all p (x ∷ xs) ≡ true → all p xs ≡ true
  unfolding all
  all_tail x xs e = and_right (p x) (all p xs) e

  pub all_cons : (x : A) (xs : List A) → p x ≡ true → all p xs ≡ true → all p (x ∷ xs) ≡ true
  unfolding all
  all_cons x xs e f = rw e f

  pub all_append : (xs ys : List A) → all p xs ≡ true → all p ys ≡ true → all p (xs ++ ys) ≡ true
  all_append [] ys e f = f
  all_append (x ∷ xs) ys e f = all_cons x (xs ++ ys) (all_head x xs e) (all_append xs ys (all_tail x xs e) f)

  pub all_both : (xs ys : List A) → all p (xs ++ ys) ≡ all p xs && all p ys
  unfolding all
  all_both [] ys = refl
  all_both (x ∷ xs) ys = rw (all_both xs ys) (sym (and_assoc (p x) (all p xs) (all p ys)))

  pub all_left : (xs ys : List A) → all p (xs ++ ys) ≡ true → all p xs ≡ true
  unfolding all
  all_left [] ys e = refl
  all_left (x ∷ xs) ys e = all_cons x xs (all_head x (xs ++ ys) e) (all_left xs ys (all_tail x (xs ++ ys) e))

  pub all_right : (xs ys : List A) → all p (xs ++ ys) ≡ true → all p ys ≡ true
  all_right [] ys e = e
  all_right (x ∷ xs) ys e = all_right xs ys (all_tail x (xs ++ ys) e)

  pub all_take : (k : ℕ) (xs : List A) → all p xs ≡ true → all p (take k xs) ≡ true
  unfolding all
  all_take zero xs e = refl
  all_take (suc k) [] e = refl
  all_take (suc k) (x ∷ xs) e = all_cons x (take k xs) (all_head x xs e) (all_take k xs (all_tail x xs e))

  pub all_drop : (k : ℕ) (xs : List A) → all p xs ≡ true → all p (drop k xs) ≡ true
  all_drop zero xs e = e
  all_drop (suc k) [] e = e
  all_drop (suc k) (x ∷ xs) e = all_drop k xs (all_tail x xs e)

  pub any_append : (xs ys : List A) → any p (xs ++ ys) ≡ any p xs || any p ys
  unfolding any
  any_append [] ys = refl
  any_append (x ∷ xs) ys = rw (any_append xs ys) (go (p x))
    where
      go : (b : Bool) → b || (any p xs || any p ys) ≡ (b || any p xs) || any p ys
      go true = refl
      go false = refl

  -- what passes one test passes another that follows from it
  pub all_weaken : (q : A → Bool) → ((x : A) → p x ≡ true → q x ≡ true) → (xs : List A) → all p xs ≡ true → all q xs ≡ true
  unfolding all
  all_weaken q h [] e = refl
  all_weaken q h (x ∷ xs) e = rw (h x (all_head x xs e)) (all_weaken q h xs (all_tail x xs e))

  -- what passes two tests passes a third that follows from both
  pub all_join : (q r : A → Bool) → ((x : A) → p x ≡ true → q x ≡ true → r x ≡ true) → (xs : List A) → all p xs ≡ true → all q xs ≡ true → all r xs ≡ true
  unfolding all
  all_join q r h [] e f = refl
  all_join q r h (x ∷ xs) e f = rw (h x (all_head x xs e) (and_left (q x) (all q xs) f)) (all_join q r h xs (all_tail x xs e) (and_right (q x) (all q xs) f))

-- what all pass, the one at k passes
-- what holds of all, and of what stands for one that is missing, holds at every place
pub all_anywhere : {A : Type 0} (p : A → Bool) (d : A) → p d ≡ true → (xs : List A) → all p xs ≡ true → (k : ℕ) → p (get_or xs k d) ≡ true
all_anywhere p d z [] e k = z
all_anywhere p d z (x ∷ xs) e zero = all_head p x xs e
all_anywhere p d z (x ∷ xs) e (suc k) = all_anywhere p d z xs (all_tail p x xs e) k

pub all_at : {A : Type 0} (p : A → Bool) (xs : List A) (d : A) (k : ℕ) → all p xs ≡ true → k < length xs → p (get_or xs k d) ≡ true
all_at p [] d k e h = absurd (not-suc-le-zero h)
all_at p (x ∷ xs) d zero e h = all_head p x xs e
all_at p (x ∷ xs) d (suc k) e h = all_at p xs d k (all_tail p x xs e) (le_of_suc-le-suc h)

module _ {A : Type 0} where
  -- a list is all but its last, and its last
  pub front_last : (d x : A) (xs : List A) → front (x ∷ xs) ++ last d (x ∷ xs) ∷ [] ≡ x ∷ xs
  unfolding front last
  front_last d x [] = refl
  front_last d x (y ∷ ys) = ap (λ (l : List A). x ∷ l) (front_last x y ys)

  pub front_snoc : (xs : List A) (x : A) → front (xs ++ x ∷ []) ≡ xs
  unfolding front
  front_snoc [] x = refl
  front_snoc (y ∷ []) x = refl
  front_snoc (y ∷ (z ∷ zs)) x = ap (λ (l : List A). y ∷ l) (front_snoc (z ∷ zs) x)

  pub last_snoc : (d : A) (xs : List A) (x : A) → last d (xs ++ x ∷ []) ≡ x
  unfolding last
  last_snoc d [] x = refl
  last_snoc d (y ∷ ys) x = last_snoc y ys x

  -- the last of a list passes a test that all pass
  pub last_all : (p : A → Bool) (d : A) (xs : List A) → p d ≡ true → all p xs ≡ true → p (last d xs) ≡ true
  unfolding last
  last_all p d [] e f = e
  last_all p d (x ∷ xs) e f = last_all p x xs (all_head p x xs f) (all_tail p x xs f)

-- 2. Rules.
pub both_left : (a b : Bool) → T (a && b) → T a
both_left true b t = tt
both_left false b t = t

pub both_right : (a b : Bool) → T (a && b) → T b
both_right true b t = t
both_right false b t = absurd t

-- no rule of the list gives 0
abbrev pub numbered : List Rule → Bool
numbered [] = true
numbered ((b ⇒ n) ∷ rs) = not (eqb n 0) && numbered rs

-- the first number of two blocks of rules: that of the first block, or where it has none, that of the second
abbrev pub or_else : ℕ → Bool → ℕ → ℕ
or_else n true m = m
or_else n false m = n

pub first_append : (rs ss : List Rule) → T (numbered rs) → first (rs ++ ss) ≡ or_else (first rs) (eqb (first rs) 0) (first ss)
unfolding first
first_append [] ss t = refl
first_append ((true ⇒ n) ∷ rs) ss t = rw (nonzero n (both_left (not (eqb n 0)) (numbered rs) t))
  where
    nonzero : (n : ℕ) → T (not (eqb n 0)) → eqb n 0 ≡ false
    nonzero n u = go (eqb n 0) refl u
      where
        go : (c : Bool) → eqb n 0 ≡ c → T (not c) → eqb n 0 ≡ false
        go true e u = absurd u
        go false e u = e
first_append ((false ⇒ n) ∷ rs) ss t = first_append rs ss (both_right (not (eqb n 0)) (numbered rs) t)

-- where that of both is 0, that of each is
pub first_append_none : (rs ss : List Rule) → T (numbered rs) → first (rs ++ ss) ≡ 0 → (first rs ≡ 0) × (first ss ≡ 0)
first_append_none rs ss t e = go (eqb (first rs) 0) refl (sym (first_append rs ss t) ∙ e)
  where
    go : (b : Bool) → eqb (first rs) 0 ≡ b → or_else (first rs) b (first ss) ≡ 0 → (first rs ≡ 0) × (first ss ≡ 0)
    go true q e = (eqb-true (first rs) 0 q, e)
    go false q e = absurd (eqb-false (first rs) 0 q e)

-- no rule of the list applies
abbrev pub Silent : List Rule → Type 0
Silent [] = Unit {0}
Silent ((b ⇒ n) ∷ rs) = (b ≡ false) × Silent rs

-- where the first number is 0, no rule applies
pub silent : (rs : List Rule) → T (numbered rs) → first rs ≡ 0 → Silent rs
unfolding first
silent [] t e = tt
silent ((true ⇒ n) ∷ rs) t e =
    absurd (T_not (eqb n 0) (both_left (not (eqb n 0)) (numbered rs) t) (subst⁻¹ (λ (m : ℕ). T (eqb m 0)) e tt))
silent ((false ⇒ n) ∷ rs) t e = (refl, silent rs (both_right (not (eqb n 0)) (numbered rs) t) e)

-- all numbers of the rules are between lo and hi, and so is that of the first that applies
abbrev pub numbered_in : ℕ → ℕ → List Rule → Bool
numbered_in lo hi [] = true
numbered_in lo hi ((b ⇒ n) ∷ rs) = between lo hi n && numbered_in lo hi rs

pub first_in : (lo hi : ℕ) (rs : List Rule) → numbered_in lo hi rs ≡ true → (first rs ≡ 0) ⊎ ((lo ≤ first rs) × (first rs ≤ hi))
unfolding first
first_in lo hi [] e = inl refl
first_in lo hi ((true ⇒ n) ∷ rs) e =
    let within = and_left (between lo hi n) (numbered_in lo hi rs) e in
    inr (leb-true lo n (and_left (leb lo n) (leb n hi) within), leb-true n hi (and_right (leb lo n) (leb n hi) within))
first_in lo hi ((false ⇒ n) ∷ rs) e = first_in lo hi rs (and_right (between lo hi n) (numbered_in lo hi rs) e)

pub first_low : (lo hi : ℕ) (rs : List Rule) → numbered_in lo hi rs ≡ true → first rs ≤ hi
first_low lo hi rs e = go (first_in lo hi rs e)
  where
    go : (first rs ≡ 0) ⊎ ((lo ≤ first rs) × (first rs ≤ hi)) → first rs ≤ hi
    go (inl z) = omega arith
    go (inr h) = h.1

-- 3. What holds of each of a list.
module _ {A : Type 0} (P : A → Type 0) where
  unfoldable pub Each : List A → Type 0
  Each [] = Unit {0}
  Each (x ∷ xs) = P x × Each xs

  pub each_none : Each []
  unfolding Each
  each_none = tt

  pub each_append : (xs ys : List A) → Each xs → Each ys → Each (xs ++ ys)
  unfolding Each
  each_append [] ys h k = k
  each_append (x ∷ xs) ys h k = (h.0, each_append xs ys h.1 k)

pub each_map : {A B : Type 0} (P : B → Type 0) (f : A → B) (xs : List A) → Each (λ x. P (f x)) xs → Each P (map f xs)
unfolding Each
each_map P f [] h = tt
each_map P f (x ∷ xs) h = (h.0, each_map P f xs h.1)

-- as one test
pub each_all : {A : Type 0} (p : A → Bool) (xs : List A) → Each (λ x. p x ≡ true) xs → all p xs ≡ true
unfolding Each all
each_all p [] h = refl
each_all p (x ∷ xs) h = all_cons p x xs h.0 (each_all p xs h.1)

-- what follows from what holds of each
pub each_weaken : {A : Type 0} (P Q : A → Type 0) → ((x : A) → P x → Q x) → (xs : List A) → Each P xs → Each Q xs
unfolding Each
each_weaken P Q f [] h = tt
each_weaken P Q f (x ∷ xs) h = (f x h.0, each_weaken P Q f xs h.1)

-- it holds of the one at k
pub each_at : {A : Type 0} (P : A → Type 0) (xs : List A) (k : ℕ) (w : A) → Each P xs → k < length xs → P (get_or xs k w)
unfolding Each
each_at P [] k w e h = absurd (not-suc-le-zero h)
each_at P (x ∷ xs) zero w e h = e.0
each_at P (x ∷ xs) (suc k) w e h = each_at P xs k w e.1 (le_of_suc-le-suc h)

-- of each number that a rule may give
abbrev pub Given : (ℕ → Type 0) → List Rule → Type 0
Given P [] = Unit {0}
Given P ((b ⇒ n) ∷ rs) = (b ≡ true → P n) × Given P rs

pub every_given : (P : ℕ → Type 0) (rs : List Rule) → Given P rs → Each P (every rs)
unfolding every Each
every_given P [] h = tt
every_given P ((true ⇒ n) ∷ rs) h = (h.0 refl, every_given P rs h.1)
every_given P ((false ⇒ n) ∷ rs) h = every_given P rs h.1
