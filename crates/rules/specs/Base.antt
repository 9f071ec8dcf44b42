-- The words that document 01 is written down in: bytes, tests, lists, and rules with their numbers.
use Rattle.std.specs.Prelude.{ℕ, Bool, true, false, ◌&&◌, ◌||◌, List, [], ◌∷◌, leb, eqb, cond, Option, None, Some}
use Prim.Native.String.{String}
use Prim.Native.Char.{code}

abbrev pub Bytes : Type 0
Bytes = List ℕ

-- the bytes of a text in ASCII
abbrev pub ascii : String → Bytes
ascii String.[] = []
ascii (String.◌∷◌ c s) = code c ∷ ascii s

-- n is one of lo to hi
abbrev pub between : ℕ → ℕ → ℕ → Bool
between lo hi n = leb lo n && leb n hi

abbrev pub is_digit : ℕ → Bool
is_digit = between 48 57

abbrev pub is_upper : ℕ → Bool
is_upper = between 65 90

abbrev pub is_lower : ℕ → Bool
is_lower = between 97 122

abbrev pub is_upper_or_digit : ℕ → Bool
is_upper_or_digit b = is_upper b || is_digit b

-- byte for byte the same
unfoldable pub same : Bytes → Bytes → Bool
same [] [] = true
same [] (b ∷ bs) = false
same (a ∷ as') [] = false
same (a ∷ as') (b ∷ bs) = eqb a b && same as' bs

module _ {ℓ} {A : Type ℓ} where
  abbrev pub null : List A → Bool
  null [] = true
  null (x ∷ xs) = false

  unfoldable pub all : (A → Bool) → List A → Bool
  all p [] = true
  all p (x ∷ xs) = p x && all p xs

  unfoldable pub any : (A → Bool) → List A → Bool
  any p [] = false
  any p (x ∷ xs) = p x || any p xs

  -- Those that pass; `cond b x y` is `if b then x else y` at any level. A recursive call is bound before an `if`, here and below: both branches
  -- of an `if` are computed, and what a `let` binds only where it is read. A call in both branches would double the work with every step.
  unfoldable pub keep : (A → Bool) → List A → List A
  keep p [] = []
  keep p (x ∷ xs) = let r = keep p xs in cond (p x) (x ∷ r) r

  -- x in front of the first list; a list of its own where there is none
  abbrev pub push : A → List (List A) → List (List A)
  push x [] = (x ∷ []) ∷ []
  push x (p ∷ ps) = (x ∷ p) ∷ ps

  -- without the last
  unfoldable pub front : List A → List A
  front [] = []
  front (x ∷ []) = []
  front (x ∷ (y ∷ ys)) = x ∷ front (y ∷ ys)

  -- the last, or d where there is none
  unfoldable pub last : A → List A → A
  last d [] = d
  last d (x ∷ xs) = last x xs

-- there is one, and it passes
abbrev pub holds : {A : Type 0} → (A → Bool) → Option A → Bool
holds p None = false
holds p (Some x) = p x

-- one of the list
abbrev pub member : Bytes → List Bytes → Bool
member a = any (same a)

-- A rule: the number to give where its test applies.
infix 20 ◌⇒◌
pub data Rule : Type 0 where
  ◌⇒◌ : Bool → ℕ → Rule

-- the number of the first rule that applies, 0 where none does
unfoldable pub first : List Rule → ℕ
first [] = 0
first ((true ⇒ n) ∷ rs) = n
first ((false ⇒ n) ∷ rs) = first rs

-- the numbers of all rules that apply, in their order
unfoldable pub every : List Rule → List ℕ
every [] = []
every ((true ⇒ n) ∷ rs) = n ∷ every rs
every ((false ⇒ n) ∷ rs) = every rs
