-- What the leaves on bytes answer where document 01 has no definition of it.
use Rattle.std.specs.Prelude.{ℕ, suc, ◌+◌, ◌-◌, Bool, List, [], ◌∷◌, eqb, take, drop, if◌then◌else◌}
use Rattle.rules.specs.Base.{Bytes}
use Rattle.rules.specs.Numbers.{digits, value}

-- how many come before the first that passes; all where none does
unfoldable pub index_where {ℓ} : {A : Type ℓ} → (A → Bool) → List A → ℕ
index_where p [] = 0
index_where p (x ∷ xs) = let r = index_where p xs in if p x then 0 else suc r

-- the place of the first b, the length where there is none
abbrev pub index_of : ℕ → Bytes → ℕ
index_of b = index_where (λ x. eqb x b)

-- the index of the first from k on that passes; the length where there is none, and k where that is past the end
abbrev pub next_where {ℓ} : {A : Type ℓ} → (A → Bool) → List A → ℕ → ℕ
next_where p xs k = k + index_where p (drop k xs)

-- the bytes from one place up to another, those that there are
abbrev pub part : Bytes → ℕ → ℕ → Bytes
part s from to = take (to - from) (drop from s)

-- the value of at most ten digits, 0 for anything else
unfoldable pub up_to_ten : Bytes → ℕ
up_to_ten bs = if digits 0 10 bs then value bs else 0
