-- Codes that are collected from a row of rules: what they are, and that they stand within their array.
use Prim.Native.Nat.{ℕ, zero, suc, ◌+◌, ◌<◌, ◌≤◌}
use mathlib.Core.Path.{◌≡◌, refl, sym, ap, ◌∙◌}
use mathlib.Core.Bool.{Bool, true, false}
use mathlib.Core.List.{List, [], ◌∷◌, ◌++◌, append-nil, append_assoc}
use native.Mathlib.Numerals.{add-one}
use native.Mathlib.Omega.{arith}
use borrow.Author.Tests.{lt-ltb, le-ltb, ltb-true, ltb-false, ne_eqb}
use lib.Dec.{ltb, eqb}
use lib.ListN.{length, take, set, length-set}
use lib.Seq.{take-suc-set}
use Rattle.rules.specs.Base.{Rule, ◌⇒◌, every, null}
use Rattle.verdicts.specs.Collecting.{codes_of, no_codes, with_code, collected_from, collected}
use Rattle.verdicts.specs.declared.Codes.{Codes}

-- c with one code more
abbrev pub more : Codes → ℕ → Codes
more c code = record { list = set c.list c.count code; count = c.count + 1 }

-- 1. One code.
pub with_not : (c : Codes) (code : ℕ) → with_code c false code ≡ c
unfolding with_code
with_not c code = refl

pub with_one : (c : Codes) (code : ℕ) → c.count < 6 → with_code c true code ≡ more c code
unfolding with_code
with_one c code h = rw (lt-ltb c.count 6 h)

pub with_full : (c : Codes) (code : ℕ) → 6 ≤ c.count → with_code c true code ≡ c
unfolding with_code
with_full c code h = rw (le-ltb c.count 6 h)

-- one step of a row: r is what `with` gave of d and b, which are c and a
pub then : (code : ℕ) {c d r : Codes} {a b : Bool} → d ≡ c → r ≡ with_code d b code → b ≡ a → r ≡ with_code c a code
then code p q e = cc

-- codes stand within their array
pub record Held (c : Codes) : Type 0 where
  pub room : length c.list ≡ 6
  pub fits : c.count ≤ 6

more_codes : (c : Codes) (code : ℕ) → c.count < length c.list → codes_of (more c code) ≡ codes_of c ++ code ∷ []
more_codes c code h = rw add-one (take-suc-set c.list c.count code h)

more_held : {c : Codes} (code : ℕ) → Held c → c.count < 6 → Held (more c code)
more_held {c} code k h = record { room = length-set c.list c.count code ∙ k.room; fits = omega arith }

with_held : (c : Codes) (applies : Bool) (code : ℕ) → Held c → Held (with_code c applies code)
with_held c false code k = rw (with_not c code) k
with_held c true code k = go (ltb c.count 6) refl
  where
    go : (q : Bool) → ltb c.count 6 ≡ q → Held (with_code c true code)
    go true e = let h = ltb-true c.count 6 e in rw (with_one c code h) (more_held code k h)
    go false e = let h = ltb-false c.count 6 e in rw (with_full c code h) k

-- 2. A row of rules.
held_from : (rs : List Rule) (c : Codes) → Held c → Held (collected_from c rs)
unfolding collected_from
held_from [] c k = k
held_from ((applies ⇒ code) ∷ rs) c k = held_from rs (with_code c applies code) (with_held c applies code k)

pub collected_held : (rs : List Rule) → Held (collected rs)
unfolding collected no_codes
collected_held rs = held_from rs no_codes (record { room = refl; fits = omega arith })

codes_from : (rs : List Rule) (c : Codes) → Held c → c.count + length rs ≤ 6 → codes_of (collected_from c rs) ≡ codes_of c ++ every rs
unfolding collected_from every
codes_from [] c k h = sym (append-nil (codes_of c))
codes_from ((false ⇒ code) ∷ rs) c k h =
    ap (λ (d : Codes). codes_of (collected_from d rs)) (with_not c code) ∙ codes_from rs c k (omega arith)
codes_from ((true ⇒ code) ∷ rs) c k h =
    ap (λ (d : Codes). codes_of (collected_from d rs)) (with_one c code (omega arith))
    ∙ codes_from rs (more c code) (more_held code k (omega arith)) (omega arith)
    ∙ ap (λ (l : List ℕ). l ++ every rs) (more_codes c code (omega (arith, k.room)))
    ∙ append_assoc (codes_of c) (code ∷ []) (every rs)

-- the codes that up to six rules give
pub collected_codes : (rs : List Rule) → length rs ≤ 6 → codes_of (collected rs) ≡ every rs
unfolding collected no_codes
collected_codes rs h = codes_from rs no_codes (record { room = refl; fits = omega arith }) (omega arith)

-- 3. No code.
pub empty_by_count : (c : Codes) → length c.list ≡ 6 → eqb c.count 0 ≡ null (codes_of c)
empty_by_count c h = go c.count c.list h
  where
    go : (n : ℕ) (l : List ℕ) → length l ≡ 6 → eqb n 0 ≡ null (take n l)
    go zero l h = refl
    go (suc n) [] h = absurd (omega arith)
    go (suc n) (x ∷ l) h = ne_eqb (suc n) 0 (λ e. omega arith)
