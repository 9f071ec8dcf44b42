-- Codes as a value, and how they are collected from a row of rules.
use Rattle.std.specs.Prelude.{ℕ, ◌+◌, Bool, ◌&&◌, List, [], ◌∷◌, ltb, take, set, if◌then◌else◌}
use Rattle.rules.specs.Base.{Rule, ◌⇒◌}
use Rattle.verdicts.specs.declared.Codes.{Codes}

-- the codes that a value stands for
abbrev pub codes_of : Codes → List ℕ
codes_of c = take c.count c.list

unfoldable pub no_codes : Codes
no_codes = record { list = 0 ∷ 0 ∷ 0 ∷ 0 ∷ 0 ∷ 0 ∷ []; count = 0 }

-- one more where it applies and fits
unfoldable pub with_code : Codes → Bool → ℕ → Codes
with_code c applies code =
    if applies && ltb c.count 6 then record { list = set c.list c.count code; count = c.count + 1 } else c

-- the codes c, then those of the rules that apply, as far as they fit
unfoldable pub collected_from : Codes → List Rule → Codes
collected_from c [] = c
collected_from c ((applies ⇒ code) ∷ rs) = collected_from (with_code c applies code) rs

unfoldable pub collected : List Rule → Codes
collected = collected_from no_codes
