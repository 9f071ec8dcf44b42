-- The valid bytes as a table: one answer for each byte, in their order.
use Rattle.std.specs.Prelude.{ℕ, zero, suc, Bool, false, not, List, [], ◌∷◌, get_or}
use Rattle.rules.specs.Cutting.{valid}
use Rattle.rules.specs.declared.Delimiters.{Delimiters}

-- the answers for so many bytes from b on
unfoldable pub answers_from : Delimiters → ℕ → ℕ → List Bool
answers_from d b zero = []
answers_from d b (suc count) = valid d b ∷ answers_from d (suc b) count

-- the table of these delimiters
abbrev pub valid_bytes : Delimiters → List Bool
valid_bytes d = answers_from d 0 256

-- by a table, a byte is not valid
abbrev pub is_other : List Bool → ℕ → Bool
is_other table b = not (get_or table b false)
