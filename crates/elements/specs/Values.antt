-- The code of an element: by its bytes alone, and by its row where all of them are valid.
use Rattle.std.specs.Prelude.{ℕ, Bool, true, false, not, ◌&&◌, ◌||◌, [], ◌∷◌, nat_lt, if◌then◌else◌}
use Rattle.rules.specs.Base.{Bytes, ◌⇒◌, first, null, all, between, is_digit, member}
use Rattle.rules.specs.Cutting.{valid}
use Rattle.rules.specs.Elements.{is_n0, is_dt, is_tm, unsigned, value_length, repeats}
use Rattle.rules.specs.Numbers.{is_date, is_time}
use Rattle.rules.specs.Tables.{Row}
use Rattle.rules.specs.declared.Delimiters.{Delimiters}
use Rattle.rules.specs.declared.Kind.{Kind}
use Rattle.rules.specs.declared.Kind.TheVariants.{AN, ID, N0, DT, TM}

-- outside the code values, where there are any
abbrev pub unlisted : Row → Bytes → Bool
unlisted r e = not (null r.codes) && not (member e r.codes)

-- of a number: digits after an optional minus
abbrev pub spelled_as : Kind → Bytes → Bool
spelled_as k e = not (is_n0 k) || all is_digit (unsigned e)

-- the code of the type's own rule
abbrev pub rule_code : Kind → Bytes → ℕ
rule_code k e = first ((is_dt k && not (is_date e) ⇒ 8) ∷ (is_tm k && not (is_time e) ⇒ 9) ∷ [])

-- the code of a value of valid bytes that is not empty
unfoldable pub value_code : Row → Bytes → ℕ
value_code r e =
    if spelled_as r.kind e
    then (if nat_lt (value_length r.kind e) r.shortest then 4
    else (if nat_lt r.longest (value_length r.kind e) then 5
    else (if unlisted r e then 7
    else rule_code r.kind e)))
    else 6

-- the code of an element by its bytes alone, 0 where all are valid
unfoldable pub byte_code : Delimiters → Bytes → ℕ
byte_code d e = first ((repeats d e ⇒ 12) ∷ (not (all (valid d) e) ⇒ 6) ∷ [])

-- the code of an element of valid bytes, by its row
unfoldable pub row_code : Row → Bytes → ℕ
row_code r e = if null e then first ((r.mandatory ⇒ 1) ∷ []) else value_code r e

-- types AN and ID have no rule of their own
abbrev pub is_text : Kind → Bool
is_text AN = true
is_text ID = true
is_text N0 = false
is_text DT = false
is_text TM = false

-- the row is a text without code values, and n is within its limits
unfoldable pub takes_length : Row → ℕ → Bool
takes_length r n = is_text r.kind && (null r.codes && between r.shortest r.longest n)
