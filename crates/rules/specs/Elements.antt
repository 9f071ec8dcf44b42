-- "Notes on elements (AK4)": the findings of a segment by its entry.
use Rattle.std.specs.Prelude.{ℕ, ◌+◌, Bool, true, false, ◌&&◌, ◌||◌, not, List, [], ◌∷◌, ◌++◌, map, ltb, eqb, length, take, if◌then◌else◌}
use Rattle.rules.specs.Base.{Bytes, ◌⇒◌, first, every, null, all, any, between, is_digit, member}
use Rattle.rules.specs.Cutting.{Segment, field, valid, separates_repetitions}
use Rattle.rules.specs.Numbers.{is_date, is_time}
use Rattle.rules.specs.Tables.{Row, Syntax, Entry}
use Rattle.rules.specs.declared.Delimiters.{Delimiters}
use Rattle.rules.specs.declared.Kind.{Kind}
use Rattle.rules.specs.declared.Kind.TheVariants.{AN, ID, N0, DT, TM}
use Rattle.rules.specs.declared.Relation.{Relation}
use Rattle.rules.specs.declared.Relation.TheVariants.{P, R, E, C, L}

-- 1. The code of an element's own value.
abbrev pub is_n0 : Kind → Bool
is_n0 N0 = true
is_n0 AN = false
is_n0 ID = false
is_n0 DT = false
is_n0 TM = false

abbrev pub is_dt : Kind → Bool
is_dt DT = true
is_dt AN = false
is_dt ID = false
is_dt N0 = false
is_dt TM = false

abbrev pub is_tm : Kind → Bool
is_tm TM = true
is_tm AN = false
is_tm ID = false
is_tm N0 = false
is_tm DT = false

-- without a leading minus
abbrev pub unsigned : Bytes → Bytes
unsigned [] = []
unsigned (b ∷ bs) = if eqb b 45 then bs else b ∷ bs

-- how long a value is: of a number its digits count
abbrev pub value_length : Kind → Bytes → ℕ
value_length k e = length (if is_n0 k then unsigned e else e)

-- the repetition separator stands in the value
abbrev pub repeats : Delimiters → Bytes → Bool
repeats d = any (separates_repetitions d)

-- all bytes are valid, and those of a number are digits after an optional minus
abbrev pub spelled : Delimiters → Kind → Bytes → Bool
spelled d k e = all (valid d) e && (not (is_n0 k) || all is_digit (unsigned e))

-- the code of one element by its row, 0 for none
unfoldable pub element_code : Delimiters → Row → Bytes → ℕ
element_code d r e =
    if null e then first ((r.mandatory ⇒ 1) ∷ [])
    else first (
    (repeats d e ⇒ 12) ∷
    (not (spelled d r.kind e) ⇒ 6) ∷
    (ltb (value_length r.kind e) r.shortest ⇒ 4) ∷
    (ltb r.longest (value_length r.kind e) ⇒ 5) ∷
    (not (null r.codes) && not (member e r.codes) ⇒ 7) ∷
    (is_dt r.kind && not (is_date e) ⇒ 8) ∷
    (is_tm r.kind && not (is_time e) ⇒ 9) ∷
    [])

-- 2. The syntax notes.
-- element n is not empty
abbrev pub present : Segment → ℕ → Bool
present s n = not (null (field s n))

abbrev pub is_place : ℕ → List ℕ → Bool
is_place n = any (eqb n)

-- the places after the first present one
unfoldable pub after_present : Segment → List ℕ → List ℕ
after_present s [] = []
after_present s (p ∷ ps) = let r = after_present s ps in if present s p then ps else r

-- a note asks for an element at place n, which is absent (code 2)
abbrev pub lacking : Segment → Relation → List ℕ → ℕ → Bool
lacking s P ps n = any (present s) ps && is_place n ps && not (present s n)
lacking s R [] n = false
lacking s R (p ∷ ps) n = eqb n p && not (any (present s) (p ∷ ps))
lacking s E ps n = false
lacking s C [] n = false
lacking s C (p ∷ ps) n = present s p && is_place n ps && not (present s n)
lacking s L [] n = false
lacking s L (p ∷ []) n = false
lacking s L (p ∷ (q ∷ ps)) n = eqb n q && present s p && not (any (present s) (q ∷ ps))

-- a note shuts out the element at place n, which is present (code 10)
abbrev pub excluded : Segment → Relation → List ℕ → ℕ → Bool
excluded s E ps n = is_place n (after_present s ps) && present s n
excluded s P ps n = false
excluded s R ps n = false
excluded s C ps n = false
excluded s L ps n = false

unfoldable pub lacks : List Syntax → Segment → ℕ → Bool
lacks notes s n = any (λ c. lacking s c.relation c.places n) notes

unfoldable pub shuts_out : List Syntax → Segment → ℕ → Bool
shuts_out notes s n = any (λ c. excluded s c.relation c.places n) notes

-- 3. The echo.
-- a code whose AK4 shows the value
abbrev pub shows_value : ℕ → Bool
shows_value c = any (eqb c) (4 ∷ 5 ∷ 7 ∷ 8 ∷ 9 ∷ 10 ∷ [])

-- a value with this code of its own is echoed under no code
abbrev pub is_withheld : ℕ → Bool
is_withheld own = any (eqb own) (6 ∷ 12 ∷ [])

-- a value with this code of its own is echoed under code c
abbrev pub is_echoed : ℕ → ℕ → Bool
is_echoed c own = shows_value c && not (is_withheld own)

-- the most bytes that an echo has
unfoldable pub longest_echo : ℕ
longest_echo = 99

-- what an AK4 with code c shows of the value e: its first bytes, or nothing
unfoldable pub echo_of : ℕ → ℕ → Bytes → Bytes
echo_of c own e = if is_echoed c own then take longest_echo e else []

-- 4. The findings.
-- one AK4: the place of an element, its reference number (0 for none), a code, and the echo of its value (empty for none)
pub record Finding : Type 0 where
  pub place : ℕ
  pub reference : ℕ
  pub code : ℕ
  pub echo : Bytes

-- the codes of place n, ascending, each once: the value's own code, 2 where a note lacks it, 10 where one shuts it out
unfoldable pub place_codes : Delimiters → List Syntax → Segment → Row → ℕ → List ℕ
place_codes d notes s r n =
    let own = element_code d r (field s n) in
    every (
    (eqb own 1 ⇒ 1) ∷
    (lacks notes s n ⇒ 2) ∷
    (between 4 9 own ⇒ own) ∷
    (shuts_out notes s n ⇒ 10) ∷
    (eqb own 12 ⇒ 12) ∷
    [])

-- the finding of code c at place n
abbrev pub found : Delimiters → Segment → Row → ℕ → ℕ → Finding
found d s r n c =
    let e = field s n in
    record { place = n; reference = r.reference; code = c; echo = echo_of c (element_code d r e) e }

-- the finding of an element beyond the rows, at the place after the last of them
abbrev pub surplus_at : ℕ → Finding
surplus_at n = record { place = n; reference = 0; code = 3; echo = [] }

-- the findings of the rows from place n on; where there are more elements than rows, code 3 at the place after the last
unfoldable pub findings_from : Delimiters → List Syntax → Segment → ℕ → List Row → List Finding
findings_from d notes s n [] = if ltb n (length s) then surplus_at n ∷ [] else []
findings_from d notes s n (r ∷ rs) = map (found d s r n) (place_codes d notes s r n) ++ findings_from d notes s (n + 1) rs

-- all findings of a segment by its entry, by place and then code
unfoldable pub findings : Delimiters → Entry → Segment → List Finding
findings d e s = findings_from d e.notes s 1 e.rows
