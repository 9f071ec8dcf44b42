-- "Verdicts", the group: its parts, and what is reported of it (AK1 and AK9).
use Rattle.std.specs.Prelude.{ℕ, Bool, ◌||◌, not, List, [], ◌∷◌, map, eqb, length, take, drop, get_or, if◌then◌else◌, is_none, unwrap_or, Option, None, Some}
use Rattle.rules.specs.Base.{Bytes, ◌⇒◌, every, null, holds, ascii, same, member, keep, push, front, last}
use Rattle.rules.specs.Cutting.{Segment, field, is_named}
use Rattle.rules.specs.Numbers.{declares}
use Rattle.rules.specs.Tables.{Table, edition_table, set_table}
use Rattle.rules.specs.Sets.{Set, sets_of, control_of, declared_in, SetReport, set_report, accepted}
use Rattle.rules.specs.declared.Delimiters.{Delimiters}

-- a group: GS, the segments of the group, and GE where it has one
pub record Group : Type 0 where
  pub header : Segment
  pub body : List Segment
  pub trailer : Option Segment

abbrev pub is_ge : Segment → Bool
is_ge = is_named (ascii "GE")

-- GS and what follows it, of which the last may be GE
unfoldable pub group_with : Segment → List Segment → Group
group_with gs inner =
    if is_ge (last [] inner) then record { header = gs; body = front inner; trailer = Some (last [] inner) }
    else record { header = gs; body = inner; trailer = None }

-- segments cut after each GE; those after the last GE are a piece too
unfoldable pub cut_after_ge : List Segment → List (List Segment)
cut_after_ge [] = []
cut_after_ge (s ∷ ss) = let r = cut_after_ge ss in if is_ge s then (s ∷ []) ∷ r else push s r

-- the groups of an interchange: the pieces between its first segment, ISA, and its last, IEA; check 7 asks of each whether it is a whole group
unfoldable pub groups_of : List Segment → List Group
groups_of ss = map (λ piece. group_with (get_or piece 0 []) (drop 1 piece)) (cut_after_ge (front (drop 1 ss)))

abbrev pub sets : Group → List Set
sets g = sets_of g.body

-- GS01 is supported
abbrev pub supported : Segment → Bool
supported gs = member (field gs 1) (ascii "GF" ∷ ascii "SM" ∷ [])

-- the edition: the first six bytes of GS08
abbrev pub edition : Segment → Bytes
edition gs = take 6 (field gs 8)

-- the table of a set in a group with this GS
unfoldable pub table_in : Segment → Set → Option Table
table_in gs s = if supported gs then set_table (edition gs) (field s.header 1) else None

-- the reports of sets, each by its table; earlier are the ST02 of those before
unfoldable pub set_reports : Delimiters → (Set → Option Table) → List Bytes → List Set → List SetReport
set_reports d table earlier [] = []
set_reports d table earlier (s ∷ ss) =
    set_report d (table s) earlier s ∷ set_reports d table (control_of s ∷ earlier) ss

-- the codes of AK9
unfoldable pub group_codes : Group → List ℕ
group_codes g = every (
    (not (supported g.header) ⇒ 1) ∷
    (is_none (edition_table (edition g.header)) ⇒ 2) ∷
    (is_none g.trailer ⇒ 3) ∷
    (holds (λ ge. not (same (field ge 2) (field g.header 6))) g.trailer ⇒ 4) ∷
    (holds (λ ge. not (declares 6 (field ge 1) (length (sets g)))) g.trailer ⇒ 5) ∷
    [])

-- AK901, by the codes and the numbers of sets received and accepted
abbrev pub verdict : List ℕ → ℕ → ℕ → Bytes
verdict codes received ok =
    if not (null codes) || eqb ok 0 then ascii "R" else (if eqb ok received then ascii "A" else ascii "P")

-- what is reported of a group; included, received and allowed are AK902 to AK904
pub record GroupReport : Type 0 where
  pub gs01 : Bytes
  pub gs06 : Bytes
  pub gs08 : Bytes
  pub verdict : Bytes
  pub included : ℕ
  pub received : ℕ
  pub allowed : ℕ
  pub codes : List ℕ
  pub sets : List SetReport

-- the number of sets accepted
abbrev pub accepted_in : List SetReport → ℕ
accepted_in rs = length (keep accepted rs)

unfoldable pub group_report : Delimiters → Group → GroupReport
group_report d g =
    let gs = g.header in
    let rs = set_reports d (table_in gs) [] (sets g) in
    let codes = group_codes g in
    let v = verdict codes (length rs) (accepted_in rs) in
    record {
      gs01 = field gs 1;
      gs06 = field gs 6;
      gs08 = field gs 8;
      verdict = v;
      included = unwrap_or (declared_in 6 g.trailer) (length (sets g));
      received = length (sets g);
      allowed = if same v (ascii "R") then 0 else accepted_in rs;
      codes = codes;
      sets = rs;
    }
