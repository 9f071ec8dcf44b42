-- "Verdicts", the sets: their cutting, and what is reported of each (AK2 to AK5).
use Rattle.std.specs.Prelude.{ℕ, Bool, false, ◌||◌, not, List, [], ◌∷◌, ◌++◌, length, if◌then◌else◌, option_to_list, is_none, Option, None, Some}
use Rattle.rules.specs.Base.{Bytes, ◌⇒◌, every, null, holds, ascii, same, member}
use Rattle.rules.specs.Cutting.{Segment, field, is_named}
use Rattle.rules.specs.Numbers.{count_in, declares}
use Rattle.rules.specs.Tables.{Table}
use Rattle.rules.specs.Segments.{Note, notes_of}
use Rattle.rules.specs.declared.Delimiters.{Delimiters}

-- a set: its ST, what lies between, and its SE where it has one
pub record Set : Type 0 where
  pub header : Segment
  pub body : List Segment
  pub trailer : Option Segment

abbrev pub is_st : Segment → Bool
is_st = is_named (ascii "ST")

abbrev pub is_se : Segment → Bool
is_se = is_named (ascii "SE")

-- the segments before the next ST or SE
unfoldable pub body_of : List Segment → List Segment
body_of [] = []
body_of (s ∷ ss) = let r = body_of ss in if is_st s || is_se s then [] else s ∷ r

-- the SE, where it comes before the next ST
unfoldable pub trailer_of : List Segment → Option Segment
trailer_of [] = None
trailer_of (s ∷ ss) = let r = trailer_of ss in if is_se s then Some s else (if is_st s then None else r)

-- the sets of a group: one for each ST
unfoldable pub sets_of : List Segment → List Set
sets_of [] = []
sets_of (s ∷ ss) =
    let r = sets_of ss in
    if is_st s then record { header = s; body = body_of ss; trailer = trailer_of ss } ∷ r else r

unfoldable mutual
  -- a segment lies outside every set, where no set is open: the first, unless it is ST, or a later one
  pub outside : List Segment → Bool
  outside [] = false
  outside (s ∷ ss) = not (is_st s) || inside ss

  -- the same where a set is open, which SE closes
  pub inside : List Segment → Bool
  inside [] = false
  inside (s ∷ ss) =
      let after = outside ss in
      let on = inside ss in
      if is_se s then after else on

-- from ST to SE
abbrev pub segments_of : Set → List Segment
segments_of s = s.header ∷ (s.body ++ option_to_list s.trailer)

-- ST02
abbrev pub control_of : Set → Bytes
control_of s = field s.header 2

-- what is reported of a set; declared is SE01's value, where it is a count
pub record SetReport : Type 0 where
  pub st01 : Bytes
  pub st02 : Bytes
  pub notes : List Note
  pub codes : List ℕ
  pub declared : Option ℕ
  pub counted : ℕ

-- a set that is not supported has no table, and no AK3
abbrev pub notes_in : Delimiters → Option Table → Set → List Note
notes_in d None s = []
notes_in d (Some t) s = notes_of d t (not (is_none s.trailer)) s.header (s.body ++ option_to_list s.trailer)

-- the codes of AK5; earlier are the ST02 of the sets before it
unfoldable pub set_codes : Option Table → List Note → List Bytes → Set → List ℕ
set_codes t notes earlier s = every (
    (is_none t ⇒ 1) ∷
    (is_none s.trailer ⇒ 2) ∷
    (holds (λ se. not (same (field se 2) (control_of s))) s.trailer ⇒ 3) ∷
    (holds (λ se. not (declares 10 (field se 1) (length (segments_of s)))) s.trailer ⇒ 4) ∷
    (not (null notes) ⇒ 5) ∷
    (member (control_of s) earlier ⇒ 23) ∷
    [])

-- the count that a trailer declares in at most hi digits
abbrev pub declared_in : ℕ → Option Segment → Option ℕ
declared_in hi None = None
declared_in hi (Some s) = count_in hi (field s 1)

unfoldable pub set_report : Delimiters → Option Table → List Bytes → Set → SetReport
set_report d t earlier s =
    let notes = notes_in d t s in
    record {
      st01 = field s.header 1;
      st02 = control_of s;
      notes = notes;
      codes = set_codes t notes earlier s;
      declared = declared_in 10 s.trailer;
      counted = length (segments_of s);
    }

-- a set is accepted where it has no code
abbrev pub accepted : SetReport → Bool
accepted r = null r.codes
