-- Where the sets of a group stand in its bytes: the header, the trailer and the end of the set that starts at a place, and its ST02; and what
-- refusals 11 to 13 make of the sets from a place on.
use Rattle.std.specs.Prelude.{ℕ, ◌+◌, ◌≤◌, ◌≡◌, Bool, true, false, List, [], ◌∷◌, map, eqb, length, drop, get_or, if◌then◌else◌, Result, Ok, Err}
use Rattle.rules.specs.Base.{Bytes, first}
use Rattle.rules.specs.Cutting.{Segment, field, split, pieces, segments}
use Rattle.rules.specs.Sets.{is_st, is_se, sets_of, outside, inside}
use Rattle.rules.specs.Refusals.{set_rules}
use Rattle.rules.specs.Refused.{unless}
use Rattle.rules.specs.declared.Delimiters.{Delimiters}
use Rattle.rules.specs.declared.Refusal.{Refusal}
use Rattle.rules.specs.declared.Refusal.TheVariants.{NoSet, BadSetHeader}
use Rattle.text.specs.Text.{part}
use Rattle.envelope.specs.Places.{body_end}
use Rattle.sets.specs.declared.Role.{Role}
use Rattle.sets.specs.declared.Role.TheVariants.{Header, Trailer, Other}
use Rattle.sets.specs.declared.SetAt.{SetAt}

-- a set of n segments with its SE, and one without
abbrev pub closed_at : ℕ → ℕ → ℕ → ℕ → ℕ → SetAt
closed_at start header n trailer end = record { start = start; header = header; trailer = trailer; end = end; closed = true; segments = n }

abbrev pub unclosed_at : ℕ → ℕ → ℕ → ℕ → SetAt
unclosed_at start header n end = record { start = start; header = header; trailer = end; end = end; closed = false; segments = n }

-- SE, ST or another segment
unfoldable pub role_of : Segment → Role
role_of s = if is_se s then Trailer else (if is_st s then Header else Other)

-- the set whose header goes from start to header, which has n segments so far, and whose next pieces, cut by the separator e, start at the place at
unfoldable pub set_from : ℕ → ℕ → ℕ → ℕ → ℕ → List Bytes → SetAt
set_from e start header n at [] = unclosed_at start header n at
set_from e start header n at (p ∷ ps) =
    let r = set_from e start header (n + 1) (at + length p + 1) ps in
    if is_se (split e p) then closed_at start header (n + 1) at (at + length p + 1)
    else (if is_st (split e p) then unclosed_at start header n at else r)

-- the set whose header is the first piece, which starts at the place at
abbrev pub set_by : ℕ → ℕ → List Bytes → SetAt
set_by e at [] = unclosed_at at at 0 at
set_by e at (p ∷ ps) = set_from e at (at + length p) 1 (at + length p + 1) ps

-- the set that starts at the place at
unfoldable pub set_at : Delimiters → Bytes → ℕ → SetAt
set_at d body at = set_by d.element at (pieces d.terminator (drop at body))

-- ST02 of the header that starts at a place, nothing past the end
unfoldable pub control_at : Delimiters → Bytes → ℕ → Bytes
control_at d body at = field (get_or (segments d (drop at body)) 0 []) 2

unfoldable pub controls_at : Delimiters → Bytes → List ℕ → List Bytes
controls_at d body = map (control_at d body)

-- the segments from a place on, up to the first of the envelope
abbrev pub body_from : Delimiters → Bytes → ℕ → List Segment
body_from d i at = segments d (part i at (body_end d i at))

-- the refusal of the body that starts at a place, by 11 to 13, or where the body ends
unfoldable pub sets_checked : Delimiters → Bytes → ℕ → Result ℕ Refusal
sets_checked d i at = unless (first (set_rules d (body_from d i at))) (body_end d i at)

-- the same for a body from one place to another, where no segment is outside every set; good where every header can be answered
abbrev pub sets_between : ℕ → ℕ → Bool → Result ℕ Refusal
sets_between at end good = if eqb end at then Err NoSet else (if good then Ok end else Err BadSetHeader)

-- one of the segments is outside every set, where at the first of them a set is open, or none is
abbrev pub strayed : Bool → List Segment → Bool
strayed is_open ss = if is_open then inside ss else outside ss

-- A way through an open set, from one place to another, where it is open still or no more. What is left of the body at both has the same end
-- and the same sets, and has a segment outside every set at both or at neither.
pub record ThroughSet (d : Delimiters) (i : Bytes) (at : ℕ) (is_open : Bool) (to : ℕ) : Type 0 where
  pub onward : at ≤ to
  pub ends : body_end d i at ≡ body_end d i to
  pub sets : sets_of (body_from d i at) ≡ sets_of (body_from d i to)
  pub strays : inside (body_from d i at) ≡ strayed is_open (body_from d i to)
