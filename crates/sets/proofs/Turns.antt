-- What one turn of the search for a set's end does, and the number of a header.
use Rattle.std.specs.Prelude.{if◌then◌else◌}
use mathlib.Core.Path.{◌≡◌, refl, ◌∙◌}
use mathlib.Core.Bool.{Bool, true, false}
use mathlib.Core.List.{List, ◌∷◌}
use Prim.Native.Nat.{ℕ, ◌+◌, ◌-◌, ◌<◌, ◌≤◌}
use native.Mathlib.Omega.{arith}
use borrow.Author.Tests.{ltb-true, ltb-false}
use lib.Dec.{ltb}
use lib.ListN.{length, take, drop, length-drop, drop_of_length-le}
use lib.Seq.{length-take-le, take-nil}
use Rattle.rules.specs.Base.{Bytes}
use Rattle.rules.specs.Cutting.{field, split, pieces}
use Rattle.rules.specs.Sets.{is_st, is_se}
use Rattle.rules.specs.declared.Delimiters.{Delimiters}
use Rattle.text.specs.Text.{index_of}
use Rattle.text.proofs.Search.{find_end}
use Rattle.segments.proofs.Pieces.{pieces_at, pieces_none, segments_at, segments_none}
use Rattle.sets.specs.Places.{closed_at, unclosed_at, role_of, set_from, set_at, control_at}
use Rattle.sets.specs.declared.Role.{Role}
use Rattle.sets.specs.declared.Role.TheVariants.{Header, Trailer, Other}
use Rattle.sets.specs.declared.SetAt.{SetAt}

from_cons : (e start header n at : ℕ) (p : Bytes) (ps : List Bytes) → set_from e start header n at (p ∷ ps)
    ≡ (if is_se (split e p) then closed_at start header (n + 1) at (at + length p + 1)
    else (if is_st (split e p) then unclosed_at start header n at else set_from e start header (n + 1) (at + length p + 1) ps))
unfolding set_from
from_cons e start header n at p ps = refl

-- what a trailer, a header and another segment lead to
abbrev pub by_role : SetAt → SetAt → SetAt → Role → SetAt
by_role a b c Trailer = a
by_role a b c Header = b
by_role a b c Other = c

by_names : (se st : Bool) (a b c : SetAt)
    → (if se then a else (if st then b else c)) ≡ by_role a b c (if se then Trailer else (if st then Header else Other))
by_names true st a b c = refl
by_names false true a b c = refl
by_names false false a b c = refl

-- 1. The segment at a place, with the end that `find` gave.
module _ (t : ℕ) (s : Bytes) (at end : ℕ) (h : at < length s) (q : end ≡ at + index_of t (drop at s)) where
  piece_end : at + length (take (end - at) (drop at s)) ≡ end
  piece_end =
      let within = find_end t s at end q h in
      omega (arith, length-take-le (end - at) (drop at s) (omega (arith, length-drop at s)))

  -- it comes after a header
  pub set_goes : (e start header n : ℕ) (se st : Bool)
      → is_se (split e (take (end - at) (drop at s))) ≡ se → is_st (split e (take (end - at) (drop at s))) ≡ st
      → set_from e start header n at (pieces t (drop at s))
      ≡ (if se then closed_at start header (n + 1) at (end + 1)
      else (if st then unclosed_at start header n at else set_from e start header (n + 1) (end + 1) (pieces t (drop (end + 1) s))))
  set_goes e start header n se st p g = rw (pieces_at t s at end h q, from_cons, p, g, piece_end)

  -- the same by its role
  pub set_turn : (e start header n : ℕ) (r : Role) → r ≡ role_of (split e (take (end - at) (drop at s)))
      → set_from e start header n at (pieces t (drop at s))
      ≡ by_role (closed_at start header (n + 1) at (end + 1)) (unclosed_at start header n at) (set_from e start header (n + 1) (end + 1) (pieces t (drop (end + 1) s))) r
  unfolding role_of
  set_turn e start header n r p =
      let here = split e (take (end - at) (drop at s)) in
      set_goes e start header n (is_se here) (is_st here) refl refl ∙ rw p (by_names (is_se here) (is_st here) _ _ _)

pub set_ends : (t : ℕ) (s : Bytes) (at : ℕ) → length s ≤ at → (e start header n : ℕ) → set_from e start header n at (pieces t (drop at s)) ≡ unclosed_at start header n at
unfolding set_from
set_ends t s at h e start header n = rw (pieces_none t s at h)

-- it is a header
pub set_opens : (d : Delimiters) (s : Bytes) (at end : ℕ) → at < length s → end ≡ at + index_of d.terminator (drop at s)
    → set_at d s at ≡ set_from d.element at end 1 (end + 1) (pieces d.terminator (drop (end + 1) s))
unfolding set_at
set_opens d s at end h q = rw (pieces_at d.terminator s at end h q, piece_end d.terminator s at end h q)

pub set_none : (d : Delimiters) (s : Bytes) (at : ℕ) → length s ≤ at → set_at d s at ≡ unclosed_at at at 0 at
unfolding set_at
set_none d s at h = rw (pieces_none d.terminator s at h)

-- 2. The number of the header at a place: past the end there is no field.
pub control_is : (d : Delimiters) (s : Bytes) (at end : ℕ) → end ≡ at + index_of d.terminator (drop at s)
    → control_at d s at ≡ field (split d.element (take (end - at) (drop at s))) 2
unfolding control_at split
control_is d s at end q = go (ltb at (length s)) refl
  where
    go : (c : Bool) → ltb at (length s) ≡ c → control_at d s at ≡ field (split d.element (take (end - at) (drop at s))) 2
    go true c = rw (segments_at d s at end (ltb-true at (length s) c) q)
    go false c =
        let past = ltb-false at (length s) c in
        rw (segments_none d s at past, drop_of_length-le s {i = at} past, take-nil (end - at))
