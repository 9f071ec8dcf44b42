-- The envelope over segments alone: what check 7 asks of the segments from a place on where a group is due, group by group.
use Rattle.std.specs.Prelude.{if◌then◌else◌, None, Some}
use mathlib.Core.Path.{◌≡◌, refl, sym, ap, ◌∙◌}
use mathlib.Core.Bool.{Bool, true, false, ◌&&◌, not, false≢true, and-false, and-true}
use mathlib.Core.List.{List, [], ◌∷◌, ◌++◌, map, append-nil}
use Prim.Native.Nat.{ℕ, zero, suc}
use borrow.Author.Tests.{not-true}
use lib.Dec.{leb, leb-zero, leb-suc-zero, leb-suc-suc}
use lib.ListN.{length, drop, get_or}
use Rattle.rules.specs.Base.{Bytes, ascii, same, null, all, any, front, last, push}
use Rattle.rules.specs.Cutting.{Segment, field, is_named}
use Rattle.rules.specs.Groups.{Group, group_with, cut_after_ge, groups_of, is_ge}
use Rattle.rules.specs.Refusals.{is_envelope, is_whole_group, enveloped}
use Rattle.rules.proofs.Logic.{same→eq, all_head, all_tail, all_cons, all_weaken, front_snoc, last_snoc, last_all}
use Rattle.rules.proofs.SetLaws.{is_outer}
use Rattle.rules.proofs.GroupLaws.{is_open, group_from, outer_other, outer_open, cut_closed, cut_open, group_closed, group_open}

abbrev pub is_gs : Segment → Bool
is_gs = is_named (ascii "GS")

abbrev pub is_iea : Segment → Bool
is_iea = is_named (ascii "IEA")

-- the groups of the segments from a place on; the last segment is IEA's
abbrev pub groups_from : List Segment → List Group
groups_from ss = map group_from (cut_after_ge (front ss))

-- check 7, of the segments from a place on: IEA is the last, and before it stand at most so many whole groups
abbrev pub closes : ℕ → List Segment → Bool
closes limit ss = is_iea (last [] ss) && leb (length (groups_from ss)) limit && all is_whole_group (groups_from ss)

-- 1. Names that shut each other out, and lists that are put together.
other : (a b : Bytes) (s : Segment) → same a b ≡ false → is_named a s ≡ true → is_named b s ≡ false
other a b s n p = rw (same→eq (field s 0) a p) n

pub iea_gs : (s : Segment) → is_iea s ≡ true → is_gs s ≡ false
unfolding same
iea_gs s p = other (ascii "IEA") (ascii "GS") s refl p

gs_iea : (s : Segment) → is_gs s ≡ true → is_iea s ≡ false
unfolding same
gs_iea s p = other (ascii "GS") (ascii "IEA") s refl p

gs_open : (s : Segment) → is_gs s ≡ true → is_open s ≡ true
unfolding same
gs_open s p = rw (other (ascii "GS") (ascii "GE") s refl p)

outer_iea : (s : Segment) → is_outer s ≡ true → not (is_iea s) ≡ true
unfolding same any
outer_iea s o = rw (outer_other (ascii "IEA") s refl o)

front_append : {A : Type 0} (xs : List A) (y : A) (ys : List A) → front (xs ++ y ∷ ys) ≡ xs ++ front (y ∷ ys)
unfolding front
front_append [] y ys = refl
front_append (x ∷ []) y ys = refl
front_append (x ∷ (z ∷ zs)) y ys = ap (λ (l : List _). x ∷ l) (front_append (z ∷ zs) y ys)

pub last_append : {A : Type 0} (d : A) (xs : List A) (y : A) (ys : List A) → last d (xs ++ y ∷ ys) ≡ last y ys
unfolding last
last_append d [] y ys = refl
last_append d (x ∷ xs) y ys = last_append x xs y ys

all_broken : {A : Type 0} (p : A → Bool) (xs : List A) (y : A) (ys : List A) → p y ≡ false → all p (xs ++ y ∷ ys) ≡ false
unfolding all
all_broken p [] y ys e = rw e
all_broken p (x ∷ xs) y ys e = rw (all_broken p xs y ys e, and-false)

-- 2. The first piece starts with the first segment, and holds those before its first GE.
data FirstPiece (xs : List Segment) (y : Segment) : List (List Segment) → Type 0 where
  piece : (p : List Segment) (ps : List (List Segment)) → FirstPiece xs y ((xs ++ y ∷ p) ∷ ps)

first_piece : (xs : List Segment) (y : Segment) (ys : List Segment) → all is_open xs ≡ true → FirstPiece xs y (cut_after_ge (xs ++ y ∷ ys))
unfolding cut_after_ge
first_piece [] y ys o = go (is_ge y) (cut_after_ge ys)
  where
    go : (b : Bool) (r : List (List Segment)) → FirstPiece [] y (if b then (y ∷ []) ∷ r else push y r)
    go true r = piece [] r
    go false [] = piece [] []
    go false (p ∷ ps) = piece p ps
first_piece (x ∷ xs) y ys o =
    rw (not-true (is_ge x) (all_head is_open x xs o)) (go (first_piece xs y ys (all_tail is_open x xs o)))
  where
    go : {r : List (List Segment)} → FirstPiece xs y r → FirstPiece (x ∷ xs) y (push x r)
    go (piece p ps) = piece p ps

-- the group of a piece has its first segment as header
header_of : (x : Segment) (xs : List Segment) → (group_with x xs).header ≡ x
unfolding group_with
header_of x xs = go (is_ge (last [] xs)) refl
  where
    go : (b : Bool) → is_ge (last [] xs) ≡ b → (group_with x xs).header ≡ x
    go true p = rw p
    go false p = rw p

-- 3. No group starts here: it is IEA that stands here, alone.
none_whole : (y : Segment) {r : List (List Segment)} → is_gs y ≡ false → FirstPiece [] y r → all is_whole_group (map group_from r) ≡ false
unfolding all
none_whole y g (piece p ps) = rw (header_of y p, g)

pub none_closes : (limit : ℕ) (ss : List Segment) → is_gs (get_or ss 0 []) ≡ false → closes limit ss ≡ is_iea (get_or ss 0 []) && null (drop 1 ss)
unfolding last front same cut_after_ge all
none_closes limit [] g = refl
none_closes limit (y ∷ []) g = rw (leb-zero limit, and-true)
none_closes limit (y ∷ (z ∷ zs)) g =
    rw (none_whole y g (first_piece [] y (front (z ∷ zs)) refl), and-false) (sym (and-false (is_iea y)))

-- 4. A group starts here.
full_by : (gs : Segment) {r : List (List Segment)} → FirstPiece [] gs r → leb (length (map group_from r)) zero ≡ false
full_by gs (piece p ps) = leb-suc-zero (length (map group_from ps))

-- none may
pub full_closes : (gs : Segment) (ss : List Segment) → is_gs gs ≡ true → closes 0 (gs ∷ ss) ≡ false
unfolding last front all
full_closes gs [] g = rw (gs_iea gs g)
full_closes gs (z ∷ zs) g = rw (full_by gs (first_piece [] gs (front (z ∷ zs)) refl), and-false)

module _ (gs : Segment) (xs : List Segment) (g : is_gs gs ≡ true) (o : all is_outer xs ≡ true) where
  opens : all is_open (gs ∷ xs) ≡ true
  opens = all_cons is_open gs xs (gs_open gs g) (all_weaken is_outer is_open outer_open xs o)

  -- with its GE: it is one group, and those after it decide
  module _ (ge : Segment) (e : is_ge ge ≡ true) where
    pub closed_groups : (z : Segment) (zs : List Segment)
        → groups_from (gs ∷ (xs ++ ge ∷ (z ∷ zs))) ≡ record { header = gs; body = xs; trailer = Some ge } ∷ groups_from (z ∷ zs)
    unfolding front
    closed_groups z zs =
        rw (front_append (gs ∷ xs) ge (z ∷ zs), cut_closed (gs ∷ xs) ge (front (z ∷ zs)) opens e, group_closed gs xs ge e)

    pub closed_closes : (limit : ℕ) (rest : List Segment) → closes (suc limit) (gs ∷ (xs ++ ge ∷ rest)) ≡ closes limit rest
    unfolding same all last
    closed_closes limit [] = rw (last_append gs xs ge [], other (ascii "GE") (ascii "IEA") ge refl e)
    closed_closes limit (z ∷ zs) =
        rw (last_append gs xs ge (z ∷ zs), closed_groups z zs, leb-suc-suc (length (groups_from (z ∷ zs))) limit, g, o)

  -- without: IEA has to follow, alone
  module _ (y : Segment) (env : is_envelope y ≡ true) (e : is_ge y ≡ false) where
    -- it stands in the piece, and is no segment of a group
    kept : (p : List Segment) → all is_outer (group_with gs (xs ++ y ∷ p)).body ≡ false
    unfolding group_with last front
    kept [] = rw (last_snoc [] xs y, e) (all_broken is_outer xs y [] (rw env))
    kept (q ∷ qs) = go (is_ge (last q qs)) refl
      where
        go : (b : Bool) → is_ge (last q qs) ≡ b → all is_outer (group_with gs (xs ++ y ∷ (q ∷ qs))).body ≡ false
        go true p = rw (last_append [] xs y (q ∷ qs), p, front_append xs y (q ∷ qs)) (all_broken is_outer xs y (front (q ∷ qs)) (rw env))
        go false p = rw (last_append [] xs y (q ∷ qs), p) (all_broken is_outer xs y (q ∷ qs) (rw env))

    open_whole : {r : List (List Segment)} → FirstPiece (gs ∷ xs) y r → all is_whole_group (map group_from r) ≡ false
    unfolding all
    open_whole (piece p ps) = rw (header_of gs (xs ++ y ∷ p), g, kept p)

  pub open_groups : (y : Segment) → groups_from (gs ∷ (xs ++ y ∷ [])) ≡ record { header = gs; body = xs; trailer = None } ∷ []
  open_groups y =
      rw (front_snoc (gs ∷ xs) y, cut_open gs xs opens, group_open gs xs (all_weaken is_outer is_open outer_open xs o))

  pub open_closes : (limit : ℕ) (ys : List Segment) → (null ys ≡ false → is_envelope (get_or ys 0 []) ≡ true) → is_ge (get_or ys 0 []) ≡ false
      → closes (suc limit) (gs ∷ (xs ++ ys)) ≡ is_iea (get_or ys 0 []) && null (drop 1 ys)
  unfolding same all last front
  open_closes limit [] env e =
      rw (append-nil xs, not-true (is_iea (last gs xs)) (last_all (λ s. not (is_iea s)) gs xs (rw (gs_iea gs g)) (all_weaken is_outer (λ s. not (is_iea s)) outer_iea xs o)))
  open_closes limit (y ∷ []) env e =
      rw (last_snoc gs xs y, open_groups y, leb-suc-suc 0 limit, leb-zero limit, g, o, and-true)
  open_closes limit (y ∷ (z ∷ zs)) env e =
      rw (front_append (gs ∷ xs) y (z ∷ zs), open_whole y (env refl) e (first_piece (gs ∷ xs) y (front (z ∷ zs)) opens), and-false) (sym (and-false (is_iea y)))

-- 5. Check 7 of an interchange is that of its segments after the first, where the first group is due.
module _ (ss : List Segment) where
  pub enveloped_from : (limit : ℕ) → is_gs (get_or (drop 1 ss) 0 []) ≡ true → enveloped limit ss ≡ closes limit (drop 1 ss)
  unfolding enveloped groups_of same last front all
  enveloped_from limit g = go ss g
    where
      one : (gs : Segment) {r : List (List Segment)} → FirstPiece [] gs r → leb 1 (length (map group_from r)) ≡ true
      one gs (piece p ps) = leb-suc-suc 0 (length (map group_from ps)) ∙ leb-zero (length (map group_from ps))

      go : (ss : List Segment) → is_gs (get_or (drop 1 ss) 0 []) ≡ true → enveloped limit ss ≡ closes limit (drop 1 ss)
      go [] g = absurd (false≢true g)
      go (x ∷ []) g = absurd (false≢true g)
      go (x ∷ (gs ∷ [])) g = rw (gs_iea gs g)
      go (x ∷ (gs ∷ (z ∷ zs))) g = rw (one gs (first_piece [] gs (front (z ∷ zs)) refl))

  pub enveloped_none : (limit : ℕ) → is_gs (get_or (drop 1 ss) 0 []) ≡ false → enveloped limit ss ≡ false
  unfolding enveloped groups_of cut_after_ge same last front all
  enveloped_none limit g = go ss g
    where
      go : (ss : List Segment) → is_gs (get_or (drop 1 ss) 0 []) ≡ false → enveloped limit ss ≡ false
      go [] g = refl
      go (x ∷ []) g = rw and-false
      go (x ∷ (y ∷ [])) g = rw and-false
      go (x ∷ (y ∷ (z ∷ zs))) g = rw (none_whole y g (first_piece [] y (front (z ∷ zs)) refl), and-false)

  pub last_rest : is_gs (get_or (drop 1 ss) 0 []) ≡ true → last [] ss ≡ last [] (drop 1 ss)
  unfolding last same
  last_rest g = go ss g
    where
      go : (ss : List Segment) → is_gs (get_or (drop 1 ss) 0 []) ≡ true → last [] ss ≡ last [] (drop 1 ss)
      go [] g = refl
      go (x ∷ []) g = absurd (false≢true g)
      go (x ∷ (y ∷ ys)) g = refl
