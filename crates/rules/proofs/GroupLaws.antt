-- Laws of groups over segments alone: how segments are cut after GE, and the groups that the pieces make.
use mathlib.Core.Path.{◌≡◌, refl, sym, ap, ◌∙◌}
use mathlib.Core.Bool.{Bool, true, false, not, true≢false}
use mathlib.Core.List.{List, [], ◌∷◌, ◌++◌, map, append-nil}
use Rattle.std.specs.Prelude.{None, Some}
use borrow.Author.Tests.{not-true}
use lib.ListN.{drop, get_or}
use Rattle.rules.specs.Base.{Bytes, ascii, same, all, any, last}
use Rattle.rules.specs.Cutting.{Segment, field, is_named}
use Rattle.rules.specs.Groups.{Group, is_ge, group_with, cut_after_ge}
use Rattle.rules.specs.Refusals.{is_envelope}
use Rattle.rules.specs.Damage.{flat_groups}
use Rattle.rules.proofs.Logic.{same→eq, all_head, all_tail, all_cons, front_snoc, last_snoc, last_all}
use Rattle.rules.proofs.SetLaws.{is_outer}

-- a segment that does not close its group
abbrev pub is_open : Segment → Bool
is_open s = not (is_ge s)

-- a segment that is none of the envelope has none of its names
pub outer_other : (name : Bytes) (s : Segment) → is_envelope (name ∷ []) ≡ true → is_outer s ≡ true → is_named name s ≡ false
outer_other name s n o = go (is_named name s) refl
  where
    go : (b : Bool) → is_named name s ≡ b → b ≡ false
    go false q = refl
    go true q =
        absurd (true≢false (sym n ∙ ap (λ (id : Bytes). is_envelope (id ∷ [])) (sym (same→eq (field s 0) name q)) ∙ not-true (is_envelope s) o))

pub outer_open : (s : Segment) → is_outer s ≡ true → is_open s ≡ true
unfolding same any
outer_open s o = rw (outer_other (ascii "GE") s refl o)

-- the group that a piece makes
abbrev pub group_from : List Segment → Group
group_from piece = group_with (get_or piece 0 []) (drop 1 piece)

-- 1. Cutting after GE.
pub cut_closed : (xs : List Segment) (ge : Segment) (rest : List Segment) → all is_open xs ≡ true → is_ge ge ≡ true
    → cut_after_ge (xs ++ ge ∷ rest) ≡ (xs ++ ge ∷ []) ∷ cut_after_ge rest
unfolding cut_after_ge
cut_closed [] ge rest o e = rw e
cut_closed (x ∷ xs) ge rest o e = rw (not-true (is_ge x) (all_head is_open x xs o), cut_closed xs ge rest (all_tail is_open x xs o) e)

pub cut_open : (x : Segment) (xs : List Segment) → all is_open (x ∷ xs) ≡ true → cut_after_ge (x ∷ xs) ≡ (x ∷ xs) ∷ []
unfolding cut_after_ge
cut_open x [] o = rw (not-true (is_ge x) (all_head is_open x [] o))
cut_open x (y ∷ ys) o = rw (not-true (is_ge x) (all_head is_open x (y ∷ ys) o), cut_open y ys (all_tail is_open x (y ∷ ys) o))

-- 2. The group of a piece.
pub group_closed : (gs : Segment) (xs : List Segment) (ge : Segment) → is_ge ge ≡ true
    → group_with gs (xs ++ ge ∷ []) ≡ record { header = gs; body = xs; trailer = Some ge }
unfolding group_with
group_closed gs xs ge e = rw (last_snoc [] xs ge, e, front_snoc xs ge)

pub group_open : (gs : Segment) (xs : List Segment) → all is_open xs ≡ true → group_with gs xs ≡ record { header = gs; body = xs; trailer = None }
unfolding group_with same
group_open gs xs o = rw (not-true (is_ge (last [] xs)) (last_all is_open [] xs refl o))

-- 3. Groups one after the other are what is cut out of their segments.
-- No header and no segment of a body is GE, each trailer is GE, and only the last group may lack it.
pub data Chain : List Group → Type 0 where
  no_group : Chain []
  open_group : {gs : Segment} {xs : List Segment} → is_open gs ≡ true → all is_open xs ≡ true
      → Chain (record { header = gs; body = xs; trailer = None } ∷ [])
  closed_group : {gs ge : Segment} {xs : List Segment} {rest : List Group} → is_open gs ≡ true → all is_open xs ≡ true → is_ge ge ≡ true → Chain rest
      → Chain (record { header = gs; body = xs; trailer = Some ge } ∷ rest)

pub cut_groups : {gs : List Group} → Chain gs → map group_from (cut_after_ge (flat_groups gs)) ≡ gs
unfolding flat_groups cut_after_ge
cut_groups no_group = refl
cut_groups (open_group {gs} {xs} g o) =
    rw (append-nil xs, cut_open gs xs (all_cons is_open gs xs g o), group_open gs xs o)
cut_groups (closed_group {gs} {ge} {xs} {rest} g o e c) =
    rw (cut_closed (gs ∷ xs) ge (flat_groups rest) (all_cons is_open gs xs g o) e, group_closed gs xs ge e, cut_groups c)
