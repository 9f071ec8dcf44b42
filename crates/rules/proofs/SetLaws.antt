-- Laws of sets: a group without a segment outside its sets is its sets, one after the other, and its sets are what is cut out of it.
use mathlib.Core.Path.{◌≡◌, refl, ap}
use mathlib.Core.Bool.{Bool, true, false, ◌&&◌, not, true≢false}
use mathlib.Core.List.{List, [], ◌∷◌, ◌++◌, append-nil}
use Rattle.std.specs.Prelude.{Option, None, Some, option_to_list}
use borrow.Author.Tests.{not-true}
use Rattle.rules.specs.Base.{ascii, same, all, any}
use Rattle.rules.specs.Cutting.{Segment, field}
use Rattle.rules.specs.Sets.{Set, is_st, is_se, sets_of, body_of, trailer_of, outside, inside}
use Rattle.rules.specs.Refusals.{is_envelope}
use Rattle.rules.specs.Damage.{flat, is_inner}
use Rattle.rules.proofs.Logic.{and_left, and_right, all_head, all_tail, all_cons, all_append, all_weaken, same→eq}

-- 1. Names that shut each other out.
pub se_st : (s : Segment) → is_se s ≡ true → is_st s ≡ false
unfolding same
se_st s e = rw (same→eq (field s 0) (ascii "SE") e)

pub st_se : (s : Segment) → is_st s ≡ true → is_se s ≡ false
unfolding same
st_se s e = rw (same→eq (field s 0) (ascii "ST") e)

-- none of ISA, GS, GE and IEA
abbrev pub is_outer : Segment → Bool
is_outer s = not (is_envelope s)

pub outer_st : (s : Segment) → is_st s ≡ true → is_outer s ≡ true
unfolding same any
outer_st s e = rw (same→eq (field s 0) (ascii "ST") e)

pub outer_se : (s : Segment) → is_se s ≡ true → is_outer s ≡ true
unfolding same any
outer_se s e = rw (same→eq (field s 0) (ascii "SE") e)

module _ (s : Segment) (e : is_inner s ≡ true) where
  inner_outer : is_outer s ≡ true
  inner_outer = and_left (is_outer s) (not (is_st s) && not (is_se s)) e

  inner_st : is_st s ≡ false
  inner_st = not-true (is_st s) (and_left (not (is_st s)) (not (is_se s)) (and_right (is_outer s) (not (is_st s) && not (is_se s)) e))

  inner_se : is_se s ≡ false
  inner_se = not-true (is_se s) (and_right (not (is_st s)) (not (is_se s)) (and_right (is_outer s) (not (is_st s) && not (is_se s)) e))

-- 2. What a set is: ST, inner segments, and SE or nothing.
-- none, or one segment that passes
pub data Optional (p : Segment → Bool) : Option Segment → Type 0 where
  missing : Optional p None
  there : {s : Segment} → p s ≡ true → Optional p (Some s)

pub record WellCut (s : Set) : Type 0 where
  pub header : is_st s.header ≡ true
  pub body : all is_inner s.body ≡ true
  pub trailer : Optional is_se s.trailer

pub data Sets : List Set → Type 0 where
  no_set : Sets []
  more : {s : Set} {ss : List Set} → WellCut s → Sets ss → Sets (s ∷ ss)

-- 3. Sets one after the other are cut into these sets.
module _ (ys : List Segment) where
  body_append : (xs : List Segment) → all is_inner xs ≡ true → body_of (xs ++ ys) ≡ xs ++ body_of ys
  unfolding body_of
  body_append [] e = refl
  body_append (x ∷ xs) e =
      let i = all_head is_inner x xs e in
      rw (inner_st x i, inner_se x i, body_append xs (all_tail is_inner x xs e))

  trailer_append : (xs : List Segment) → all is_inner xs ≡ true → trailer_of (xs ++ ys) ≡ trailer_of ys
  unfolding trailer_of
  trailer_append [] e = refl
  trailer_append (x ∷ xs) e =
      let i = all_head is_inner x xs e in
      rw (inner_se x i, inner_st x i, trailer_append xs (all_tail is_inner x xs e))

  sets_append : (xs : List Segment) → all is_inner xs ≡ true → sets_of (xs ++ ys) ≡ sets_of ys
  unfolding sets_of
  sets_append [] e = refl
  sets_append (x ∷ xs) e = rw (inner_st x (all_head is_inner x xs e), sets_append xs (all_tail is_inner x xs e))

  inside_append : (xs : List Segment) → all is_inner xs ≡ true → inside (xs ++ ys) ≡ inside ys
  unfolding inside
  inside_append [] e = refl
  inside_append (x ∷ xs) e = rw (inner_se x (all_head is_inner x xs e), inside_append xs (all_tail is_inner x xs e))

body_flat : {ss : List Set} → Sets ss → body_of (flat ss) ≡ []
unfolding body_of flat
body_flat no_set = refl
body_flat (more w ws) = rw w.header

trailer_flat : {ss : List Set} → Sets ss → trailer_of (flat ss) ≡ None
unfolding trailer_of flat
trailer_flat no_set = refl
trailer_flat (more {s} {ss} w ws) = rw (st_se s.header w.header, w.header)

-- a trailer, or none, and then sets
module _ {ss : List Set} (ws : Sets ss) where
  body_end : {t : Option Segment} → Optional is_se t → body_of (option_to_list t ++ flat ss) ≡ []
  unfolding body_of
  body_end missing = body_flat ws
  body_end (there {s} e) = rw (se_st s e, e)

  trailer_end : {t : Option Segment} → Optional is_se t → trailer_of (option_to_list t ++ flat ss) ≡ t
  unfolding trailer_of
  trailer_end missing = trailer_flat ws
  trailer_end (there {s} e) = rw e

  sets_end : {t : Option Segment} → Optional is_se t → sets_of (option_to_list t ++ flat ss) ≡ sets_of (flat ss)
  unfolding sets_of
  sets_end missing = refl
  sets_end (there {s} e) = rw (se_st s e)

pub sets_flat : {ss : List Set} → Sets ss → sets_of (flat ss) ≡ ss
unfolding sets_of flat
sets_flat no_set = refl
sets_flat (more {s} {ss} w ws) =
    let rest = option_to_list s.trailer ++ flat ss in
    rw (
      w.header,
      body_append rest s.body w.body,
      body_end ws w.trailer,
      append-nil s.body,
      trailer_append rest s.body w.body,
      trailer_end ws w.trailer,
      sets_append rest s.body w.body,
      sets_end ws w.trailer,
      sets_flat ws,
    )

inside_flat : {ss : List Set} → Sets ss → inside (flat ss) ≡ outside (flat ss)
unfolding inside flat
inside_flat no_set = refl
inside_flat (more {s} w ws) = rw (w.header, st_se s.header w.header)

inside_end : {t : Option Segment} {ss : List Set} → Optional is_se t → Sets ss → inside (option_to_list t ++ flat ss) ≡ outside (flat ss)
unfolding inside
inside_end missing ws = inside_flat ws
inside_end (there {s} e) ws = rw e

pub outside_flat : {ss : List Set} → Sets ss → outside (flat ss) ≡ false
unfolding outside flat
outside_flat no_set = refl
outside_flat (more {s} {ss} w ws) =
    rw (w.header, inside_append (option_to_list s.trailer ++ flat ss) s.body w.body, inside_end w.trailer ws) (outside_flat ws)

-- no segment of sets is one of the envelope
outer_trailer : {t : Option Segment} → Optional is_se t → all is_outer (option_to_list t) ≡ true
unfolding all
outer_trailer missing = refl
outer_trailer (there {s} e) = all_cons is_outer s [] (outer_se s e) refl

pub outer_flat : {ss : List Set} → Sets ss → all is_outer (flat ss) ≡ true
unfolding all flat
outer_flat no_set = refl
outer_flat (more {s} {ss} w ws) =
    all_cons is_outer s.header (s.body ++ (option_to_list s.trailer ++ flat ss)) (outer_st s.header w.header)
    (all_append is_outer s.body (option_to_list s.trailer ++ flat ss) (all_weaken is_inner is_outer inner_outer s.body w.body)
    (all_append is_outer (option_to_list s.trailer) (flat ss) (outer_trailer w.trailer) (outer_flat ws)))

-- 4. A group without a segment outside its sets is its sets, one after the other.
abbrev Rejoined : List Segment → Type 0
Rejoined xs =
    (inside xs ≡ false → body_of xs ++ (option_to_list (trailer_of xs) ++ flat (sets_of xs)) ≡ xs) × (outside xs ≡ false → flat (sets_of xs) ≡ xs)

rejoin : (s : Segment) (ss : List Segment) (b c : Bool) → is_st s ≡ b → is_se s ≡ c → Rejoined ss → Rejoined (s ∷ ss)
unfolding inside body_of trailer_of sets_of flat
rejoin s ss true c p q r = (
  λ e. rw (p, st_se s p) (ap (λ (l : List Segment). s ∷ l) (r.0 (rw (st_se s p) at e))),
  λ e. rw p (ap (λ (l : List Segment). s ∷ l) (r.0 (rw p at e))),
)
rejoin s ss false true p q r =
    (λ e. rw (p, q) (ap (λ (l : List Segment). s ∷ l) (r.1 (rw q at e))), λ e. absurd (true≢false (rw p at e)))
rejoin s ss false false p q r =
    (λ e. rw (p, q) (ap (λ (l : List Segment). s ∷ l) (r.0 (rw q at e))), λ e. absurd (true≢false (rw p at e)))

rejoined : (xs : List Segment) → Rejoined xs
unfolding body_of trailer_of sets_of flat
rejoined [] = (λ e. refl, λ e. refl)
rejoined (s ∷ ss) = rejoin s ss (is_st s) (is_se s) refl refl (rejoined ss)

pub flat_sets : (xs : List Segment) → outside xs ≡ false → flat (sets_of xs) ≡ xs
flat_sets xs = (rejoined xs).1

-- 5. What is cut out of a group are sets.
trailer_one : (s : Segment) (ss : List Segment) (b c : Bool) → is_se s ≡ b → is_st s ≡ c → Optional is_se (trailer_of ss) → Optional is_se (trailer_of (s ∷ ss))
unfolding trailer_of
trailer_one s ss true c p q o = rw p (there p)
trailer_one s ss false true p q o = rw (p, q) missing
trailer_one s ss false false p q o = rw (p, q) o

trailer_optional : (xs : List Segment) → Optional is_se (trailer_of xs)
unfolding trailer_of
trailer_optional [] = missing
trailer_optional (s ∷ ss) = trailer_one s ss (is_se s) (is_st s) refl refl (trailer_optional ss)

body_one : (s : Segment) (ss : List Segment) (b c : Bool) → is_st s ≡ b → is_se s ≡ c → is_outer s ≡ true
    → all is_inner (body_of ss) ≡ true → all is_inner (body_of (s ∷ ss)) ≡ true
unfolding all body_of
body_one s ss true c p q n o = rw p
body_one s ss false true p q n o = rw (p, q)
body_one s ss false false p q n o = rw (p, q, n, p, q) o

body_inner : (xs : List Segment) → all is_outer xs ≡ true → all is_inner (body_of xs) ≡ true
unfolding all body_of
body_inner [] e = refl
body_inner (s ∷ ss) e =
    body_one s ss (is_st s) (is_se s) refl refl (all_head is_outer s ss e) (body_inner ss (all_tail is_outer s ss e))

sets_one : (s : Segment) (ss : List Segment) (b : Bool) → is_st s ≡ b → all is_outer ss ≡ true → Sets (sets_of ss) → Sets (sets_of (s ∷ ss))
unfolding sets_of
sets_one s ss true p o r =
    rw p (more (record { header = p; body = body_inner ss o; trailer = trailer_optional ss }) r)
sets_one s ss false p o r = rw p r

pub sets_cut : (xs : List Segment) → all is_outer xs ≡ true → Sets (sets_of xs)
unfolding sets_of
sets_cut [] e = no_set
sets_cut (s ∷ ss) e = let o = all_tail is_outer s ss e in sets_one s ss (is_st s) refl o (sets_cut ss o)
