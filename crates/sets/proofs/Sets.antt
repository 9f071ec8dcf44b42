-- The set at a place of a group's bytes: it is the first of those left there, and the others are those left at its end.
use Rattle.std.specs.Prelude.{if◌then◌else◌, option_to_list, is_none, Option, None, Some}
use mathlib.Core.Path.{◌≡◌, refl, sym, ap, ◌∙◌, subst⁻¹}
use mathlib.Core.Bool.{Bool, true, false, not}
use mathlib.Core.List.{List, ◌∷◌, ◌++◌, append-nil, append_assoc}
use Prim.Native.Nat.{ℕ, zero, suc, ◌+◌, ◌-◌, ◌<◌, ◌≤◌}
use native.Mathlib.Omega.{arith}
use borrow.Author.Tests.{ltb-true, ltb-false, not-false}
use lib.Dec.{ltb}
use lib.ListN.{length, take, drop}
use Rattle.rules.specs.Base.{Bytes}
use Rattle.rules.specs.Cutting.{Segment, split, pieces, segments}
use Rattle.rules.specs.Sets.{Set, is_st, is_se, body_of, trailer_of, sets_of, outside, inside, segments_of, control_of}
use Rattle.rules.specs.declared.Delimiters.{Delimiters}
use Rattle.rules.proofs.Logic.{or_left}
use Rattle.rules.proofs.SetLaws.{se_st}
use Rattle.text.specs.Text.{index_of}
use Rattle.segments.proofs.Pieces.{WholePart, whole_empty, whole_next, segments_at, segments_none, segments_new, segments_part}
use Rattle.sets.specs.Places.{closed_at, unclosed_at, set_from, set_at, control_at}
use Rattle.sets.specs.declared.SetAt.{SetAt}
use Rattle.sets.proofs.Turns.{set_opens, set_goes, set_ends, control_is}

-- the trailer that a place names
abbrev pub trailer_in : Delimiters → Bytes → SetAt → Option Segment
trailer_in d body r =
    if r.closed then Some (split d.element (take (r.end - 1 - r.trailer) (drop r.trailer body))) else None

closes : (b : Bool) (s : Segment) → is_none (if b then Some s else None) ≡ not b
closes true s = refl
closes false s = refl

-- 1. What follows a header: the segments left at a place, where the set goes on from start with n segments before it.
record Follows (d : Delimiters) (body : Bytes) (start header n at : ℕ) (r : SetAt) : Type 0 where
  others : sets_of (segments d (drop at body)) ≡ sets_of (segments d (drop r.end body))
  whole : segments d (take (r.end - start) (drop start body))
      ≡ segments d (take (at - start) (drop start body))
      ++ (body_of (segments d (drop at body)) ++ option_to_list (trailer_of (segments d (drop at body))))
  trailer : trailer_of (segments d (drop at body)) ≡ trailer_in d body r
  strays : inside (segments d (drop at body)) ≡ outside (segments d (drop r.end body))
  starts : r.start ≡ start
  headed : r.header ≡ header
  counted : r.segments ≡ n + length (body_of (segments d (drop at body)) ++ option_to_list (trailer_of (segments d (drop at body))))
  onward : at ≤ r.end

module _ (d : Delimiters) (body : Bytes) (start header : ℕ) where
  -- the set goes on at a place
  abbrev from : ℕ → ℕ → SetAt
  from n at = set_from d.element start header n at (pieces d.terminator (drop at body))

  abbrev Goes : ℕ → ℕ → Type 0
  Goes n at = Follows d body start header n at (from n at)

  follows_none : (n at : ℕ) → length body ≤ at → Follows d body start header n at (unclosed_at start header n at)
  unfolding body_of trailer_of outside
  follows_none n at k = record {
    others = refl;
    whole = rw (segments_none d body at k) (sym (append-nil _));
    trailer = rw (segments_none d body at k);
    strays = rw (segments_none d body at k);
    starts = refl;
    headed = refl;
    counted = rw (segments_none d body at k) (omega arith);
    onward = omega arith;
  }

  module _ (n at end : ℕ) (h : at < length body) (q : end ≡ at + index_of d.terminator (drop at body)) (w : WholePart d.terminator body start at) where
    abbrev here : Segment
    here = split d.element (take (end - at) (drop at body))

    follows_se : is_se here ≡ true → Follows d body start header n at (closed_at start header (n + 1) at (end + 1))
    unfolding body_of trailer_of sets_of outside
    follows_se p =
        let back : end + 1 - 1 ≡ end = omega arith in
        let g = se_st here p in
        record {
          others = rw (segments_at d body at end h q, g);
          whole = rw (segments_at d body at end h q, g, p) (segments_part d w h q);
          trailer = rw (segments_at d body at end h q, p, back);
          strays = rw (segments_at d body at end h q, p);
          starts = refl;
          headed = refl;
          counted = rw (segments_at d body at end h q, g, p);
          onward = omega arith;
        }

    follows_st : is_se here ≡ false → is_st here ≡ true → Follows d body start header n at (unclosed_at start header n at)
    unfolding body_of trailer_of outside
    follows_st p g = record {
      others = refl;
      whole = rw (segments_at d body at end h q, p, g) (sym (append-nil _));
      trailer = rw (segments_at d body at end h q, p, g);
      strays = rw (segments_at d body at end h q, p, g);
      starts = refl;
      headed = refl;
      counted = rw (segments_at d body at end h q, p, g) (omega arith);
      onward = omega arith;
    }

    follows_other : is_se here ≡ false → is_st here ≡ false → (r : SetAt) → Follows d body start header (n + 1) (end + 1) r → Follows d body start header n at r
    unfolding body_of trailer_of sets_of outside
    follows_other p g r f = record {
      others = rw (segments_at d body at end h q, g) f.others;
      whole = f.whole ∙ rw (segments_part d w h q, append_assoc, segments_at d body at end h q, p, g);
      trailer = rw (segments_at d body at end h q, p, g) f.trailer;
      strays = rw (segments_at d body at end h q, p) f.strays;
      starts = f.starts;
      headed = f.headed;
      counted = rw (segments_at d body at end h q, p, g) (omega (arith, f.counted));
      onward = omega (arith, f.onward);
    }

    follows_here : (se st : Bool) → is_se here ≡ se → is_st here ≡ st → Goes (n + 1) (end + 1) → Goes n at
    follows_here true st p g f = rw (set_goes d.terminator body at end h q d.element start header n true st p g) (follows_se p)
    follows_here false true p g f = rw (set_goes d.terminator body at end h q d.element start header n false true p g) (follows_st p g)
    follows_here false false p g f =
        rw (set_goes d.terminator body at end h q d.element start header n false false p g) (follows_other p g (from (n + 1) (end + 1)) f)

  goes_none : (n at : ℕ) → length body ≤ at → Goes n at
  goes_none n at k = rw (set_ends d.terminator body at k d.element start header n) (follows_none n at k)

  goes : (fuel n at : ℕ) → length body ≤ at + fuel → WholePart d.terminator body start at → Goes n at
  goes zero n at k w = goes_none n at (omega arith)
  goes (suc fuel) n at k w = go (ltb at (length body)) refl (goes fuel)
    where
      end : ℕ
      end = at + index_of d.terminator (drop at body)

      go : (c : Bool) → ltb at (length body) ≡ c
          → ((m next : ℕ) → length body ≤ next + fuel → WholePart d.terminator body start next → Goes m next) → Goes n at
      go true c f =
          let h = ltb-true at (length body) c in
          follows_here n at end h refl w (is_se (here n at end h refl w)) (is_st (here n at end h refl w)) refl refl
          (f (n + 1) (end + 1) (omega arith) (whole_next w h refl))
      go false c f = goes_none n at (ltb-false at (length body) c)

-- 2. The set at a place.
-- the set that a place in the bytes names
unfoldable pub set_in : Delimiters → Bytes → ℕ → SetAt → Set
set_in d body at r =
    let rest = segments d (drop (r.header + 1) body) in
    record {
      header = split d.element (take (r.header - at) (drop at body));
      body = body_of rest;
      trailer = trailer_of rest;
    }

-- The set at a place is the first of those left there, the others are those left at its end, and these bytes are its segments.
pub record SetIs (d : Delimiters) (body : Bytes) (at : ℕ) (r : SetAt) : Type 0 where
  pub first : sets_of (segments d (drop at body)) ≡ set_in d body at r ∷ sets_of (segments d (drop r.end body))
  pub whole : segments_of (set_in d body at r) ≡ segments d (take (r.end - at) (drop at body))
  pub header : (set_in d body at r).header ≡ split d.element (take (r.header - at) (drop at body))
  pub trailer : (set_in d body at r).trailer ≡ trailer_in d body r
  pub closed : is_none (set_in d body at r).trailer ≡ not r.closed
  pub counted : r.segments ≡ length (segments_of (set_in d body at r))
  pub control : control_of (set_in d body at r) ≡ control_at d body at
  pub strays : outside (segments d (drop at body)) ≡ outside (segments d (drop r.end body))
  pub starts : r.start ≡ at
  pub onward : at < r.end

-- segments of which none is outside every set start with a header
pub clean_starts : (s : Segment) (ss : List Segment) → outside (s ∷ ss) ≡ false → is_st s ≡ true
unfolding outside
clean_starts s ss e = not-false (is_st s) (or_left (not (is_st s)) (inside ss) e)

module _ (d : Delimiters) (body : Bytes) (at : ℕ) (r : SetAt) (h : at < length body) (q : r ≡ set_at d body at) where
  opened : Follows d body at (at + index_of d.terminator (drop at body)) 1 (at + index_of d.terminator (drop at body) + 1) r
  opened =
      let end = at + index_of d.terminator (drop at body) in
      rw (q, set_opens d body at end h refl)
      (goes d body at end (length body) 1 (end + 1) (omega arith) (whole_next whole_empty h refl))

  after : Follows d body at r.header 1 (r.header + 1) r
  after = subst⁻¹ (λ (n : ℕ). Follows d body at n 1 (n + 1) r) opened.headed opened

  -- the segment at the place
  pub header_at : segments d (drop at body) ≡ split d.element (take (r.header - at) (drop at body)) ∷ segments d (drop (r.header + 1) body)
  header_at = segments_at d body at r.header h opened.headed

  -- its bytes are its header, what follows up to the next ST or SE, and its trailer
  pub set_whole : {end : ℕ} → end ≡ at + index_of d.terminator (drop at body)
      → segments d (take (r.end - at) (drop at body))
      ≡ split d.element (take (end - at) (drop at body))
      ∷ (body_of (segments d (drop (end + 1) body)) ++ option_to_list (trailer_of (segments d (drop (end + 1) body))))
  set_whole e = rw e (opened.whole ∙ rw (segments_new d body at _ h refl))

  set_is : is_st (split d.element (take (r.header - at) (drop at body))) ≡ true → SetIs d body at r
  unfolding set_in sets_of outside
  set_is st = record {
    first = rw (header_at, st) (ap (λ (l : List Set). set_in d body at r ∷ l) after.others);
    whole = sym (set_whole opened.headed);
    header = refl;
    trailer = after.trailer;
    closed = rw after.trailer (closes r.closed _);
    counted = omega (arith, after.counted);
    control = sym (control_is d body at r.header opened.headed);
    strays = rw (header_at, st) after.strays;
    starts = after.starts;
    onward = omega (arith, after.onward, opened.headed);
  }

  -- where no segment is outside every set, a set starts at the place
  pub set_next : outside (segments d (drop at body)) ≡ false → SetIs d body at r
  set_next clean = set_is (clean_starts _ _ (rw header_at at clean))
