-- Refusals 11 to 13, set by set: what a walk over the sets knows of them so far, and what is left to decide.
use Rattle.std.specs.Prelude.{if◌then◌else◌, Ok, Err}
use mathlib.Core.Path.{◌≡◌, refl, sym, ◌∙◌}
use mathlib.Core.Bool.{Bool, true, false, ◌&&◌, not, and_assoc}
use mathlib.Core.List.{List, [], ◌∷◌}
use Prim.Native.Nat.{ℕ, ◌+◌, ◌<◌, ◌≤◌}
use native.Mathlib.Omega.{arith}
use borrow.Author.Tests.{not-true, not-false}
use lib.Dec.{eqb}
use lib.ListN.{length, drop}
use Rattle.rules.specs.Base.{Bytes, ◌⇒◌, first, null, all}
use Rattle.rules.specs.Cutting.{Segment, split}
use Rattle.rules.specs.Sets.{Set, is_st, sets_of, outside}
use Rattle.rules.specs.Refusals.{is_envelope, good_st, set_rules}
use Rattle.rules.specs.Refused.{refused, unless}
use Rattle.rules.specs.declared.Delimiters.{Delimiters}
use Rattle.rules.specs.declared.Refusal.{Refusal}
use Rattle.rules.specs.declared.Refusal.TheVariants.{Outside, NoSet, BadSetHeader}
use Rattle.rules.proofs.Refused.{unless_ok, unless_err}
use Rattle.rules.proofs.Logic.{silent}
use Rattle.rules.proofs.SetLaws.{outer_st}
use Rattle.text.specs.Text.{index_of, part}
use Rattle.envelope.specs.Places.{body_end}
use Rattle.envelope.proofs.Places.{until_here, until_later, until_none}
use Rattle.sets.specs.Places.{body_from, sets_checked, sets_between, ThroughSet}
use Rattle.sets.proofs.Sets.{clean_starts}
use Rattle.sets.proofs.Walks.{body_none, body_stops, body_goes, body_null}

-- every header can be answered
abbrev pub good : Delimiters → List Set → Bool
good d = all (λ s. good_st d s.header)

-- the refusal of some segments: before them no set is open, and every header so far can be answered, or not
unfoldable pub refusal_from : Delimiters → Bool → List Segment → ℕ
refusal_from d ok ss = if outside ss then 11 else (if ok && good d (sets_of ss) then 0 else 13)

refusal_some : (d : Delimiters) (s : Segment) (ss : List Segment) → first (set_rules d (s ∷ ss)) ≡ refusal_from d true (s ∷ ss)
unfolding set_rules first refusal_from sets_of
refusal_some d s ss = go (outside (s ∷ ss)) refl
  where
    headers : (b : Bool) → first ((not b ⇒ 13) ∷ []) ≡ (if b then 0 else 13)
    headers true = refl
    headers false = refl

    go : (c : Bool) → outside (s ∷ ss) ≡ c → first (set_rules d (s ∷ ss)) ≡ refusal_from d true (s ∷ ss)
    go true e = rw e
    go false e = rw (e, clean_starts s ss e) (headers (good d _))

-- no segments are no set
refusal_by : (d : Delimiters) (ss : List Segment) → first (set_rules d ss) ≡ (if null ss then 12 else refusal_from d true ss)
unfolding set_rules first outside sets_of
refusal_by d [] = refl
refusal_by d (s ∷ ss) = refusal_some d s ss

refusal_none : (d : Delimiters) (ok : Bool) → refusal_from d ok [] ≡ (if ok then 0 else 13)
unfolding refusal_from outside sets_of all
refusal_none d true = refl
refusal_none d false = refl

refusal_stray : (d : Delimiters) (ss : List Segment) → refusal_from d true ss ≡ 11 → first (set_rules d ss) ≡ 11
refusal_stray d [] e = let none = sym (refusal_none d true) ∙ e in omega arith
refusal_stray d (s ∷ ss) e = refusal_some d s ss ∙ e

-- What is left of a body at a place decides its refusal, and where it ends.
pub record Decides (d : Delimiters) (i : Bytes) (at : ℕ) (ok : Bool) (next : ℕ) : Type 0 where
  pub ends : body_end d i at ≡ body_end d i next
  pub refusal : refusal_from d true (body_from d i at) ≡ refusal_from d ok (body_from d i next)

module _ {d : Delimiters} {i : Bytes} {at next : ℕ} {ok : Bool} (w : Decides d i at ok next) where
  decides_end : body_from d i next ≡ [] → body_end d i next ≡ next → sets_between at next ok ≡ sets_checked d i at
  unfolding sets_checked unless refused
  decides_end none p =
      let n : first (set_rules d (body_from d i at)) ≡ (if eqb next at then 12 else (if ok then 0 else 13)) =
      refusal_by d (body_from d i at) ∙ rw (body_null d i at, w.refusal, none, refusal_none, w.ends ∙ p) in
      rw (n, w.ends ∙ p) (choose (eqb next at) ok)
    where
      choose : (b c : Bool)
          → (if b then Err NoSet else (if c then Ok next else Err BadSetHeader))
          ≡ unless (if b then 12 else (if c then 0 else 13)) next
      choose true c = refl
      choose false true = refl
      choose false false = refl

  -- the body ends with the bytes
  pub decides_past : length i ≤ next → sets_between at next ok ≡ sets_checked d i at
  decides_past h = decides_end (body_none d i next h) (until_none d.element d.terminator i next h)

  module _ {end : ℕ} (h : next < length i) (q : end ≡ next + index_of d.terminator (drop next i)) where
    abbrev segment : Segment
    segment = split d.element (part i next end)

    -- or at a segment of the envelope
    pub decides_enveloped : is_envelope segment ≡ true → sets_between at next ok ≡ sets_checked d i at
    decides_enveloped g = decides_end (body_stops d i next end h q g) (until_here d.element d.terminator i next end h q g)

    -- the segment at the place is no header, and none of the envelope
    pub decides_stray : is_st segment ≡ false → is_envelope segment ≡ false → Err Outside ≡ sets_checked d i at
    unfolding refusal_from outside sets_checked unless refused
    decides_stray st outer =
        rw (refusal_stray d (body_from d i at) (w.refusal ∙ rw (body_goes d i next end h q outer, st)))

    -- a set starts at the place, and goes up to another
    pub decides_set : {to : ℕ} → is_st segment ≡ true → ThroughSet d i (end + 1) false to → Decides d i at (ok && good_st d segment) to
    unfolding refusal_from outside sets_of all
    decides_set {to} st set =
        let outer = not-true (is_envelope segment) (outer_st segment st) in
        record {
          ends = w.ends ∙ until_later d.element d.terminator i next end h q outer ∙ set.ends;
          refusal = w.refusal
              ∙ rw (
                body_goes d i next end h q outer,
                st,
                set.strays,
                set.sets,
                ← and_assoc ok (good_st d segment) (good d (sets_of (body_from d i to))),
              );
        }

-- what a check tells of a body: where it ends, and that it has no refusal; or its refusal
module _ (d : Delimiters) (i : Bytes) (at : ℕ) where
  pub sets_sound : {end : ℕ} → sets_checked d i at ≡ Ok end → (end ≡ body_end d i at) × (first (set_rules d (body_from d i at)) ≡ 0)
  unfolding sets_checked
  sets_sound p = let told = unless_ok (first (set_rules d (body_from d i at))) (body_end d i at) p in (told.1, told.0)

  pub sets_refused : {e : Refusal} → sets_checked d i at ≡ Err e
      → (e ≡ refused (first (set_rules d (body_from d i at)))) × (first (set_rules d (body_from d i at)) ≡ 0 → ⊥)
  unfolding sets_checked
  sets_refused p = unless_err (first (set_rules d (body_from d i at))) (body_end d i at) p

-- what holds of a group that is not refused
pub record Passed (d : Delimiters) (ss : List Segment) : Type 0 where
  pub clean : outside ss ≡ false
  pub headers : good d (sets_of ss) ≡ true

pub passed : (d : Delimiters) (ss : List Segment) → first (set_rules d ss) ≡ 0 → Passed d ss
unfolding set_rules
passed d ss e =
    let s = silent (set_rules d ss) tt e in
    record { clean = s.0; headers = not-false _ s.1.1.0 }
