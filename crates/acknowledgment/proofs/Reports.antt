-- The reports of a group's sets, set by set, and what the mark of a set tells of its report.
use mathlib.Core.Path.{◌≡◌, refl, sym, ap, ◌∙◌}
use mathlib.Core.Bool.{Bool, true, false, ◌||◌, or-true, false≢true}
use mathlib.Core.List.{List, [], ◌∷◌, ◌++◌, map-append}
use Rattle.std.specs.Prelude.{Option}
use Prim.Native.Nat.{ℕ, zero, suc, ◌+◌, ◌≤◌}
use native.Mathlib.Numerals.{add-one}
use borrow.Author.Tests.{not-false}
use lib.ListN.{length, drop}
use Rattle.rules.specs.Base.{Bytes, ascii, Rule, ◌⇒◌, every, null, any, same, member}
use Rattle.rules.specs.Cutting.{segments}
use Rattle.rules.specs.Tables.{Table}
use Rattle.rules.specs.Sets.{Set, SetReport, sets_of, control_of, set_codes, set_report, accepted}
use Rattle.rules.specs.Groups.{set_reports}
use Rattle.rules.specs.Response.{ak2, ak3s, ak5, block}
use Rattle.rules.specs.declared.Delimiters.{Delimiters}
use Rattle.rules.proofs.Logic.{Silent}
use Rattle.segments.proofs.Pieces.{segments_none}
use Rattle.sets.specs.Places.{set_at, control_at, controls_at}
use Rattle.sets.proofs.Sets.{SetIs}
use Rattle.acknowledgment.specs.declared.set_block.Mark.{Mark}
use Rattle.acknowledgment.specs.Surveys.{report_at, reports, remaining, mark_by, is_accepted, is_repeated, is_quiet, MarkIs, acceptance}

-- 1. A report asks of the ST02s before it only which they are: their order makes no difference.
report_same : (d : Delimiters) (t : Option Table) (es fs : List Bytes) (s : Set) → member (control_of s) es ≡ member (control_of s) fs
    → set_report d t es s ≡ set_report d t fs s
unfolding set_report set_codes
report_same d t es fs s e = rw e

reports_same : (d : Delimiters) (table : Set → Option Table) (es fs : List Bytes) (ss : List Set) → ((c : Bytes) → member c es ≡ member c fs)
    → set_reports d table es ss ≡ set_reports d table fs ss
unfolding set_reports any
reports_same d table es fs [] e = refl
reports_same d table es fs (s ∷ ss) e =
    rw (report_same d (table s) es fs s (e (control_of s)), reports_same d table (control_of s ∷ es) (control_of s ∷ fs) ss (λ c. rw (e c)))

member_last : (c e : Bytes) (es : List Bytes) → member c (e ∷ es) ≡ member c (es ++ e ∷ [])
unfolding any
member_last c e [] = refl
member_last c e (f ∷ es) = swap (same c e) (same c f) (member c es) ∙ ap (λ (b : Bool). same c f || b) (member_last c e es)
  where
    swap : (a b m : Bool) → a || (b || m) ≡ b || (a || m)
    swap true b m = sym (or-true b)
    swap false b m = refl

-- the newest may stand last
reports_last : (d : Delimiters) (table : Set → Option Table) (e : Bytes) (es : List Bytes) (ss : List Set)
    → set_reports d table (e ∷ es) ss ≡ set_reports d table (es ++ e ∷ []) ss
reports_last d table e es ss = reports_same d table (e ∷ es) (es ++ e ∷ []) ss (λ c. member_last c e es)

-- 2. The reports from a place on.
module _ (d : Delimiters) (table : Set → Option Table) (body : Bytes) where
  pub remaining_all : remaining d table body [] 0 ≡ reports d table body
  unfolding remaining controls_at
  remaining_all = refl

  pub remaining_none : (before : List ℕ) (at : ℕ) → length body ≤ at → remaining d table body before at ≡ []
  unfolding remaining set_reports sets_of
  remaining_none before at h = rw (segments_none d body at h)

  -- the set at the place has the first, and it is one of those before the others
  pub remaining_next : (before : List ℕ) (at : ℕ) → SetIs d body at (set_at d body at)
      → remaining d table body before at ≡ report_at d table body at (controls_at d body before) ∷ remaining d table body (before ++ at ∷ []) (set_at d body at).end
  unfolding remaining set_reports controls_at
  remaining_next before at i =
      rw (
        i.first,
        map-append (control_at d body) before (at ∷ []),
        i.control,
        reports_last d table (control_at d body at) (controls_at d body before) (sets_of (segments d (drop (set_at d body at).end body))),
      )

pub drop_next : {A : Type 0} (k : ℕ) (xs ys : List A) (x : A) → drop k xs ≡ x ∷ ys → drop (k + 1) xs ≡ ys
drop_next {A} k xs ys x e = rw add-one (go k xs e)
  where
    go : (k : ℕ) (xs : List A) → drop k xs ≡ x ∷ ys → drop (suc k) xs ≡ ys
    go zero [] e = cc
    go zero (z ∷ zs) e = cc
    go (suc k) [] e = cc
    go (suc k) (z ∷ zs) e = go k zs e

-- 3. A set without codes.
-- where rules give no code, none of them applies
quiet : (rs : List Rule) → null (every rs) ≡ true → Silent rs
unfolding every
quiet [] e = tt
quiet ((true ⇒ n) ∷ rs) e = absurd (false≢true e)
quiet ((false ⇒ n) ∷ rs) e = (refl, quiet rs e)

pub no_list : {A : Type 0} (xs : List A) → null xs ≡ true → xs ≡ []
no_list [] e = refl
no_list (x ∷ xs) e = absurd (false≢true e)

short_block : (r : SetReport) → r.notes ≡ [] → r.codes ≡ []
    → block r ≡ (ascii "AK2" ∷ r.st01 ∷ r.st02 ∷ []) ∷ (ascii "AK5" ∷ ascii "A" ∷ []) ∷ []
unfolding block ak2 ak3s ak5
short_block r e f = rw (e, f)

module _ (d : Delimiters) (t : Option Table) (earlier : List Bytes) (s : Set) (clean : accepted (set_report d t earlier s) ≡ true) where
  -- its control number was not used before, and it has no notes
  clean_new : member (control_of s) earlier ≡ false
  unfolding set_report set_codes
  clean_new = (quiet _ clean).1.1.1.1.1.0

  clean_notes : (set_report d t earlier s).notes ≡ []
  unfolding set_report set_codes
  clean_notes = no_list _ (not-false _ (quiet _ clean).1.1.1.1.0)

  -- its block is AK2 and AK5
  pub clean_block : block (set_report d t earlier s) ≡ acceptance s
  unfolding set_report acceptance
  clean_block = short_block (set_report d t earlier s) clean_notes (no_list _ clean)

-- 4. Marks.
pub mark_repeats : {repeated : Bool} {r : SetReport} {mark : Mark} → MarkIs repeated r mark → is_repeated mark ≡ repeated
mark_repeats {repeated} {r} m = rw m.marked (go repeated m.quiet (accepted r))
  where
    go : (b q c : Bool) → is_repeated (mark_by b q c) ≡ b
    go true true c = refl
    go true false c = refl
    go false q true = refl
    go false true false = refl
    go false false false = refl

pub mark_untold : {repeated : Bool} {r : SetReport} {mark : Mark} → MarkIs repeated r mark → is_quiet mark ≡ true → r.notes ≡ []
mark_untold {repeated} {r} m e = m.untold (go repeated m.quiet (accepted r) (rw m.marked at e))
  where
    go : (b q c : Bool) → is_quiet (mark_by b q c) ≡ true → q ≡ true
    go b true c e = refl
    go true false c e = e
    go false false true e = e
    go false false false e = e

module _ (d : Delimiters) (t : Option Table) (s : Set) (earlier : List Bytes) {mark : Mark}
    (m : MarkIs (member (control_of s) earlier) (set_report d t [] s) mark) where
  pub mark_accepts : is_accepted mark ≡ accepted (set_report d t earlier s)
  unfolding any
  mark_accepts = rw m.marked (go (member (control_of s) earlier) refl)
    where
      by_codes : (q b : Bool) → is_accepted (mark_by false q b) ≡ b
      by_codes q true = refl
      by_codes true false = refl
      by_codes false false = refl

      by_use : (q b : Bool) → is_accepted (mark_by true q b) ≡ false
      by_use true b = refl
      by_use false b = refl

      used : (b : Bool) → accepted (set_report d t earlier s) ≡ b → member (control_of s) earlier ≡ true → false ≡ b
      used true e f = sym (clean_new d t earlier s e) ∙ f
      used false e f = refl

      go : (b : Bool) → member (control_of s) earlier ≡ b
          → is_accepted (mark_by b m.quiet (accepted (set_report d t [] s))) ≡ accepted (set_report d t earlier s)
      go true e = by_use m.quiet (accepted (set_report d t [] s)) ∙ used (accepted (set_report d t earlier s)) refl e
      go false e = by_codes m.quiet (accepted (set_report d t [] s)) ∙ ap accepted (report_same d t [] earlier s (sym e))

  -- the block of a set that is marked as accepted
  pub mark_block : is_accepted mark ≡ true → block (set_report d t earlier s) ≡ acceptance s
  mark_block e = clean_block d t earlier s (sym mark_accepts ∙ e)
