-- One look at a set: what it comes to is what is reported of the set.
use Rattle.std.specs.Prelude.{if◌then◌else◌, is_none, Option, None, Some}
use mathlib.Core.Path.{◌≡◌, refl, sym, ap, ◌∙◌}
use mathlib.Core.Bool.{Bool, true, false, ◌&&◌, and-true, and-false, not, false≢true}
use mathlib.Core.List.{List, [], ◌∷◌}
use Prim.Native.Nat.{ℕ, ◌+◌, ◌-◌}
use native.Mathlib.Omega.{arith}
use lib.ListN.{length, drop}
use Rattle.rules.specs.Base.{Bytes, ◌⇒◌, every, null, any, holds, same, member}
use Rattle.rules.specs.Cutting.{Segment, field, split}
use Rattle.rules.specs.Numbers.{declares}
use Rattle.rules.specs.Tables.{Table}
use Rattle.rules.specs.Segments.{Note}
use Rattle.rules.specs.Sets.{Set, segments_of, control_of, notes_in, set_codes, set_report, accepted}
use Rattle.rules.specs.Response.{block}
use Rattle.rules.specs.declared.Delimiters.{Delimiters}
use Rattle.tables.specs.Rows.{table_of}
use Rattle.tables.specs.Reading.{Guide, Limits, Orderly}
use Rattle.guides.specs.Choice.{place_of, rows_at}
use Rattle.guides.specs.declared.Scope.{Scope}
use Rattle.guides.specs.declared.TableAt.{TableAt}
use Rattle.text.specs.Text.{index_of, part}
use Rattle.sets.specs.Places.{set_at}
use Rattle.sets.specs.declared.SetAt.{SetAt}
use Rattle.sets.proofs.Sets.{SetIs}
use Rattle.rules.proofs.Logic.{and_left, and_right}
use Rattle.findings.proofs.Told.{null_flat}
use Rattle.findings.specs.Remaining.{events, remaining}
use Rattle.findings.specs.Steps.{start}
use Rattle.look.specs.Looking.{looked}
use Rattle.look.proofs.Looking.{look_is}
use Rattle.acknowledgment.specs.Received.{table_by, Scoped, Ordered}
use Rattle.acknowledgment.specs.Surveys.{set_here, report_at, header_at, Headed, closed_well, Sighted, SeenIs, mark_by, is_accepted, MarkIs, SurveyedIs}
use Rattle.acknowledgment.proofs.Blocks.{Parts, parts_at, header_here, acceptance_measured, nowhere_rejects, events_are, at_start}
use Rattle.acknowledgment.proofs.Headers.{header_three}
use Rattle.acknowledgment.proofs.Reports.{no_list, mark_block}
use Rattle.acknowledgment.specs.declared.set_block.Mark.{Mark}
use Rattle.acknowledgment.specs.declared.set_block.SeenSet.{SeenSet}
use Rattle.acknowledgment.specs.Writers.{Measures}
use Rattle.writing.specs.Over.{sat}
use Rattle.notes.specs.declared.Told.{Told}

-- 1. The codes of a set with a table and a number of its own.
-- without a trailer it has one
open_rejects : (t : Table) (ns : List Note) (s : Set) → s.trailer ≡ None → null (set_codes (Some t) ns [] s) ≡ false
unfolding set_codes every
open_rejects t ns s e = rw e

-- with one, the trailer and the notes decide
closed_by : (trailer : Option Segment) (n : ℕ) (control : Bytes) (ns : List Note) {se : Segment} → trailer ≡ Some se
    → null (every ((is_none trailer ⇒ 2) ∷ (holds (λ se. not (same (field se 2) control)) trailer ⇒ 3) ∷ (holds (λ se. not (declares 10 (field se 1) n)) trailer ⇒ 4) ∷ (not (null ns) ⇒ 5) ∷ (false ⇒ 23) ∷ []))
    ≡ (declares 10 (field se 1) n && same (field se 2) control) && null ns
unfolding every
closed_by trailer n control ns {se} e = rw e (go (same (field se 2) control) (declares 10 (field se 1) n) (null ns))
  where
    go : (a b n : Bool) → null (every ((not a ⇒ 3) ∷ (not b ⇒ 4) ∷ (not n ⇒ 5) ∷ (false ⇒ 23) ∷ [])) ≡ (b && a) && n
    go true true true = refl
    go true true false = refl
    go true false n = refl
    go false true n = refl
    go false false n = refl

closed_accepts : (t : Table) (ns : List Note) (s : Set) {se : Segment} → s.trailer ≡ Some se
    → null (set_codes (Some t) ns [] s) ≡ (declares 10 (field se 1) (length (segments_of s)) && same (field se 2) (control_of s)) && null ns
unfolding set_codes every any
closed_accepts t ns s e = closed_by s.trailer (length (segments_of s)) (control_of s) ns e

-- 2. What a look comes to.
-- a look that is quiet says two things at once, and so does one that is not
quiet_says : {place p : SetAt} (b : Bool) → Some p ≡ (if b then Some place else None) → (b ≡ true) × (p ≡ place)
quiet_says true e = (refl, cc)
quiet_says false e = (cc, cc)

odd_says : (place : SetAt) (b : Bool) → None ≡ (if b then Some place else None) → b ≡ false
odd_says place true e = cc
odd_says place false e = refl

-- a set that is cut has a code, and may have notes
pub not_quiet : {d : Delimiters} {table : Set → Option Table} {body : Bytes} {at : ℕ} {place : SetAt} {r : SeenSet}
    → r ≡ record { place = place; quiet = false; clean = false } → false ≡ accepted (report_at d table body at []) → SeenIs d table body at r
not_quiet e f = rw e (record { clean = f; untold = λ h. absurd (false≢true h) })

-- 3. The set at a place.
-- its ST01, by the header
pub kind_here : {d : Delimiters} {body : Bytes} {at : ℕ} → Headed d body at → field (header_at d body at) 1 ≡ field (set_here d body at).header 1
kind_here {d} {body} {at} h =
    let z : at + index_of d.terminator (drop at body) - at ≡ index_of d.terminator (drop at body) = omega arith in
    ap (λ (st : Segment). field st 1) (rw z at (header_here d body at (at + index_of d.terminator (drop at body)) h.inside refl))

module _ {d : Delimiters} {body : Bytes} {valid : List Bool} {rows : Guide} {scope : Scope} {at : ℕ} {control : Bytes}
    (s : Sighted d body valid rows scope at control) where
  -- the set, and its table by its ST01
  abbrev place : SetAt
  place = set_at d body at

  abbrev here : Set
  here = set_here d body at

  abbrev report : List (List ℕ) → Bool
  report ids = accepted (report_at d (table_by ids rows scope) body at [])

  module _ {st01 : Bytes} (kind : st01 ≡ field here.header 1) where
    -- a set without a table
    pub sees_nowhere : place_of scope st01 ≡ None → (ids : List (List ℕ)) → false ≡ report ids
    sees_nowhere e ids = rw (← kind, e) (nowhere_rejects d here)

    module _ {t : TableAt} (e : place_of scope st01 ≡ Some t) (ids : List (List ℕ)) (ordered : Ordered ids rows scope) where
      abbrev table : Table
      table = table_of ids (rows_at rows t.start t.end)

      limits : Limits (rows_at rows t.start t.end)
      limits = (rw e at (s.tables st01)).limits

      orderly : Orderly ids (rows_at rows t.start t.end)
      orderly = rw e at (ordered st01)

      quiet : Bool
      quiet = null (events (remaining (part body at place.end) d ids (rows_at rows t.start t.end) true start))

      looks : looked valid d (rows_at rows t.start t.end) body at ≡ (if place.closed && quiet then Some place else None)
      unfolding quiet
      looks = rw s.bytes (look_is d body s.headed.inside (omega (arith, s.short)) s.apart limits orderly)

      by_table : report ids ≡ null (set_codes (Some table) (notes_in d (Some table) here) [] here)
      unfolding set_report
      by_table = rw (← kind, e)

      parts : Parts d here place.closed place.segments (part body at place.end) (part body at place.header) (part body place.trailer (place.end - 1))
      parts = parts_at s.is (omega (arith, s.short)) refl refl refl

      -- its trailer, where it has one
      trailer_is : (closed : Bool) → place.closed ≡ closed
          → here.trailer ≡ (if closed then Some (split d.element (part body place.trailer (place.end - 1))) else None)
      trailer_is closed c = s.is.trailer ∙ rw c

      -- nothing is told where there are no notes
      quiet_is : place.closed ≡ true → quiet ≡ null (notes_in d (Some table) here)
      unfolding quiet
      quiet_is c =
          ap (λ (b : Bool). null (events (remaining (part body at place.end) d ids (rows_at rows t.start t.end) b start))) (sym c)
          ∙ ap null (events_are parts ids limits)
          ∙ null_flat (notes_in d (Some table) here)

      -- a quiet set: its trailer decides, and nothing is told of it
      pub sees_quiet : {p : SetAt} → Some p ≡ looked valid d (rows_at rows t.start t.end) body at
          → (p ≡ place) × ((closed_well d body p control ≡ report ids) × ((report_at d (table_by ids rows scope) body at []).notes ≡ []))
      unfolding set_report
      sees_quiet {p} q =
          let says = quiet_says (place.closed && quiet) (q ∙ looks) in
          let c = and_left place.closed quiet says.0 in
          let n = sym (quiet_is c) ∙ and_right place.closed quiet says.0 in
          let codes = by_table ∙ closed_accepts table (notes_in d (Some table) here) here (trailer_is true c) in
          let untold : notes_in d (table_by ids rows scope here) here ≡ [] = rw (← kind, e) (no_list _ n) in
          (says.1, (rw says.1 (sym (codes ∙ rw (n, ← s.is.counted, s.is.control, ← s.numbered) (and-true (closed_well d body place control)))), untold))

      -- any other has a code
      pub sees_odd : None ≡ looked valid d (rows_at rows t.start t.end) body at → false ≡ report ids
      sees_odd q = go place.closed refl (odd_says place (place.closed && quiet) (q ∙ looks))
        where
          go : (closed : Bool) → place.closed ≡ closed → place.closed && quiet ≡ false → false ≡ report ids
          go false c f = sym (by_table ∙ open_rejects table (notes_in d (Some table) here) here (trailer_is false c))
          go true c f =
              let n : null (notes_in d (Some table) here) ≡ false = sym (quiet_is c) ∙ (rw c at f) in
              let se = split d.element (part body place.trailer (place.end - 1)) in
              sym (by_table ∙ closed_accepts table (notes_in d (Some table) here) here (trailer_is true c) ∙ rw n (and-false (declares 10 (field se 1) (length (segments_of here)) && same (field se 2) (control_of here))))

  -- 4. The set as surveyed.
  -- what is asked for to measure one that is not accepted
  pub measure_ready : {p : SetAt} → p ≡ place → (p ≡ set_at d body p.start) × ((SetIs d body p.start p) × Scoped rows scope)
  measure_ready q = rw q (ap (set_at d body) (sym s.is.starts), (at_start s.is, s.tables))

  module _ (ids : List (List ℕ)) (repeated : Bool) {seen : SeenSet} {mark : Mark} (c : SeenIs d (table_by ids rows scope) body at seen)
      (m : mark ≡ mark_by repeated seen.quiet seen.clean) (q : seen.place ≡ place) where
    marked : MarkIs repeated (report_at d (table_by ids rows scope) body at []) mark
    marked = record { quiet = seen.quiet; untold = c.untold; marked = m ∙ ap (mark_by repeated seen.quiet) c.clean }

    -- one that is accepted
    pub surveyed_accepted : {told : Told} → is_accepted mark ≡ true → told ≡ record { length = sat (15 + length control); segments = 2 }
        → SurveyedIs d (table_by ids rows scope) body at repeated (record { mark = mark; block = told; end = seen.place.end })
    surveyed_accepted z w =
        let three : length (field here.header 1) ≡ 3 = ap length (sym (kind_here s.headed)) ∙ header_three s.headed in
        record {
          marked = marked;
          measured = λ earlier k. rw (w, mark_block d (table_by ids rows scope here) here earlier (rw k at marked) z) (acceptance_measured here three (s.numbered ∙ sym s.is.control));
          ends = ap (λ (r : SetAt). r.end) q;
        }

    -- any other
    pub surveyed_rejected : {told : Told} → ((earlier : List Bytes) → repeated ≡ member (control_of (set_here d body seen.place.start)) earlier
        → (seen.quiet ≡ true → (report_at d (table_by ids rows scope) body seen.place.start []).notes ≡ [])
        → Measures d (block (report_at d (table_by ids rows scope) body seen.place.start earlier)) told)
        → SurveyedIs d (table_by ids rows scope) body at repeated (record { mark = mark; block = told; end = seen.place.end })
    surveyed_rejected w =
        let start : seen.place.start ≡ at = ap (λ (r : SetAt). r.start) q ∙ s.is.starts in
        record { marked = marked; measured = λ earlier k. (rw start at w) earlier k c.untold; ends = ap (λ (r : SetAt). r.end) q }
