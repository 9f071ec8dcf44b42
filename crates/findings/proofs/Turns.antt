-- What a walk tells at all, segment by segment: a segment is told by its standing, by an entry that it passes over or by its elements, or the
-- rest decides.
use Rattle.std.specs.Prelude.{if◌then◌else◌, Option, Some, None, is_some}
use mathlib.Core.Path.{◌≡◌, refl, sym, ◌∙◌}
use mathlib.Core.Bool.{Bool, true, false, not, true≢false}
use mathlib.Core.List.{List, [], ◌∷◌, ◌++◌, map}
use Prim.Native.Nat.{ℕ}
use native.Mathlib.Omega.{arith}
use lib.Dec.{eqb, ltb}
use lib.ListN.{take, get_or, length-take, drop_of_length-le}
use lib.Seq.{slice}
use Rattle.rules.specs.Base.{null, every}
use Rattle.rules.specs.Codes.{segment_number}
use Rattle.rules.specs.Cutting.{Segment, field}
use Rattle.tables.specs.Rows.{column}
use Rattle.rules.specs.Elements.{Finding, findings}
use Rattle.rules.specs.Segments.{echoed}
use Rattle.rules.specs.declared.Delimiters.{Delimiters}
use Rattle.rules.specs.declared.SegmentCode.{SegmentCode}
use Rattle.rules.specs.declared.SegmentCode.TheVariants as code
use Rattle.tables.specs.Reading.{Guide, entry_at}
use Rattle.findings.specs.Events.{Event, Element}
use Rattle.findings.specs.Steps.{bumped, stands, own_of, check_of, present_of, passing_of, outcome, codes_of, next_missing}
use Rattle.findings.specs.Remaining.{Slots, events, missing_in, lined, segment_events, walk_slots, set_slots}
use Rattle.findings.specs.Turns.{Turn, Noted, Quiet, used_again, used_anew, turn_by, turn_of}
use Rattle.findings.specs.declared.Present.{Present}
use Rattle.findings.specs.declared.Standing.{Standing}
use Rattle.findings.specs.declared.Standing.TheVariants.{Unknown, Unlisted, Before, Again, Later}
use Rattle.findings.proofs.Search.{missed_by, miss_law}

-- 1. Lists of events that are not empty.
abbrev silent : Slots → Bool
silent slots = null (events slots)

null_left : (a b : List Event) → null a ≡ false → null (a ++ b) ≡ false
null_left [] b e = absurd (true≢false e)
null_left (x ∷ a) b e = refl

null_right : (a b : List Event) → null b ≡ false → null (a ++ b) ≡ false
null_right [] b e = e
null_right (x ∷ a) b e = refl

none_between : (k : ℕ) (rows : Guide) → slice k k rows ≡ []
none_between k rows = drop_of_length-le (take k rows) {i = k} (omega (arith, length-take k rows))

module _ (d : Delimiters) (ids : List (List ℕ)) (rows : Guide) (closed : Bool) where
  abbrev walk : Present → ℕ → List Segment → Slots
  walk = walk_slots d ids rows closed

  abbrev noted : Option SegmentCode → ℕ → ℕ → Segment → List Event
  noted = segment_events d rows

  -- 2. A segment by its standing.
  module _ (p : Present) (n : ℕ) (s : Segment) (ss : List Segment) where
    -- what is left with this standing
    abbrev told_by : Standing → List Event
    told_by st =
        (missing_in n (slice (passing_of st p) (present_of st p).row rows) ++ noted (own_of rows st p) (check_of st p) n s)
        ++ events (walk (present_of st p) (bumped n) ss)

    -- what a turn says of it
    abbrev Says : Turn → Standing → Type 0
    Says Noted st = null (told_by st) ≡ false
    Says (Quiet k uses) st = told_by st ≡ noted None k n s ++ events (walk (record { row = k; used = uses }) (bumped n) ss)

    -- a code is told
    coded : (own : SegmentCode) (check : ℕ) (after : Present) → eqb (segment_number (Some own)) 0 ≡ false
        → null ((missing_in n (slice p.row p.row rows) ++ noted (Some own) check n s) ++ events (walk after (bumped n) ss)) ≡ false
    unfolding segment_events every
    coded own check after e =
        let missed = missing_in n (slice p.row p.row rows) in
        null_left (missed ++ noted (Some own) check n s) (events (walk after (bumped n) ss)) (null_right missed (noted (Some own) check n s) (rw e))

    again : Says (used_again rows p.row (bumped p.used)) Again
    unfolding missing_in
    again = go (ltb (column (get_or rows p.row []) 5) (bumped p.used)) refl
      where
        go : (b : Bool) → ltb (column (get_or rows p.row []) 5) (bumped p.used) ≡ b
            → Says (if b then Noted else Quiet p.row (bumped p.used)) Again
        go true e = rw e (coded code.BeyondMaximum p.row (record { row = p.row; used = bumped p.used }) refl)
        go false e = rw (e, none_between p.row rows)

    anew : (k : ℕ) → Says (used_anew rows (bumped p.row) k) (Later k)
    anew k = go (next_missing rows (bumped p.row) k) (miss_law n rows (bumped p.row) k)
      where
        go : (m : Option ℕ) → missing_in n (slice (bumped p.row) k rows) ≡ missed_by n rows k m → Says (if is_some m then Noted else Quiet k 1) (Later k)
        go (Some m) e = rw e
        go None e = rw e

    turn_by_lem : (st : Standing) → Says (turn_by ids rows p st) st
    turn_by_lem Unknown = coded code.NotKnown p.row p refl
    turn_by_lem Unlisted = coded code.NotInTable p.row p refl
    turn_by_lem (Before k) = coded code.OutOfOrder k p refl
    turn_by_lem Again = again
    turn_by_lem (Later k) = anew k

    turn_says : Says (turn_of ids rows p (field s 0)) (stands ids rows p.row (field s 0))
    unfolding turn_of
    turn_says = turn_by_lem (stands ids rows p.row (field s 0))

  -- 3. A segment by its elements.
  module _ (k n : ℕ) (s : Segment) (rest : List Event) where
    clean_quiet : null (findings d (entry_at rows k) s) ≡ true → noted None k n s ++ rest ≡ rest
    unfolding segment_events every
    clean_quiet e = go (findings d (entry_at rows k) s) e
      where
        go : (fs : List Finding) → null fs ≡ true → (lined (echoed (field s 0)) n (codes_of None (not (null fs))) ++ map Element fs) ++ rest ≡ rest
        go [] q = refl
        go (f ∷ fs) q = absurd (true≢false (sym q))

    faulty_told : null (findings d (entry_at rows k) s) ≡ false → null (noted None k n s ++ rest) ≡ false
    unfolding segment_events every
    faulty_told e = rw e

  -- 4. The segments in their order.
  -- the header: it is told where its elements are faulty, else those after it decide
  module _ (s : Segment) (ss : List Segment) where
    abbrev all : List Event
    all = events (set_slots d ids rows closed 1 (s ∷ ss))

    pub first_faulty : null (findings d (entry_at rows 0) s) ≡ false → null all ≡ false
    unfolding set_slots events missing_in
    first_faulty f = faulty_told 0 1 s (events (walk (record { row = 0; used = 1 }) 2 ss)) f

    pub first_clean : null (findings d (entry_at rows 0) s) ≡ true → all ≡ events (walk (record { row = 0; used = 1 }) 2 ss)
    unfolding set_slots events missing_in
    first_clean f = clean_quiet 0 1 s (events (walk (record { row = 0; used = 1 }) 2 ss)) f

  -- one after it: it is told by its standing or by its elements, else those after it decide
  module _ (p : Present) (n : ℕ) (s : Segment) (ss : List Segment) where
    pub next_noted : turn_of ids rows p (field s 0) ≡ Noted → silent (walk p n (s ∷ ss)) ≡ false
    unfolding walk_slots events outcome
    next_noted e = rw e at (turn_says p n s ss)

    module _ {k uses : ℕ} (e : turn_of ids rows p (field s 0) ≡ Quiet k uses) where
      abbrev onward : List Event
      onward = events (walk (record { row = k; used = uses }) (bumped n) ss)

      by_elements : events (walk p n (s ∷ ss)) ≡ noted None k n s ++ onward
      unfolding walk_slots events outcome
      by_elements = rw e at (turn_says p n s ss)

      pub next_faulty : null (findings d (entry_at rows k) s) ≡ false → silent (walk p n (s ∷ ss)) ≡ false
      next_faulty f = rw by_elements (faulty_told k n s onward f)

      pub next_clean : null (findings d (entry_at rows k) s) ≡ true → events (walk p n (s ∷ ss)) ≡ onward
      next_clean f = by_elements ∙ clean_quiet k n s onward f

  -- 5. After the last segment.
  pub closed_silent : (p : Present) (n : ℕ) → closed ≡ true → silent (walk p n []) ≡ true
  unfolding walk_slots events
  closed_silent p n e = rw e
