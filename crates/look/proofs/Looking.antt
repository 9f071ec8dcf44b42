-- A look at a set is quiet where the set has a trailer and its walk tells nothing.
use Rattle.std.specs.Prelude.{if◌then◌else◌, option_to_list, Option, None, Some}
use mathlib.Core.Path.{◌≡◌, refl, sym, ap, ◌∙◌}
use mathlib.Core.Bool.{Bool, true, false, ◌&&◌}
use mathlib.Core.List.{List, [], ◌∷◌, ◌++◌}
use Prim.Native.Nat.{ℕ, zero, suc, ◌+◌, ◌-◌, ◌<◌, ◌≤◌}
use native.Mathlib.Numerals.{add-one}
use native.Mathlib.Omega.{arith}
use borrow.Author.Tests.{lt-ltb, ltb-true, ltb-false, leb-true}
use lib.Dec.{eqb, ltb}
use lib.ListN.{length, get_or, take, drop}
use Rattle.rules.specs.Base.{Bytes, null}
use Rattle.rules.specs.Cutting.{Segment, field, split, pieces, segments}
use Rattle.rules.specs.Elements.{findings}
use Rattle.rules.specs.Sets.{is_st, is_se, body_of, trailer_of}
use Rattle.rules.specs.declared.Delimiters.{Delimiters}
use Rattle.rules.proofs.SetLaws.{se_st}
use Rattle.text.specs.Text.{index_of, next_where, part}
use Rattle.segments.proofs.Pieces.{segments_at}
use Rattle.tables.specs.Rows.{is_row, rows_in}
use Rattle.tables.specs.Reading.{Guide, Limits, Orderly, entry_at, row_below, has_few, names_own, has_none}
use Rattle.tables.proofs.Laws.{row_within, followed_from, followed_at}
use Rattle.sets.specs.Places.{closed_at, unclosed_at, set_from, set_at}
use Rattle.sets.specs.declared.SetAt.{SetAt}
use Rattle.sets.proofs.Turns.{set_opens, set_goes, set_ends}
use Rattle.sets.proofs.Sets.{set_whole}
use Rattle.findings.specs.Events.{Event}
use Rattle.findings.specs.Steps.{bumped, start}
use Rattle.findings.specs.Remaining.{events, walk_slots, set_slots, remaining}
use Rattle.findings.specs.Turns.{turn_of}
use Rattle.findings.specs.declared.Present.{Present}
use Rattle.findings.specs.Turns as walk
use Rattle.findings.proofs.Turns.{first_faulty, first_clean, next_noted, next_faulty, next_clean, closed_silent}
use Rattle.look.specs.Bytes.{valid_bytes}
use Rattle.look.specs.Passing.{id_end, passed}
use Rattle.look.specs.Looking.{turn_on, afterward, step_by, step_on, step_at, look_by, look_from, opened_by, looked}
use Rattle.look.specs.declared.Course.{Course}
use Rattle.look.specs.declared.Turn.{Turn}
use Rattle.look.specs.declared.Step.TheVariants as step
use Rattle.look.proofs.Passing.{Fits, passed_law, id_field}
use Rattle.look.proofs.Turning.{Keeps, Agrees, turn_agrees}

-- 1. What a look answers, by the set's place and what is told of it.
abbrev answered : SetAt → List Event → Option SetAt
answered place told = if place.closed && null told then Some place else None

odd_told : (place : SetAt) (told : List Event) → null told ≡ false → answered place told ≡ None
odd_told place told e = go place.closed
  where
    go : (b : Bool) → (if b && null told then Some place else None) ≡ None
    go true = rw e
    go false = refl

-- a set's own segments among those after its header: up to its trailer, or before the next header
abbrev own : List Segment → List Segment
own ss = body_of ss ++ option_to_list (trailer_of ss)

own_last : (s : Segment) (ss : List Segment) → is_se s ≡ true → own (s ∷ ss) ≡ s ∷ []
unfolding body_of trailer_of
own_last s ss e = rw (se_st s e, e)

own_next : (s : Segment) (ss : List Segment) → is_se s ≡ false → is_st s ≡ false → own (s ∷ ss) ≡ s ∷ own ss
unfolding body_of trailer_of
own_next s ss e f = rw (f, e)

module _ (d : Delimiters) (ids : List (List ℕ)) (rows : Guide) (body : Bytes) (small : length body < 9223372036854775808)
    (apart : eqb d.element d.terminator ≡ false) (limits : Limits rows) (orderly : Orderly ids rows) where
  -- 2. The segment at a place.
  module _ (at : ℕ) where
    abbrev end : ℕ
    end = at + index_of d.terminator (drop at body)

    abbrev here : Segment
    here = split d.element (take (end - at) (drop at body))

    cut_here : split d.element (take (index_of d.terminator (drop at body)) (drop at body)) ≡ here
    cut_here = let z : end - at ≡ index_of d.terminator (drop at body) = omega arith in rw z

    id_here : take (id_end d (drop at body)) (drop at body) ≡ field here 0
    id_here = id_field d (drop at body) ∙ ap (λ (s : Segment). field s 0) cut_here

    fits : (row : ℕ) → is_row 1 (get_or rows row []) ≡ true → (let below = drop (row_below rows row) rows in Fits 1 (length (rows_in below)) below)
    fits row e =
        let h = row_within 1 (omega arith) rows row e in
        rw (lt-ltb row (length rows) h, add-one)
        (record {
          size = omega arith;
          few = leb-true _ _ (followed_at 1 has_few rows row orderly.few h e);
          named = followed_at 1 names_own rows row orderly.named h e;
          last = followed_from 4 has_none rows (suc row) orderly.last;
        })

    pass_here : (row : ℕ) → is_row 1 (get_or rows row []) ≡ true
        → passed (valid_bytes d) d (drop at body) rows row (id_end d (drop at body))
        ≡ (if null (findings d (entry_at rows row) here) then Some (record { length = index_of d.terminator (drop at body); next = next_where (is_row 1) rows (row + 1) }) else None)
    pass_here row e =
        rw (← cut_here, passed_law d apart (drop at body) rows row (fits row e), lt-ltb row (length rows) (row_within 1 (omega arith) rows row e))

  -- 3. The segments after the header.
  module _ (start header : ℕ) where
    -- the set that goes on at a place, and what is told of it from there on
    abbrev place : ℕ → ℕ → SetAt
    place count at = set_from d.element start header count at (pieces d.terminator (drop at body))

    abbrev rest : ℕ → List Segment
    rest at = own (segments d (drop at body))

    abbrev told : Present → ℕ → List Segment → List Event
    told p n ss = events (walk_slots d ids rows true p n ss)

    -- a look at a course is answered so
    abbrev Says : Course → ℕ → Option SetAt → Type 0
    Says c n look = look ≡ answered (place c.segments c.at) (told (record { row = c.row; used = c.used }) n (rest c.at))

    abbrev onward : ℕ → Course → Option SetAt
    onward fuel = look_from (valid_bytes d) d rows body start header fuel

    says_ended : (c : Course) (n : ℕ) → length body ≤ c.at → Says c n None
    says_ended c n h = rw (set_ends d.terminator body c.at h d.element start header c.segments)

    module _ (fuel : ℕ) (c : Course) (n : ℕ) (h : c.at < length body) (keeps : Keeps rows c)
        (further : (v : Course) (m : ℕ) → length body ≤ v.at + fuel → Keeps rows v → Says v m (onward fuel v)) (enough : length body ≤ c.at + suc fuel) where
      abbrev s : Segment
      s = here c.at

      abbrev p : Present
      p = record { row = c.row; used = c.used }

      abbrev after : List Segment
      after = segments d (drop (end c.at + 1) body)

      cut : segments d (drop c.at body) ≡ s ∷ after
      cut = segments_at d body c.at (end c.at) h refl

      placed : (se st : Bool) → is_se s ≡ se → is_st s ≡ st
          → place c.segments c.at
          ≡ (if se then closed_at start header (c.segments + 1) c.at (end c.at + 1)
          else (if st then unclosed_at start header c.segments c.at else place (c.segments + 1) (end c.at + 1)))
      placed = set_goes d.terminator body c.at (end c.at) h refl d.element start header c.segments

      -- where something is told of a set that begins with the segment
      says_odd : ((ss : List Segment) → null (told p n (s ∷ ss)) ≡ false) → Says c n None
      says_odd f = go (is_se s) refl (is_st s) refl
        where
          go : (se : Bool) → is_se s ≡ se → (st : Bool) → is_st s ≡ st → Says c n None
          go true e st g = rw (cut, own_last s after e) (sym (odd_told (place c.segments c.at) (told p n (s ∷ [])) (f [])))
          go false e true g = rw (placed false true e g)
          go false e false g = rw (cut, own_next s after e g) (sym (odd_told (place c.segments c.at) (told p n (s ∷ own after)) (f (own after))))

      -- where nothing is told of the segment
      module _ (k uses : ℕ) (e : turn_of ids rows p (field s 0) ≡ walk.Quiet k uses) (clean : null (findings d (entry_at rows k) s) ≡ true)
          (entry : is_row 1 (get_or rows k []) ≡ true) (few : uses ≤ c.used + 1) where
        abbrev next : Course
        next = record { at = end c.at + 1; row = k; used = uses; next = next_where (is_row 1) rows (k + 1); segments = c.segments + 1 }

        onto : (ss : List Segment) → told p n (s ∷ ss) ≡ told (record { row = k; used = uses }) (bumped n) ss
        onto ss = next_clean d ids rows true p n s ss e clean

        says_on : Says c n (look_by (valid_bytes d) d rows body start header (onward fuel) c (afterward (field s 0) next))
        unfolding afterward
        says_on = go (is_se s) refl (is_st s) refl
          where
            go : (se : Bool) → is_se s ≡ se → (st : Bool) → is_st s ≡ st
                → Says c n (look_by (valid_bytes d) d rows body start header (onward fuel) c
                (if se then Some (step.Closed next.at) else (if st then None else Some (step.On next))))
            go true q st g =
                rw (placed true st q g, cut, own_last s after q, onto [], closed_silent d ids rows true (record { row = k; used = uses }) (bumped n) refl)
            go false q true g = rw (placed false true q g)
            go false q false g =
                rw (placed false false q g, cut, own_next s after q g, onto (own after))
                (further next (bumped n) (omega arith) (record { entry = entry; onward = refl; few = omega (arith, keeps.few) }))

      -- by where the segment stands
      says_by : (t : Option Turn) → Agrees ids rows limits orderly c keeps (omega arith) (field s 0) t
          → Says c n (look_by (valid_bytes d) d rows body start header (onward fuel) c (step_on (valid_bytes d) d rows body c t))
      says_by None a = says_odd (λ ss. next_noted d ids rows true p n s ss a.0)
      says_by (Some t) a = rw (pass_here c.at t.row a.1.0) (go (null (findings d (entry_at rows t.row) s)) refl)
        where
          go : (b : Bool) → null (findings d (entry_at rows t.row) s) ≡ b
              → Says c n (look_by (valid_bytes d) d rows body start header (onward fuel) c
              (step_by (valid_bytes d) d rows body c t
              (if b then Some (record { length = index_of d.terminator (drop c.at body); next = next_where (is_row 1) rows (t.row + 1) }) else None)))
          go true f = rw (id_here c.at) (says_on t.row t.used a.0 f a.1.0 a.1.1)
          go false f = says_odd (λ ss. next_faulty d ids rows true p n s ss a.0 f)

      says_at : Says c n (onward (suc fuel) c)
      unfolding look_from step_at
      says_at = rw (lt-ltb c.at (length body) h, id_here c.at) (says_by (turn_on rows c (field s 0)) (turn_agrees ids rows limits orderly c keeps (omega arith) (field s 0)))

    -- the look from a cursor on
    says_from : (fuel : ℕ) (c : Course) (n : ℕ) → length body ≤ c.at + fuel → Keeps rows c → Says c n (onward fuel c)
    unfolding look_from step_at
    says_from zero c n enough keeps = says_ended c n (omega arith)
    says_from (suc fuel) c n enough keeps = go (ltb c.at (length body)) refl (says_from fuel)
      where
        go : (b : Bool) → ltb c.at (length body) ≡ b
            → ((v : Course) (m : ℕ) → length body ≤ v.at + fuel → Keeps rows v → Says v m (onward fuel v)) → Says c n (onward (suc fuel) c)
        go true l ih = says_at fuel c n (ltb-true c.at (length body) l) keeps ih enough
        go false l ih = rw l (says_ended c n (ltb-false c.at (length body) l))

-- A look at the set of a place, for an orderly table: it is quiet where the set has a trailer and nothing is told of its bytes.
pub look_is : (d : Delimiters) {ids : List (List ℕ)} {rows : Guide} (body : Bytes) {at : ℕ} → at < length body → length body < 9223372036854775808
    → eqb d.element d.terminator ≡ false → Limits rows → Orderly ids rows
    → looked (valid_bytes d) d rows body at
    ≡ (let place = set_at d body at in
    if place.closed && null (events (remaining (part body at place.end) d ids rows true start)) then Some place else None)
unfolding looked remaining start
look_is d {ids} {rows} body {at} h small apart limits orderly =
    rw (lt-ltb at (length body) h, pass_here d ids rows body small apart limits orderly at 0 limits.begins, set_whole d body at (set_at d body at) h refl {end = first} refl)
    (go (null (findings d (entry_at rows 0) header)) refl)
  where
    first : ℕ
    first = at + index_of d.terminator (drop at body)

    header : Segment
    header = split d.element (take (first - at) (drop at body))

    after : List Segment
    after = own (segments d (drop (first + 1) body))

    go : (b : Bool) → null (findings d (entry_at rows 0) header) ≡ b
        → opened_by (valid_bytes d) d rows body at (if b then Some (record { length = index_of d.terminator (drop at body); next = next_where (is_row 1) rows 1 }) else None)
        ≡ answered (set_at d body at) (events (set_slots d ids rows true 1 (header ∷ after)))
    go true f =
        rw (first_clean d ids rows true header after f, set_opens d body at first h refl)
        (says_from d ids rows body small apart limits orderly at first (length body)
        (record { at = first + 1; row = 0; used = 1; next = next_where (is_row 1) rows 1; segments = 1 }) 2 (omega arith)
        (record { entry = limits.begins; onward = refl; few = omega arith }))
    go false f = sym (odd_told (set_at d body at) (events (set_slots d ids rows true 1 (header ∷ after))) (first_faulty d ids rows true header after f))
