-- A look stays within the bytes: where a segment ends that is passed, and where the course goes on after it.
use Rattle.std.specs.Prelude.{if◌then◌else◌, Option, None, Some}
use mathlib.Core.Path.{◌≡◌, refl, sym, ap, ◌∙◌}
use mathlib.Core.Bool.{Bool, true, false, ◌&&◌}
use mathlib.Core.List.{List, [], ◌∷◌}
use Prim.Native.Nat.{ℕ, zero, suc, ◌+◌, ◌-◌, ◌<◌, ◌≤◌}
use native.Mathlib.Omega.{arith}
use borrow.Author.Tests.{lt-ltb, ltb-true}
use lib.Dec.{eqb, ltb}
use lib.ListN.{length, take, drop, length-drop, length-take}
use lib.Seq.{take_all, length-take-le}
use Rattle.rules.specs.Base.{Bytes, ascii, same}
use Rattle.rules.specs.declared.Delimiters.{Delimiters}
use Rattle.text.specs.Text.{next_where, part}
use Rattle.text.proofs.Where.{next_within}
use Rattle.tables.specs.Rows.{is_row, row_is, note_is, codes_in}
use Rattle.tables.specs.Reading.{Guide, row_below}
use Rattle.elements.specs.Values.{row_code}
use Rattle.elements.specs.Marks.{no_marks, marked, breaks_note}
use Rattle.elements.specs.declared.Marks.{Marks}
use Rattle.sets.specs.Places.{closed_at}
use Rattle.sets.specs.declared.SetAt.{SetAt}
use Rattle.look.specs.Bytes.{is_other}
use Rattle.look.specs.Passing.{id_end, is_over, begins, stops, marks_with, read_rows, passed_by, passed}
use Rattle.look.specs.Looking.{turn_on, afterward, step_by, step_on, step_at, look_by, look_from, opened_by, looked}
use Rattle.look.specs.declared.segment.Passed.{Passed}
use Rattle.look.specs.declared.Course.{Course}
use Rattle.look.specs.declared.Turn.{Turn}
use Rattle.look.specs.declared.Step.{Step}
use Rattle.look.specs.declared.Step.TheVariants as step
use Rattle.look.proofs.Reading.{id_within, begins_within}

some_same : {A : Type 0} {x y : A} → Some x ≡ Some y → x ≡ y
some_same e = cc

-- 1. A segment.
module _ (table : List Bool) (d : Delimiters) (rest : Bytes) where
  stops_within : (end : ℕ) → end ≤ length rest → stops table d rest end ≤ length rest
  stops_within end h = next_within (is_other table) rest (begins table d rest end) (begins_within d.element rest end h)

  -- what was read ends within the bytes
  abbrev Ends : Option ℕ → Type 0
  Ends None = Unit {0}
  Ends (Some end) = end ≤ length rest

  read_within : (rows : Guide) (end : ℕ) (m : Marks) → end ≤ length rest → Ends (read_rows table d rest rows end m)
  unfolding read_rows
  read_within [] end m h = h
  read_within (r ∷ rows) end m h =
      go (is_row 1 r) (is_row 2 r) (eqb (row_code (row_is r (codes_in rows)) (part rest (begins table d rest end) (stops table d rest end))) 0)
      (is_row 4 r && breaks_note (marked m) (note_is r))
      (read_within rows (stops table d rest end) (marks_with table d rest m end) (stops_within end h)) (read_within rows end m h)
    where
      next : Option ℕ
      next = read_rows table d rest rows (stops table d rest end) (marks_with table d rest m end)

      here : Option ℕ
      here = read_rows table d rest rows end m

      go : (a b q w : Bool) → Ends next → Ends here
          → Ends (if a then Some end else (if b then (if q then next else None) else (if w then None else here)))
      go true b q w x y = h
      go false true true w x y = x
      go false true false w x y = tt
      go false false q true x y = tt
      go false false q false x y = y

  passed_within : (rows : Guide) (entry id : ℕ) {p : Passed} → id ≤ length rest → passed table d rest rows entry id ≡ Some p → p.length ≤ length rest
  unfolding passed
  passed_within rows entry id {p} h = by (read_rows table d rest (drop below rows) id no_marks) (read_within (drop below rows) id no_marks h)
    where
      below : ℕ
      below = row_below rows entry

      by : (o : Option ℕ) → Ends o → passed_by table d rest rows below o ≡ Some p → p.length ≤ length rest
      by None x q = let z : ◌≡◌ {A = ℕ} 0 1 = cc in absurd (omega arith)
      by (Some e) x q = go (is_over d.terminator rest e) q
        where
          go : (b : Bool) → ◌≡◌ {A = Option Passed} (if b then Some (record { length = e; next = next_where (is_row 1) rows below }) else None) (Some p) → p.length ≤ length rest
          go true f = let z : e ≡ p.length = ap (λ (q : Passed). q.length) (some_same f) in omega arith
          go false f = let z : ◌≡◌ {A = ℕ} 0 1 = cc in absurd (omega arith)

-- 2. A course.
module _ (table : List Bool) (d : Delimiters) (rows : Guide) (body : Bytes) where
  -- after a segment the course is one segment further, and not past the end
  abbrev Goes : Course → Option Step → Type 0
  Goes c None = Unit {0}
  Goes c (Some (step.Closed end)) = Unit {0}
  Goes c (Some (step.On v)) = (v.segments ≡ c.segments + 1) × (c.at < v.at) × (v.at ≤ length body + 1)

  goes_after : (c v : Course) (id : Bytes) → Goes c (Some (step.On v)) → Goes c (afterward id v)
  unfolding afterward
  goes_after c v id g = go (same id (ascii "SE")) (same id (ascii "ST"))
    where
      go : (se st : Bool) → Goes c (if se then Some (step.Closed v.at) else (if st then None else Some (step.On v)))
      go true st = tt
      go false true = tt
      go false false = g

  goes_by : (c : Course) → c.at < length body → (t : Option Turn) → Goes c (step_on table d rows body c t)
  goes_by c h None = tt
  goes_by c h (Some t) = go (passed table d rest rows t.row (id_end d rest)) refl
    where
      rest : Bytes
      rest = drop c.at body

      go : (o : Option Passed) → passed table d rest rows t.row (id_end d rest) ≡ o → Goes c (step_by table d rows body c t o)
      go None e = tt
      go (Some p) e =
          let l = passed_within table d rest rows t.row (id_end d rest) (id_within d rest) e in
          goes_after c (record { at = c.at + p.length + 1; row = t.row; used = t.used; next = p.next; segments = c.segments + 1 })
          (take (id_end d rest) rest) (refl, omega arith, omega (arith, length-drop c.at body))

  -- where the look goes on
  pub step_goes : (c : Course) {v : Course} → step_at table d rows body c ≡ Some (step.On v) → Goes c (Some (step.On v))
  unfolding step_at
  step_goes c e = rw e at (go (ltb c.at (length body)) refl)
    where
      on : Option Step
      on = step_on table d rows body c (turn_on rows c (take (id_end d (drop c.at body)) (drop c.at body)))

      go : (b : Bool) → ltb c.at (length body) ≡ b → Goes c (if b then on else None)
      go true l = goes_by c (ltb-true c.at (length body) l) (turn_on rows c (take (id_end d (drop c.at body)) (drop c.at body)))
      go false l = tt

  module _ (start header : ℕ) where
    -- the look at a course: each segment takes a byte, so that it goes on as long as there are bytes
    abbrev pub look_at : Course → Option SetAt
    look_at c = look_from table d rows body start header (length body + 1 - c.segments) c

    look_step : (c : Course) → c.segments ≤ c.at
        → look_at c ≡ look_by table d rows body start header (look_from table d rows body start header (length body + 1 - (c.segments + 1))) c (step_at table d rows body c)
    unfolding look_from step_at
    look_step c h = go (ltb c.at (length body)) refl
      where
        go : (b : Bool) → ltb c.at (length body) ≡ b
            → look_at c ≡ look_by table d rows body start header (look_from table d rows body start header (length body + 1 - (c.segments + 1))) c (step_at table d rows body c)
        go true l =
            let low = ltb-true c.at (length body) l in
            let q : length body + 1 - c.segments ≡ suc (length body + 1 - (c.segments + 1)) = omega arith in
            rw q
        go false l = rw l (ended (length body + 1 - c.segments))
          where
            ended : (fuel : ℕ) → look_from table d rows body start header fuel c ≡ None
            ended zero = refl
            ended (suc fuel) = rw l

    -- from the header on, and after each step
    pub look_start : (c : Course) → c.segments ≡ 1 → look_from table d rows body start header (length body) c ≡ look_at c
    look_start c q = let z : length body + 1 - c.segments ≡ length body = omega arith in rw z

    module _ (c : Course) (h : c.segments ≤ c.at) where
      pub look_on : {v : Course} → step_at table d rows body c ≡ Some (step.On v) → look_at c ≡ look_at v
      look_on e = look_step c h ∙ rw (e, (step_goes c e).0)

      pub look_closed : {end : ℕ} → step_at table d rows body c ≡ Some (step.Closed end) → look_at c ≡ Some (closed_at start header (c.segments + 1) c.at end)
      look_closed e = look_step c h ∙ rw e

      pub look_odd : step_at table d rows body c ≡ None → look_at c ≡ None
      look_odd e = look_step c h ∙ rw e

-- 3. At a place.
module _ (body : Bytes) (at : ℕ) where
  -- the bytes from there on, as they are lent
  abbrev pub left : Bytes
  left = take (length body - at) (drop at body)

  left_is : left ≡ drop at body
  left_is = take_all (length body - at) (drop at body) (omega (arith, length-drop at body))

  -- the id ends within them, and has its length
  pub id_ends : (d : Delimiters) {id : ℕ} → id ≡ id_end d left → id ≤ length left
  id_ends d q = omega (arith, id_within d left)

  pub id_length : (d : Delimiters) {id : ℕ} → id ≡ id_end d left → id ≡ length (take id left)
  id_length d {id} q = sym (length-take-le id left (id_ends d q))

  -- a segment that is passed ends within all bytes
  pub end_within : (table : List Bool) (d : Delimiters) (rows : Guide) (row : ℕ) {id : ℕ} {p : Passed} → at ≤ length body → id ≡ id_end d left
      → passed table d left rows row id ≡ Some p → at + p.length ≤ length body
  end_within table d rows row {id} h q e =
      let l = passed_within table d left rows row id (id_ends d q) e in
      omega (arith, length-take (length body - at) (drop at body))

module _ (table : List Bool) (d : Delimiters) (rows : Guide) (body : Bytes) (c : Course) (h : c.at < length body)
    {id : ℕ} (q : id ≡ id_end d (left body c.at)) where
  abbrev rest : Bytes
  rest = left body c.at

  -- what a step comes to, by where its segment stands and by its elements
  turned : step_at table d rows body c ≡ step_on table d rows body c (turn_on rows c (take id rest))
  unfolding step_at
  turned = rw (lt-ltb c.at (length body) h, q, left_is body c.at)

  pub step_odd : turn_on rows c (take id rest) ≡ None → step_at table d rows body c ≡ None
  step_odd e = turned ∙ rw e

  module _ {t : Turn} (e : turn_on rows c (take id rest) ≡ Some t) where
    read : step_at table d rows body c ≡ step_by table d rows body c t (passed table d rest rows t.row id)
    read = turned ∙ rw (e, q, left_is body c.at)

    pub step_faulty : passed table d rest rows t.row id ≡ None → step_at table d rows body c ≡ None
    step_faulty f = read ∙ rw f

    pub step_clean : {p : Passed} → passed table d rest rows t.row id ≡ Some p
        → step_at table d rows body c
        ≡ afterward (take id rest) (record { at = c.at + p.length + 1; row = t.row; used = t.used; next = p.next; segments = c.segments + 1 })
    step_clean f = read ∙ rw (f, q, left_is body c.at)

module _ (table : List Bool) (d : Delimiters) (rows : Guide) (body : Bytes) (at : ℕ) (h : at < length body) {id : ℕ} (q : id ≡ id_end d (left body at)) where
  -- what a look comes to, by the header's elements
  opened : looked table d rows body at ≡ opened_by table d rows body at (passed table d (left body at) rows 0 id)
  unfolding looked
  opened = rw (lt-ltb at (length body) h, q, left_is body at)

  pub open_faulty : passed table d (left body at) rows 0 id ≡ None → looked table d rows body at ≡ None
  open_faulty f = opened ∙ rw f

  pub open_clean : {p : Passed} → passed table d (left body at) rows 0 id ≡ Some p
      → looked table d rows body at
      ≡ look_from table d rows body at (at + p.length) (length body) (record { at = at + p.length + 1; row = 0; used = 1; next = p.next; segments = 1 })
  open_clean f = opened ∙ rw f
