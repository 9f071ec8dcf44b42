-- The check of a segment: one row after the other, and that what it finds is document 01's.
use Rattle.std.proofs.Common.{◌≡◌, ℕ, zero, suc, ◌+◌, ◌-◌, ◌<◌, ◌≤◌, Bool, true, false, not, ◌&&◌, ◌||◌, eqb, ltb, List, [], ◌∷◌, ◌++◌, map, length, get_or, take, drop, sym, refl, ap, ◌∙◌, true≢false, zero-lt-suc, add-one, arith, length-append, drop_of_length-le, length-take, take_all, drop-cons, take-take, drop-drop, ltb-false, ltb-true, le-ltb, lt-ltb, if◌then◌else◌, Option, Some, None, is_some}
use mathlib.Core.List.{map_congr_left}
use Rattle.rules.specs.Base.{Bytes, null, any, every}
use Rattle.rules.specs.Cutting.{split}
use Rattle.rules.specs.Elements.{is_echoed, longest_echo, echo_of, place_codes, Finding, found, findings}
use Rattle.rules.specs.Elements as law
use Rattle.rules.specs.Tables.{Syntax}
use Rattle.rules.specs.declared.Delimiters.{Delimiters}
use Rattle.rules.specs.declared.Span.{Span}
use Rattle.text.specs.Text.{index_where, part}
use Rattle.text.proofs.Search.{find_le}
use Rattle.segments.proofs.Fields.{FieldAt, field_first, field_next, field_some, field_none}
use Rattle.tables.specs.Rows.{is_row, rows_in, syntax_in}
use Rattle.tables.specs.Reading.{Guide, entry_at, row_at, row_below}
use Rattle.tables.proofs.Laws.{below_rest, rows_here, rows_skip, rows_stop, rows_end}
use Rattle.elements.specs.Checks.{finding_in, beginning, echo_at, finding_by, given_codes, findings_at, place_after, note_row, field_after, is_coded, surplus, surplus_findings, codes_at, past, over, found_in, next_found, findings_in, findings_left, findings_from, start}
use Rattle.elements.specs.declared.Cursor.{Cursor}
use Rattle.elements.specs.declared.Found.{Found}
use Rattle.elements.specs.declared.PlaceCodes.{PlaceCodes}
use Rattle.elements.proofs.Places.{next_field, next_present, next_at, after_within, ascending_null, place_codes_lem}

-- 1. The codes of a place.
-- a code is a finding, and no code is none
coded_null : (s : Bytes) (p : PlaceCodes) → null (findings_at s p) ≡ not (is_coded p)
unfolding findings_at
coded_null s p = mapped (given_codes p) ∙ ascending_null p.own p.noted ∙ go (eqb p.own 0) (eqb p.noted 0)
  where
    mapped : (cs : List ℕ) → null (map (λ c. finding_in s (finding_by p c)) cs) ≡ null cs
    mapped [] = refl
    mapped (c ∷ cs) = refl

    go : (x y : Bool) → x && y ≡ not (not x || not y)
    go true true = refl
    go true false = refl
    go false y = refl

some_found : (s : Bytes) (p : PlaceCodes) → is_coded p ≡ true → 0 < length (findings_at s p)
some_found s p e = go (findings_at s p) (coded_null s p ∙ rw e)
  where
    go : (fs : List Finding) → null fs ≡ false → 0 < length fs
    go [] h = absurd (true≢false h)
    go (f ∷ fs) h = zero-lt-suc _

none_found : (s : Bytes) (p : PlaceCodes) → is_coded p ≡ false → findings_at s p ≡ []
none_found s p e = go (findings_at s p) (coded_null s p ∙ rw e)
  where
    go : (fs : List Finding) → null fs ≡ true → fs ≡ []
    go [] h = refl
    go (f ∷ fs) h = absurd (true≢false (sym h))

-- 2. What is echoed of a value is its beginning.
begins : (s : Bytes) (v : Span) → part s (beginning v).start (beginning v).end ≡ take 99 (part s v.start v.end)
begins s v = go (ltb (v.start + 99) v.end) refl
  where
    go : (b : Bool) → ltb (v.start + 99) v.end ≡ b
        → take ((if b then v.start + 99 else v.end) - v.start) (drop v.start s) ≡ take 99 (part s v.start v.end)
    go true h =
        let long = ltb-true (v.start + 99) v.end h in
        let cut : v.start + 99 - v.start ≡ 99 = omega arith in
        rw cut (sym (take-take 99 (v.end - v.start) (drop v.start s) (omega arith)))
    go false h =
        let short = ltb-false (v.start + 99) v.end h in
        sym (take_all 99 (part s v.start v.end) (omega (arith, length-take (v.end - v.start) (drop v.start s))))

echo_is : (s : Bytes) (p : PlaceCodes) (c : ℕ)
    → part s (echo_at p c).start (echo_at p c).end ≡ echo_of c p.own (part s p.value.start p.value.end)
unfolding echo_at longest_echo echo_of
echo_is s p c = go (is_echoed c p.own)
  where
    v : Span
    v = p.value

    at : Bool → Span
    at b = if b then beginning v else record { start = v.start; end = v.start }

    go : (b : Bool) → part s (at b).start (at b).end ≡ (if b then take 99 (part s v.start v.end) else [])
    go true = begins s v
    go false = let none : v.start - v.start ≡ 0 = omega arith in rw none

-- 3. One row after the other.
-- no note stands before the first
abbrev pub is_end : List ℕ → Bool
is_end r = is_row 4 r || is_row 1 r

notes_in : (xs : Guide) → syntax_in (drop (index_where is_end xs) xs) ≡ syntax_in xs
unfolding syntax_in index_where
notes_in [] = refl
notes_in (x ∷ xs) = go (is_row 4 x) refl (is_row 1 x) refl (notes_in xs)
  where
    go : (a : Bool) → is_row 4 x ≡ a → (b : Bool) → is_row 1 x ≡ b → syntax_in (drop (index_where is_end xs) xs) ≡ syntax_in xs
        → syntax_in (drop (if a || b then 0 else suc (index_where is_end xs)) (x ∷ xs)) ≡ syntax_in (x ∷ xs)
    go true e b f h = refl
    go false e true f h = refl
    go false e false f h = rw (e, f) h

pub notes_from : (rows : Guide) (k : ℕ) → syntax_in (drop (note_row rows k) rows) ≡ syntax_in (drop k rows)
unfolding note_row
notes_from rows k = rw (← drop-drop (index_where is_end (drop k rows)) k rows) (notes_in (drop k rows))

-- a place that has one after it
one_on : (n : ℕ) → n < 18446744073709551615 → place_after n ≡ n + 1
one_on n h = omega arith

module _ (d : Delimiters) (s : Bytes) (rows : Guide) where
  -- at a cursor, by what the next row is
  module _ (c : Cursor) where
    -- the value is what the next field has
    pub value_is : (codes_at d s rows c).value ≡ field_after d.element s c.end
    unfolding codes_at
    value_is = refl

    here : c.row < length rows → drop c.row rows ≡ get_or rows c.row [] ∷ drop (c.row + 1) rows
    here h = rw add-one (drop-cons rows c.row [] h)

    pub found_end : length rows ≤ c.row → next_found d s rows c ≡ surplus s c
    unfolding next_found found_in
    found_end h = rw (drop_of_length-le rows {i = c.row} h)

    module _ (h : c.row < length rows) where
      pub found_stop : is_row 1 (get_or rows c.row []) ≡ true → next_found d s rows c ≡ surplus s c
      unfolding next_found found_in
      found_stop e = rw (here h, e)

      pub found_over : is_row 1 (get_or rows c.row []) ≡ false → is_row 2 (get_or rows c.row []) ≡ false
          → next_found d s rows c ≡ next_found d s rows (over d s rows c)
      unfolding next_found found_in
      found_over e f = rw (here h, e, f)

      module _ (e : is_row 1 (get_or rows c.row []) ≡ false) (f : is_row 2 (get_or rows c.row []) ≡ true) where
        pub found_here : is_coded (codes_at d s rows c) ≡ true → next_found d s rows c ≡ Some (record { codes = codes_at d s rows c; next = past d s rows c })
        unfolding next_found found_in
        found_here g = rw (here h, e, f, g)

        pub found_later : is_coded (codes_at d s rows c) ≡ false → next_found d s rows c ≡ next_found d s rows (past d s rows c)
        unfolding next_found found_in
        found_later g = rw (here h, e, f, g)

    -- all that is found
    left_end : length rows ≤ c.row → findings_left d s rows c ≡ surplus_findings s c
    unfolding findings_left findings_in
    left_end h = rw (drop_of_length-le rows {i = c.row} h)

    module _ (h : c.row < length rows) where
      left_stop : is_row 1 (get_or rows c.row []) ≡ true → findings_left d s rows c ≡ surplus_findings s c
      unfolding findings_left findings_in
      left_stop e = rw (here h, e)

      left_over : is_row 1 (get_or rows c.row []) ≡ false → is_row 2 (get_or rows c.row []) ≡ false
          → findings_left d s rows c ≡ findings_left d s rows (over d s rows c)
      unfolding findings_left findings_in
      left_over e f = rw (here h, e, f)

      left_here : is_row 1 (get_or rows c.row []) ≡ false → is_row 2 (get_or rows c.row []) ≡ true
          → findings_left d s rows c ≡ findings_at s (codes_at d s rows c) ++ findings_left d s rows (past d s rows c)
      unfolding findings_left findings_in
      left_here e f = rw (here h, e, f)

  -- 4. What is found next, and then the rest, is all that is found.
  -- what is found has a code
  abbrev Coded : Option Found → Type 0
  Coded (Some f) = is_coded f.codes ≡ true
  Coded None = Unit {0}

  abbrev Told : Cursor → Type 0
  Told c = (findings_left d s rows c ≡ findings_from d s rows (next_found d s rows c)) × Coded (next_found d s rows c)

  -- after the rows
  told_surplus : (c : Cursor) → next_found d s rows c ≡ surplus s c
      → ((n : ℕ) → findings_left d s rows (record { notes = c.notes; row = c.row; place = c.place; end = n })
      ≡ surplus_findings s (record { notes = c.notes; row = c.row; place = c.place; end = n }))
      → Told c
  unfolding surplus findings_at echo_at every any
  told_surplus c e f = go (ltb c.end (length s)) refl
    where
      go : (b : Bool) → ltb c.end (length s) ≡ b → Told c
      go true l = rw (e, l, f c.end, l, f (length s), le-ltb (length s) (length s) (omega arith)) (refl, refl)
      go false l = rw (e, l, f c.end, l) (refl, tt)

  -- one row, and the rest as it is told
  told_row : (c : Cursor) → (c.row < length rows → Told (over d s rows c)) → (c.row < length rows → Told (past d s rows c)) → Told c
  told_row c skip next = go (ltb c.row (length rows)) refl
    where
      turn : c.row < length rows → (a : Bool) → is_row 1 (get_or rows c.row []) ≡ a
          → (b : Bool) → is_row 2 (get_or rows c.row []) ≡ b → (q : Bool) → is_coded (codes_at d s rows c) ≡ q → Told c
      turn l true e b f q g =
          told_surplus c (found_stop c l e) (λ n. left_stop (record { notes = c.notes; row = c.row; place = c.place; end = n }) l e)
      turn l false e false f q g = rw (found_over c l e f, left_over c l e f) (skip l)
      turn l false e true f true g = rw (found_here c l e f g, left_here c l e f) (refl, g)
      turn l false e true f false g = rw (found_later c l e f g, left_here c l e f, none_found s (codes_at d s rows c) g) (next l)

      go : (b : Bool) → ltb c.row (length rows) ≡ b → Told c
      go true l = turn (ltb-true _ _ l) (is_row 1 (get_or rows c.row [])) refl (is_row 2 (get_or rows c.row [])) refl (is_coded (codes_at d s rows c)) refl
      go false l =
          let past_end = ltb-false c.row (length rows) l in
          told_surplus c (found_end c past_end) (λ n. left_end (record { notes = c.notes; row = c.row; place = c.place; end = n }) past_end)

  told_by : (m : ℕ) (c : Cursor) → length rows ≤ c.row + m → Told c
  told_by zero c h = told_row c (λ l. absurd (omega arith)) (λ l. absurd (omega arith))
  told_by (suc m) c h = told_row c (λ l. told_by m (over d s rows c) (omega arith)) (λ l. told_by m (past d s rows c) (omega arith))

  pub left_is : (c : Cursor) → findings_left d s rows c ≡ findings_from d s rows (next_found d s rows c)
  left_is c = (told_by (length rows) c (omega arith)).0

  -- what is found is one finding or more
  pub left_fewer : (c : Cursor) {f : Found} → next_found d s rows c ≡ Some f → length (findings_left d s rows f.next) < length (findings_left d s rows c)
  left_fewer c {f} e =
      let told = told_by (length rows) c (omega arith) in
      let coded : is_coded f.codes ≡ true = rw e at told.1 in
      let all = told.0 ∙ ap (findings_from d s rows) e in
      omega (arith, ap length all ∙ length-append (findings_at s f.codes) (findings_left d s rows f.next), some_found s f.codes coded)

  pub left_none : (c : Cursor) → null (findings_left d s rows c) ≡ not (is_some (next_found d s rows c))
  left_none c = let told = told_by (length rows) c (omega arith) in rw told.0 (go (next_found d s rows c) told.1)
    where
      some : (a b : List Finding) → 0 < length a → null (a ++ b) ≡ false
      some [] b h = absurd (omega arith)
      some (x ∷ a) b h = refl

      go : (f : Option Found) → Coded f → null (findings_from d s rows f) ≡ not (is_some f)
      go (Some f) h = some (findings_at s f.codes) (findings_left d s rows f.next) (some_found s f.codes h)
      go None h = refl

  -- 5. From a cursor that stands right on, all that is found is what document 01 finds.
  module _ (notes : List Syntax) where
    -- field and place belong together, and the notes are the entry's
    record Right (c : Cursor) : Type 0 where
      pub at : FieldAt d.element s c.place (c.end + 1)
      pub within : c.end ≤ length s
      pub noted : syntax_in (drop c.notes rows) ≡ notes

    right_past : {c : Cursor} → Right c → c.place < 18446744073709551615 → Right (past d s rows c)
    right_past {c} r h =
        rw (one_on c.place h) (record { at = next_at r.at r.within; within = after_within d.element s c.end refl; noted = r.noted })

    surplus_right : (c : Cursor) → Right c → surplus_findings s c ≡ law.findings_from d notes (split d.element s) c.place []
    unfolding law.findings_from
    surplus_right c r = go (ltb c.end (length s)) refl
      where
        go : (b : Bool) → ltb c.end (length s) ≡ b → surplus_findings s c ≡ law.findings_from d notes (split d.element s) c.place []
        go true l =
            let low = ltb-true c.end (length s) l in
            rw (l, lt-ltb c.place (length (split d.element s)) (field_some r.at (omega arith)))
        go false l =
            let high = ltb-false c.end (length s) l in
            rw (l, le-ltb c.place (length (split d.element s)) (field_none r.at (omega arith)))

    codes_right : (c : Cursor) → Right c
        → findings_at s (codes_at d s rows c)
        ≡ map (found d (split d.element s) (row_at rows c.row) c.place) (place_codes d notes (split d.element s) (row_at rows c.row) c.place)
    unfolding findings_at codes_at
    codes_right c r =
        let cut = split d.element s in
        let row = row_at rows c.row in
        let p = codes_at d s rows c in
        let codes : given_codes p ≡ place_codes d notes cut row c.place =
        rw (place_codes_lem notes cut c.place d row, next_present r.at r.within, next_field r.at r.within, r.noted) in
        let here : (code : ℕ) → finding_in s (finding_by p code) ≡ found d cut row c.place code =
        λ code. rw (echo_is s p code, next_field r.at r.within) in
        map_congr_left {l = given_codes p} (λ code m. here code) ∙ ap (map (found d cut row c.place)) codes

    abbrev Is : Cursor → Type 0
    Is c = findings_left d s rows c ≡ law.findings_from d notes (split d.element s) c.place (rows_in (drop c.row rows))

    left_row : (c : Cursor) → Right c → c.place < 18446744073709551615
        → (c.row < length rows → Is (over d s rows c)) → (c.row < length rows → Is (past d s rows c)) → Is c
    unfolding law.findings_from
    left_row c r h skip next = go (ltb c.row (length rows)) refl
      where
        turn : c.row < length rows → (a : Bool) → is_row 1 (get_or rows c.row []) ≡ a → (b : Bool) → is_row 2 (get_or rows c.row []) ≡ b → Is c
        turn l true e b f = rw (left_stop c l e, rows_stop rows c.row e) (surplus_right c r)
        turn l false e false f = rw (left_over c l e f, rows_skip rows c.row e f) (skip l)
        turn l false e true f =
            rw (left_here c l e f, rows_here rows c.row f, codes_right c r, next l, one_on c.place h)

        go : (b : Bool) → ltb c.row (length rows) ≡ b → Is c
        go true l = turn (ltb-true c.row (length rows) l) (is_row 1 (get_or rows c.row [])) refl (is_row 2 (get_or rows c.row [])) refl
        go false l =
            let past_end = ltb-false c.row (length rows) l in
            rw (left_end c past_end, rows_end rows c.row past_end) (surplus_right c r)

    left_by : (m : ℕ) (c : Cursor) → length rows ≤ c.row + m → c.place + m < 18446744073709551615 → Right c → Is c
    left_by zero c h k r = left_row c r (omega arith) (λ l. absurd (omega arith)) (λ l. absurd (omega arith))
    left_by (suc m) c h k r =
        left_row c r (omega arith)
        (λ l. left_by m (over d s rows c) (omega arith) (omega arith) (record { at = r.at; within = r.within; noted = r.noted }))
        (λ l. left_by m (past d s rows c) (omega arith) (omega arith) (right_past r (omega arith)))

  -- from the start on it is what the segment's entry finds
  pub left_start : (k : ℕ) → length rows < 9223372036854775808
      → findings_left d s rows (start d s rows k) ≡ findings d (entry_at rows k) (split d.element s)
  unfolding start findings
  left_start k small =
      let row = row_below rows k in
      let below = below_rest rows k {below = row} refl in
      let c = start d s rows k in
      let first = field_next field_first refl in
      rw (← below)
      (left_by (syntax_in (drop row rows)) (length rows) c (omega arith) (omega arith)
      (record { at = first; within = find_le d.element s 0 (omega arith); noted = notes_from rows row }))
