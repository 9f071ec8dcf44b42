-- The places of a segment: one field after the other, and the codes of each.
use Rattle.std.proofs.Common.{◌≡◌, ℕ, ◌+◌, ◌-◌, ◌<◌, ◌≤◌, min, max, Bool, true, false, not, ◌&&◌, eqb, ltb, List, [], ◌∷◌, length, drop, refl, ap, ◌∙◌, le_refl, add-zero, arith, length-drop, drop_of_length-le, length-take, ltb-false, ltb-true, le-ltb, lt-ltb, if◌then◌else◌}
use Rattle.std.proofs.lemmas.Bool.Decides.{nat_tests}
use lib.Seq.{take-nil}
use Rattle.rules.specs.Base.{Bytes, null, between, ◌⇒◌, first, every}
use Rattle.rules.specs.Cutting.{Segment, split, field}
use Rattle.rules.specs.Elements.{is_dt, is_tm, repeats, spelled, value_length, element_code, present, lacks, shuts_out, place_codes}
use Rattle.rules.specs.Numbers.{is_date, is_time}
use Rattle.rules.specs.Tables.{Row, Syntax}
use Rattle.rules.specs.declared.Delimiters.{Delimiters}
use Rattle.rules.specs.declared.Span.{Span}
use Rattle.rules.proofs.Repeating.{lacks_present}
use Rattle.text.specs.Text.{index_where, part}
use Rattle.text.proofs.Search.{find_le}
use Rattle.segments.proofs.Fields.{FieldAt, field_at, field_next, field_past, field_stay, present_length}
use Rattle.elements.specs.Notes.{note_code_by}
use Rattle.elements.specs.Checks.{next_start, field_after}
use Rattle.elements.specs.Values.{unlisted}
use Rattle.elements.proofs.Notes.{shuts_absent}

-- 1. The next field.
-- it lies in the segment
start_within : (s : Bytes) (end : ℕ) → next_start s end ≤ length s
unfolding next_start
start_within s end = go (ltb end (length s)) refl
  where
    go : (b : Bool) → ltb end (length s) ≡ b → (if b then end + 1 else length s) ≤ length s
    go true h = omega (arith, ltb-true end (length s) h)
    go false h = omega arith

module _ (e : ℕ) (s : Bytes) (end : ℕ) {f : Span} (q : f ≡ field_after e s end) where
  pub after_order : f.start ≤ f.end
  unfolding field_after
  after_order = rw q (omega arith)

  pub after_within : f.end ≤ length s
  unfolding field_after
  after_within = rw q (find_le e s (next_start s end) (start_within s end))

-- field n, which follows the one that ends at `end`
module _ {e : ℕ} {s : Bytes} {n end : ℕ} (at : FieldAt e s n (end + 1)) (within : end ≤ length s) where
  abbrev f : Span
  f = field_after e s end

  more : end < length s → next_start s end ≡ end + 1
  unfolding next_start
  more h = rw (lt-ltb end (length s) h)

  over : length s ≤ end → next_start s end ≡ end
  unfolding next_start
  over h = rw (le-ltb end (length s) h) (omega arith)

  either : {X : Type 0} → (end < length s → X) → (length s ≤ end → X) → X
  either {X} g h = go (ltb end (length s)) refl
    where
      go : (b : Bool) → ltb end (length s) ≡ b → X
      go true k = g (ltb-true end (length s) k)
      go false k = h (ltb-false end (length s) k)

  pub next_field : field (split e s) n ≡ part s f.start f.end
  unfolding field_after
  next_field =
      either (λ h. rw (more h) (field_at at refl))
      (λ h. rw (over h, drop_of_length-le s {i = end} h, take-nil) (field_past at (omega arith) n (le_refl n)))

  pub next_present : present (split e s) n ≡ ltb f.start f.end
  next_present =
      let order = after_order e s end refl in
      let within = after_within e s end refl in
      let size : length (part s f.start f.end) ≡ f.end - f.start =
      omega (arith, length-take (f.end - f.start) (drop f.start s), length-drop f.start s) in
      ap (λ (x : Bytes). not (null x)) next_field ∙ present_length (part s f.start f.end) ∙ rw size (less (ltb f.start f.end) refl)
    where
      less : (b : Bool) → ltb f.start f.end ≡ b → ltb 0 (f.end - f.start) ≡ b
      less true k = let g = ltb-true f.start f.end k in lt-ltb 0 (f.end - f.start) (omega arith)
      less false k = let g = ltb-false f.start f.end k in le-ltb 0 (f.end - f.start) (omega arith)

  pub next_at : FieldAt e s (n + 1) (f.end + 1)
  unfolding field_after index_where
  next_at =
      either (λ h. rw (more h) (field_next at refl))
      (λ h. rw (over h, drop_of_length-le s {i = end} h, add-zero) (field_stay at (omega arith)))

-- 2. The codes of a place.
-- two codes, the lower first, and 0 is none
abbrev pub ascending : ℕ → ℕ → List ℕ
ascending a b =
    let lower = min a b in
    let higher = max a b in
    every ((not (eqb lower 0) ⇒ lower) ∷ (not (eqb higher 0) ⇒ higher) ∷ [])

pub ascending_null : (a b : ℕ) → null (ascending a b) ≡ eqb a 0 && eqb b 0
unfolding every
ascending_null a b = both (eqb (min a b) 0) (eqb (max a b) 0) ∙ grind (arith, nat_tests)
  where
    both : (x y : Bool) → null (every ((not x ⇒ min a b) ∷ (not y ⇒ max a b) ∷ [])) ≡ x && y
    both true true = refl
    both true false = refl
    both false y = refl

-- what the code of a value may be, by whether the value is empty
data OwnIs : Bool → ℕ → Type 0 where
  none : {empty : Bool} → OwnIs empty 0
  one : OwnIs true 1
  four : OwnIs false 4
  five : OwnIs false 5
  six : OwnIs false 6
  seven : OwnIs false 7
  eight : OwnIs false 8
  nine : OwnIs false 9
  twelve : OwnIs false 12

own_is : (d : Delimiters) (r : Row) (e : Bytes) → OwnIs (null e) (element_code d r e)
unfolding element_code first
own_is d r e =
    go (null e) r.mandatory (repeats d e) (not (spelled d r.kind e)) (ltb (value_length r.kind e) r.shortest)
    (ltb r.longest (value_length r.kind e)) (unlisted r e) (is_dt r.kind && not (is_date e)) (is_tm r.kind && not (is_time e))
  where
    go : (empty m p a b c x y z : Bool)
        → OwnIs empty (if empty then first ((m ⇒ 1) ∷ []) else first ((p ⇒ 12) ∷ (a ⇒ 6) ∷ (b ⇒ 4) ∷ (c ⇒ 5) ∷ (x ⇒ 7) ∷ (y ⇒ 8) ∷ (z ⇒ 9) ∷ []))
    go true true p a b c x y z = one
    go true false p a b c x y z = none
    go false m true a b c x y z = twelve
    go false m false true b c x y z = six
    go false m false false true c x y z = four
    go false m false false false true x y z = five
    go false m false false false false true y z = seven
    go false m false false false false false true z = eight
    go false m false false false false false false true = nine
    go false m false false false false false false false = none

-- the rules of a place: an empty value lacks or not, and another is shut out or not
absent_codes : {own : ℕ} → OwnIs true own → (l : Bool)
    → every ((eqb own 1 ⇒ 1) ∷ (l ⇒ 2) ∷ (between 4 9 own ⇒ own) ∷ (false ⇒ 10) ∷ (eqb own 12 ⇒ 12) ∷ []) ≡ ascending own (if l then 2 else 0)
unfolding every
absent_codes none true = refl
absent_codes none false = refl
absent_codes one true = refl
absent_codes one false = refl

filled_codes : {own : ℕ} → OwnIs false own → (x : Bool)
    → every ((eqb own 1 ⇒ 1) ∷ (false ⇒ 2) ∷ (between 4 9 own ⇒ own) ∷ (x ⇒ 10) ∷ (eqb own 12 ⇒ 12) ∷ []) ≡ ascending own (if x then 10 else 0)
unfolding every
filled_codes none true = refl
filled_codes none false = refl
filled_codes four true = refl
filled_codes four false = refl
filled_codes five true = refl
filled_codes five false = refl
filled_codes six true = refl
filled_codes six false = refl
filled_codes seven true = refl
filled_codes seven false = refl
filled_codes eight true = refl
filled_codes eight false = refl
filled_codes nine true = refl
filled_codes nine false = refl
filled_codes twelve true = refl
filled_codes twelve false = refl

module _ (notes : List Syntax) (s : Segment) (n : ℕ) where
  abbrev noted : ℕ
  noted = note_code_by (present s n) notes s n

  noted_absent : note_code_by false notes s n ≡ if lacks notes s n then 2 else 0
  unfolding lacks
  noted_absent = refl

  noted_present : note_code_by true notes s n ≡ if shuts_out notes s n then 10 else 0
  unfolding shuts_out
  noted_present = refl

  module _ (d : Delimiters) (r : Row) where
    abbrev own_code : ℕ
    own_code = element_code d r (field s n)

    -- that of the value and that of the notes, the lower first
    pub place_codes_lem : place_codes d notes s r n ≡ ascending own_code noted
    unfolding place_codes
    place_codes_lem = go (null (field s n)) refl own_code (own_is d r (field s n))
      where
        go : (empty : Bool) → null (field s n) ≡ empty → (own : ℕ) → OwnIs empty own
            → every ((eqb own 1 ⇒ 1) ∷ (lacks notes s n ⇒ 2) ∷ (between 4 9 own ⇒ own) ∷ (shuts_out notes s n ⇒ 10) ∷ (eqb own 12 ⇒ 12) ∷ [])
            ≡ ascending own (note_code_by (not empty) notes s n)
        go true e own o = rw (noted_absent, shuts_absent s n notes (rw e)) (absent_codes o (lacks notes s n))
        go false e own o = rw (noted_present, lacks_present s n notes (rw e)) (filled_codes o (shuts_out notes s n))
