-- What is told of a segment and of a place: its id in bytes, its codes one by one, its findings.
use Rattle.std.specs.Prelude.{if◌then◌else◌, Option, Some, None, is_some}
use Rattle.std.specs.Bool.{then_some}
use mathlib.Core.Path.{◌≡◌, refl, sym, ◌∙◌, ap}
use mathlib.Core.Bool.{Bool, true, false, ◌&&◌, ◌||◌, not, true≢false}
use mathlib.Core.List.{List, [], ◌∷◌, ◌++◌, map, map-append}
use Prim.Native.Nat.{ℕ, zero, suc, ◌+◌, ◌<◌, ◌≤◌, min, max}
use native.Mathlib.Nat.{zero-add}
use native.Mathlib.Omega.{arith}
use borrow.Author.Tests.{ne_eqb}
use lib.Dec.{eqb}
use lib.ListN.{length, take, get_or}
use lib.Seq.{slice}
use Rattle.rules.specs.Base.{Bytes, ◌⇒◌, ascii, null, all, between, is_upper_or_digit, every}
use Rattle.rules.specs.Codes.{segment_number}
use Rattle.rules.specs.Cutting.{field, split}
use Rattle.rules.specs.Elements.{Finding, findings}
use Rattle.rules.specs.Numbers.{decimal}
use Rattle.rules.specs.Response.{ak4}
use Rattle.rules.specs.Segments.{echoed}
use Rattle.rules.specs.declared.Delimiters.{Delimiters}
use Rattle.rules.specs.declared.SegmentCode.{SegmentCode}
use Rattle.rules.specs.declared.SegmentCode.TheVariants as code
use Rattle.rules.proofs.Codes.{segment_some}
use Rattle.rules.proofs.Logic.{and_left, and_right, all_head, all_tail}
use Rattle.text.specs.Text.{index_of, part}
use Rattle.text.proofs.Digits.{between_true}
use Rattle.text.proofs.Where.{index_le}
use Rattle.tables.specs.Rows.{filled}
use Rattle.tables.specs.Reading.{Guide, entry_at, id_at, id_bytes}
use Rattle.tables.specs.declared.SegmentId.{SegmentId}
use Rattle.tables.proofs.Numbers.{filled_take}
use Rattle.elements.specs.Checks.{finding_in, finding_by, findings_at, next_found, findings_left, findings_from, start}
use Rattle.elements.specs.declared.Found.{Found}
use Rattle.elements.specs.declared.PlaceCodes.{PlaceCodes}
use Rattle.elements.proofs.Checks.{left_is, left_fewer, left_none, left_start}
use Rattle.findings.specs.Events.{Event, Line, written}
use Rattle.findings.specs.Steps.{codes_of, is_checked, next_missing}
use Rattle.findings.specs.Remaining.{missing_in, passed_events, lined, checked, segment_events, taken_events}
use Rattle.findings.specs.declared.Taken.{Taken}
use Rattle.findings.proofs.Search.{missed_by, miss_law}
use Rattle.findings.proofs.Told.{elements_written}
use Rattle.notes.specs.Lines.{echoed_id, code_of, finding_of, found_by}

-- 1. An id by value.
plain_some : (b : ℕ) → is_upper_or_digit b ≡ true → eqb b 0 ≡ false
plain_some zero h = absurd (true≢false (sym h))
plain_some (suc b) h = ne_eqb (suc b) 0 (λ (e : suc b ≡ 0). omega arith)

filled_plain : (id more : Bytes) → all is_upper_or_digit id ≡ true → filled (id ++ more) ≡ id ++ filled more
unfolding filled
filled_plain [] more h = refl
filled_plain (x ∷ id) more h =
    rw (plain_some x (all_head is_upper_or_digit x id h), filled_plain id more (all_tail is_upper_or_digit x id h))

pub echoed_id_law : (id : Bytes) → id_bytes (echoed_id id) ≡ echoed id
unfolding id_bytes echoed filled
echoed_id_law id = go (between 2 3 (length id) && all is_upper_or_digit id) refl
  where
    kept : (id : Bytes) → between 2 3 (length id) ≡ true → all is_upper_or_digit id ≡ true → filled (get_or id 0 0 ∷ get_or id 1 0 ∷ get_or id 2 0 ∷ []) ≡ id
    kept [] h k = absurd (true≢false (sym h))
    kept (x ∷ []) h k = absurd (true≢false (sym h))
    kept (x ∷ (y ∷ [])) h k = filled_plain (x ∷ y ∷ []) (0 ∷ []) k
    kept (x ∷ (y ∷ (z ∷ []))) h k = filled_plain (x ∷ y ∷ z ∷ []) [] k
    kept (x ∷ (y ∷ (z ∷ (u ∷ us)))) h k = let l = between_true 2 3 (length (x ∷ y ∷ z ∷ u ∷ us)) h in absurd (omega arith)

    go : (b : Bool) → between 2 3 (length id) && all is_upper_or_digit id ≡ b
        → id_bytes (if b then record { first = get_or id 0 0; second = get_or id 1 0; third = get_or id 2 0 }
        else record { first = 90; second = 90; third = 90 })
        ≡ (if b then id else ascii "ZZZ")
    go true h =
        kept id
        (and_left (between 2 3 (length id)) (all is_upper_or_digit id) h)
        (and_right (between 2 3 (length id)) (all is_upper_or_digit id) h)
    go false h = refl

-- the three bytes of an id
abbrev pub three_of : SegmentId → Bytes
three_of i = i.first ∷ i.second ∷ i.third ∷ []

pub id_end : (i : SegmentId) (end : ℕ) → end ≡ 0 + index_of 0 (three_of i) → end ≤ 3
id_end i end e = let h = index_le (λ x. eqb x 0) (three_of i) in omega arith

pub id_is : (i : SegmentId) (end : ℕ) → end ≡ 0 + index_of 0 (three_of i) → take end (three_of i) ≡ id_bytes i
unfolding id_bytes
id_is i end e = ap (λ (n : ℕ). take n (three_of i)) (e ∙ zero-add (index_of 0 (three_of i))) ∙ filled_take (three_of i)

-- 2. The codes of a segment.
pub codes_two : (own : Option SegmentCode) (faulty : Bool)
    → map decimal (codes_of own faulty) ≡ map decimal (code_of own) ++ map decimal (code_of (then_some faulty code.HasFindings))
unfolding every
codes_two None true = refl
codes_two None false = refl
codes_two (Some c) faulty = rw (← segment_some (Some c)) (go faulty)
  where
    go : (b : Bool) → map decimal (segment_number (Some c) ∷ every ((b ⇒ 8) ∷ [])) ≡ decimal (segment_number (Some c)) ∷ map decimal (code_of (then_some b code.HasFindings))
    go true = refl
    go false = refl

-- without a code there is no line
module _ (id : Bytes) (n : ℕ) (own : Option SegmentCode) (faulty : Bool) where
  pub lined_none : is_some own || faulty ≡ false → lined id n (codes_of own faulty) ≡ []
  unfolding every
  lined_none e = rw (← segment_some own) (go (is_some own) faulty e)
    where
      go : (a b : Bool) → a || b ≡ false → lined id n (every ((a ⇒ segment_number own) ∷ (b ⇒ 8) ∷ [])) ≡ []
      go false false q = refl
      go false true q = absurd (true≢false q)
      go true b q = absurd (true≢false q)

  pub lined_some : is_some own || faulty ≡ true → lined id n (codes_of own faulty) ≡ Line id n (codes_of own faulty) ∷ []
  unfolding every
  lined_some e = rw (← segment_some own) (go (is_some own) faulty e)
    where
      go : (a b : Bool) → a || b ≡ true
          → lined id n (every ((a ⇒ segment_number own) ∷ (b ⇒ 8) ∷ [])) ≡ Line id n (every ((a ⇒ segment_number own) ∷ (b ⇒ 8) ∷ [])) ∷ []
      go false true q = refl
      go false false q = absurd (true≢false (sym q))
      go true b q = refl

-- 3. The findings of a place, one by one, the lower code first.
pub findings_two : (s : Bytes) (p : PlaceCodes)
    → map ak4 (findings_at s p)
    ≡ map ak4 (finding_of (finding_in s (finding_by p (min p.own p.noted)))) ++ map ak4 (finding_of (finding_in s (finding_by p (max p.own p.noted))))
unfolding findings_at every
findings_two s p = go (eqb lower 0) (eqb higher 0)
  where
    lower : ℕ
    lower = min p.own p.noted

    higher : ℕ
    higher = max p.own p.noted

    one : ℕ → Finding
    one c = finding_in s (finding_by p c)

    go : (a b : Bool)
        → map ak4 (map one (every ((not a ⇒ lower) ∷ (not b ⇒ higher) ∷ [])))
        ≡ map ak4 (if a then [] else one lower ∷ []) ++ map ak4 (if b then [] else one higher ∷ [])
    go true true = refl
    go true false = refl
    go false true = refl
    go false false = refl

-- 4. The findings of a segment.
module _ (d : Delimiters) (s : Bytes) (rows : Guide) where
  -- how many are left at most, with one more for what is found
  abbrev pub weight : Option Found → ℕ
  weight (Some f) = suc (length (findings_left d s rows f.next))
  weight None = 0

  pub weight_less : {o : Option Found} {f : Found} → o ≡ Some f → weight (next_found d s rows f.next) < weight o
  weight_less {o} {f} e = rw e (go (next_found d s rows f.next) refl)
    where
      go : (g : Option Found) → next_found d s rows f.next ≡ g → weight g < suc (length (findings_left d s rows f.next))
      go (Some h) q = omega (arith, left_fewer d s rows f.next q)
      go None q = omega arith

  -- those of the place that is found, and then the rest
  pub found_more : {o : Option Found} {f : Found} → o ≡ Some f
      → map ak4 (findings_from d s rows o) ≡ map ak4 (findings_at s f.codes) ++ map ak4 (findings_from d s rows (next_found d s rows f.next))
  found_more {o} {f} e = rw (e, left_is d s rows f.next) (map-append ak4 (findings_at s f.codes) _)

  module _ (own : Option SegmentCode) (check : ℕ) (small : length rows < 9223372036854775808) where
    pub found_all : findings_from d s rows (found_by d s rows own check) ≡ checked d rows own check (split d.element s)
    unfolding found_by
    found_all = go (is_checked own)
      where
        go : (b : Bool) → findings_from d s rows (if b then next_found d s rows (start d s rows check) else None)
            ≡ (if b then findings d (entry_at rows check) (split d.element s) else [])
        go true = sym (left_is d s rows (start d s rows check)) ∙ left_start d s rows check small
        go false = refl

    pub found_any : is_some (found_by d s rows own check) ≡ not (null (checked d rows own check (split d.element s)))
    unfolding found_by
    found_any = go (is_checked own)
      where
        some : (a b : Bool) → a ≡ not b → b ≡ not a
        some true true e = absurd (true≢false e)
        some true false e = refl
        some false true e = refl
        some false false e = absurd (true≢false (sym e))

        go : (b : Bool) → is_some (if b then next_found d s rows (start d s rows check) else None)
            ≡ not (null (if b then findings d (entry_at rows check) (split d.element s) else []))
        go true =
            some (null (findings d (entry_at rows check) (split d.element s))) (is_some (next_found d s rows (start d s rows check)))
            (sym (ap null (left_start d s rows check small)) ∙ left_none d s rows (start d s rows check))
        go false = refl

-- what a segment passes over, its line, and its findings
pub taken_written : (d : Delimiters) (rows : Guide) (set : Bytes) (t : Taken)
    → (let s = split d.element (part set t.start t.end) in
    let fs = checked d rows t.own t.check s in
    map written (passed_events rows t.passed)
    ++ (map written (lined (echoed (field s 0)) t.passed.position (codes_of t.own (not (null fs)))) ++ map ak4 fs)
    ≡ map written (taken_events d rows set t))
unfolding segment_events
taken_written d rows set t =
    rw (map-append written (passed_events rows t.passed), map-append written (lined _ _ _), elements_written)

-- 5. The missing entries, one by one.
module _ (n : ℕ) (rows : Guide) (k e : ℕ) where
  abbrev left : ℕ → List Event
  left i = missing_in n (slice i e rows)

  pub missing_more : {m : ℕ} → next_missing rows k e ≡ Some m
      → map written (left k) ≡ written (Line (id_bytes (id_at rows m)) n (codes_of (Some code.Missing) false)) ∷ [] ++ map written (left (m + 1))
  unfolding every
  missing_more h = ap (map written) (miss_law n rows k e ∙ ap (missed_by n rows e) h)

  pub missing_fewer : {m : ℕ} → next_missing rows k e ≡ Some m → length (left (m + 1)) < length (left k)
  missing_fewer h = omega (arith, ap length (miss_law n rows k e ∙ ap (missed_by n rows e) h))

  pub missing_none : next_missing rows k e ≡ None → map written (left k) ≡ []
  missing_none h = ap (map written) (miss_law n rows k e ∙ ap (missed_by n rows e) h)
