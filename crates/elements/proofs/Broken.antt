-- A syntax note is broken by what is present exactly where it is broken at one of a segment's places; and what is present stands in the marks.
use Rattle.std.proofs.Common.{◌≡◌, ℕ, zero, suc, ◌+◌, ◌-◌, ◌*◌, ◌/◌, ◌%◌, ◌^◌, ◌<◌, ◌≤◌, Bool, true, false, not, ◌&&◌, ◌||◌, cond, eqb, leb, List, [], ◌∷◌, length, sym, refl, ap, ◌∙◌, pow-suc, add-one, arith, pow_mono, lt-ltb, ne_eqb, eqb-true, leb-true, if◌then◌else◌}
use Rattle.std.proofs.lemmas.Bool.Decides.{nat_tests}
use Rattle.std.proofs.lemmas.List.Sums.{sum_by-cons}
use Rattle.std.specs.List.{count_by}
use native.Mathlib.Nat.{pow-succ', div-div-eq-div-mul, div-eq_of_lt}
use borrow.Author.Tests.{eqb-false}
use Rattle.rules.specs.Base.{any, all, between}
use Rattle.rules.specs.Cutting.{Segment}
use Rattle.rules.specs.Elements.{present, is_place, after_present, lacking, excluded}
use Rattle.rules.specs.Tables.{Syntax}
use Rattle.rules.specs.declared.Relation.{Relation}
use Rattle.rules.specs.declared.Relation.TheVariants.{P, R, E, C, L}
use Rattle.rules.proofs.Logic.{and_left, and_right}
use Rattle.rules.proofs.Repeating.{lacking_present}
use Rattle.text.proofs.Loops.{and_false, or_false}
use Rattle.tables.specs.Reading.{names_within}
use Rattle.elements.specs.Marks.{no_marks, marked_with, marked, two, broken_by, breaks_note}
use Rattle.elements.specs.Notes.{breaks}
use Rattle.elements.specs.declared.Marks.{Marks}
use Rattle.elements.proofs.Notes.{turned, pair, excluded_absent}

-- 1. Two places, by how many there are.
module _ (p : ℕ → Bool) where
  -- one more is counted
  count_more : (x : ℕ) (xs : List ℕ) → count_by p (x ∷ xs) ≡ cond (p x) 1 0 + count_by p xs
  count_more x xs = sum_by-cons (λ y. cond (p y) 1 0) x xs

  any_count : (ps : List ℕ) → any p ps ≡ leb 1 (count_by p ps)
  unfolding any
  any_count [] = refl
  any_count (x ∷ xs) = rw count_more (go (p x) (any_count xs))
    where
      go : (b : Bool) → any p xs ≡ leb 1 (count_by p xs) → b || any p xs ≡ leb 1 (cond b 1 0 + count_by p xs)
      go true e = grind (arith, nat_tests)
      go false e = grind (arith, nat_tests)

  pub two_count : (ps : List ℕ) → two p ps ≡ leb 2 (count_by p ps)
  unfolding two
  two_count [] = refl
  two_count (x ∷ xs) = rw count_more (go (p x) (any_count xs) (two_count xs))
    where
      go : (b : Bool) → any p xs ≡ leb 1 (count_by p xs) → two p xs ≡ leb 2 (count_by p xs)
          → (if b then any p xs else two p xs) ≡ leb 2 (cond b 1 0 + count_by p xs)
      go true e f = grind (arith, nat_tests)
      go false e f = grind (arith, nat_tests)

-- 2. A test of so many places, from place m on.
unfoldable pub any_from : (ℕ → Bool) → ℕ → ℕ → Bool
any_from p m zero = false
any_from p m (suc count) = p m || any_from p (m + 1) count

from_same : (p q : ℕ → Bool) → ((n : ℕ) → p n ≡ q n) → (m count : ℕ) → any_from p m count ≡ any_from q m count
unfolding any_from
from_same p q h m zero = refl
from_same p q h m (suc count) = rw (h m, from_same p q h (m + 1) count)

from_none : (m count : ℕ) → any_from (λ n. false) m count ≡ false
unfolding any_from
from_none m zero = refl
from_none m (suc count) = from_none (m + 1) count

-- one of two tests
from_or : (p q : ℕ → Bool) (m count : ℕ) → any_from (λ n. p n || q n) m count ≡ any_from p m count || any_from q m count
unfolding any_from
from_or p q m zero = refl
from_or p q m (suc count) = rw (from_or p q (m + 1) count) (go (p m) (q m) (any_from p (m + 1) count) (any_from q (m + 1) count))
  where
    go : (a b c d : Bool) → (a || b) || (c || d) ≡ (a || c) || (b || d)
    go true b c d = refl
    go false true true d = refl
    go false true false d = refl
    go false false c d = refl

-- at one place alone, which is before the first or among them
module _ (q : ℕ → Bool) (p : ℕ) where
  from_past : (m count : ℕ) → p < m → any_from (λ n. eqb n p && q n) m count ≡ false
  unfolding any_from
  from_past m zero h = refl
  from_past m (suc count) h = rw (ne_eqb m p (λ e. omega arith)) (from_past (m + 1) count (omega arith))

  from_one : (m count : ℕ) → m ≤ p → p < m + count → any_from (λ n. eqb n p && q n) m count ≡ q p
  unfolding any_from
  from_one m zero h l = absurd (omega arith)
  from_one m (suc count) h l = go (eqb m p) refl (from_one (m + 1) count)
    where
      go : (b : Bool) → eqb m p ≡ b → (m + 1 ≤ p → p < m + 1 + count → any_from (λ n. eqb n p && q n) (m + 1) count ≡ q p)
          → (b && q m) || any_from (λ n. eqb n p && q n) (m + 1) count ≡ q p
      go true e f = let z : m ≡ p = eqb-true m p e in rw (from_past (m + 1) count (omega arith), z) (or_false (q p))
      go false e f = let z : m ≡ p → ⊥ = eqb-false m p e in f (omega arith) (omega arith)

-- at one of some places, which are all among them
module _ (count : ℕ) where
  from_place : (q : ℕ → Bool) (p : ℕ) → between 1 count p ≡ true → any_from (λ n. eqb n p && q n) 1 count ≡ q p
  from_place q p h =
      let low = leb-true 1 p (and_left (leb 1 p) (leb p count) h) in
      let high = leb-true p count (and_right (leb 1 p) (leb p count) h) in
      from_one q p 1 count low (omega arith)

  from_places : (q : ℕ → Bool) (ps : List ℕ) → all (between 1 count) ps ≡ true → any_from (λ n. is_place n ps && q n) 1 count ≡ any q ps
  unfolding all any
  from_places q [] h = from_none 1 count
  from_places q (p ∷ ps) h =
      from_same (λ n. is_place n (p ∷ ps) && q n) (λ n. (eqb n p && q n) || (is_place n ps && q n)) (λ n. go (eqb n p) (is_place n ps) (q n)) 1 count
      ∙ from_or (λ n. eqb n p && q n) (λ n. is_place n ps && q n) 1 count
      ∙ rw (from_place q p (and_left (between 1 count p) (all (between 1 count) ps) h), from_places q ps (and_right (between 1 count p) (all (between 1 count) ps) h))
    where
      go : (a b c : Bool) → (a || b) && c ≡ (a && c) || (b && c)
      go true true true = refl
      go true true false = refl
      go true false true = refl
      go true false false = refl
      go false b c = refl

-- 3. A note at the places of a segment.
grouped : (a b c : Bool) → a && b && c ≡ a && (b && c)
grouped true b c = refl
grouped false b c = refl

module _ (s : Segment) where
  -- E is broken where it shuts out, any other where it asks
  asks : (n : ℕ) (r : Relation) (ps : List ℕ) → ((m : ℕ) → excluded s r ps m ≡ false)
      → breaks (present s n) s n (record { relation = r; places = ps }) ≡ lacking s r ps n
  asks n r ps h = go (present s n) refl
    where
      go : (b : Bool) → present s n ≡ b → breaks b s n (record { relation = r; places = ps }) ≡ lacking s r ps n
      go true e = h n ∙ sym (lacking_present s n r ps e)
      go false e = refl

  shuts : (n : ℕ) (ps : List ℕ) → breaks (present s n) s n (record { relation = E; places = ps }) ≡ excluded s E ps n
  shuts n ps = go (present s n) refl
    where
      go : (b : Bool) → present s n ≡ b → breaks b s n (record { relation = E; places = ps }) ≡ excluded s E ps n
      go true e = refl
      go false e = sym (excluded_absent s n E ps e)

  -- one of the places is absent, where a holds
  one_absent : (a : Bool) (ps : List ℕ) → any (λ p. not (present s p) && a) ps ≡ a && not (all (present s) ps)
  unfolding any all
  one_absent a [] = sym (and_false a)
  one_absent a (p ∷ ps) = rw (one_absent a ps) (go (present s p) a (all (present s) ps))
    where
      go : (b a c : Bool) → (not b && a) || (a && not c) ≡ a && not (b && c)
      go true true c = refl
      go true false c = refl
      go false true c = refl
      go false false c = refl

  after_within : (p : ℕ → Bool) (ps : List ℕ) → all p ps ≡ true → all p (after_present s ps) ≡ true
  unfolding all after_present
  after_within p [] h = refl
  after_within p (x ∷ ps) h = go (present s x) (after_within p ps (and_right (p x) (all p ps) h))
    where
      go : (b : Bool) → all p (after_present s ps) ≡ true → all p (if b then ps else after_present s ps) ≡ true
      go true f = and_right (p x) (all p ps) h
      go false f = f

  after_two : (ps : List ℕ) → any (present s) (after_present s ps) ≡ two (present s) ps
  unfolding any after_present two
  after_two [] = refl
  after_two (p ∷ ps) = go (present s p) (after_two ps)
    where
      go : (b : Bool) → any (present s) (after_present s ps) ≡ two (present s) ps
          → any (present s) (if b then ps else after_present s ps) ≡ (if b then any (present s) ps else two (present s) ps)
      go true f = refl
      go false f = f

  module _ (count : ℕ) where
    -- a note whose places are all among the segment's
    broken_somewhere : (r : Relation) (ps : List ℕ) → all (between 1 count) ps ≡ true
        → any_from (λ n. breaks (present s n) s n (record { relation = r; places = ps })) 1 count ≡ broken_by (present s) r ps
    unfolding any all
    broken_somewhere P ps h =
        from_same (λ n. breaks (present s n) s n (record { relation = P; places = ps })) (λ n. is_place n ps && (not (present s n) && any (present s) ps))
        (λ n. asks n P ps (λ m. refl) ∙ pair s n ps) 1 count
        ∙ from_places count (λ n. not (present s n) && any (present s) ps) ps h
        ∙ one_absent (any (present s) ps) ps
    broken_somewhere R [] h = from_same _ (λ n. false) (λ n. asks n R [] (λ m. refl)) 1 count ∙ from_none 1 count
    broken_somewhere R (p ∷ ps) h =
        from_same _ (λ n. eqb n p && not (any (present s) (p ∷ ps))) (λ n. asks n R (p ∷ ps) (λ m. refl)) 1 count
        ∙ from_place count (λ n. not (any (present s) (p ∷ ps))) p (and_left (between 1 count p) (all (between 1 count) ps) h)
        ∙ rw (lt-ltb 0 (suc (length ps)) (omega arith))
    broken_somewhere E ps h =
        from_same _ (λ n. is_place n (after_present s ps) && present s n) (λ n. shuts n ps) 1 count
        ∙ from_places count (present s) (after_present s ps) (after_within (between 1 count) ps h)
        ∙ after_two ps
    broken_somewhere C [] h = from_same _ (λ n. false) (λ n. asks n C [] (λ m. refl)) 1 count ∙ from_none 1 count ∙ sym (and_false (present s 0))
    broken_somewhere C (p ∷ ps) h =
        from_same _ (λ n. is_place n ps && (not (present s n) && present s p)) (λ n. asks n C (p ∷ ps) (λ m. refl) ∙ turned (present s p) (is_place n ps) (not (present s n))) 1 count
        ∙ from_places count (λ n. not (present s n) && present s p) ps (and_right (between 1 count p) (all (between 1 count) ps) h)
        ∙ one_absent (present s p) ps
        ∙ go (present s p) (all (present s) ps)
      where
        go : (a b : Bool) → a && not b ≡ a && not (a && b)
        go true b = refl
        go false b = refl
    broken_somewhere L [] h = from_same _ (λ n. false) (λ n. asks n L [] (λ m. refl)) 1 count ∙ from_none 1 count
    broken_somewhere L (p ∷ []) h = from_same _ (λ n. false) (λ n. asks n L (p ∷ []) (λ m. refl)) 1 count ∙ from_none 1 count
    broken_somewhere L (p ∷ (q ∷ ps)) h =
        from_same _ (λ n. eqb n q && (present s p && not (any (present s) (q ∷ ps)))) (λ n. asks n L (p ∷ (q ∷ ps)) (λ m. refl) ∙ grouped (eqb n q) (present s p) (not (any (present s) (q ∷ ps)))) 1 count
        ∙ from_place count (λ n. present s p && not (any (present s) (q ∷ ps))) q
        (and_left (between 1 count q) (all (between 1 count) ps) (and_right (between 1 count p) (all (between 1 count) (q ∷ ps)) h))
        ∙ rw (lt-ltb 1 (suc (suc (length ps))) (omega arith))

    -- all notes of an entry
    pub notes_broken : (notes : List Syntax) → all (names_within count) notes ≡ true
        → any_from (λ n. any (breaks (present s n) s n) notes) 1 count ≡ any (breaks_note (present s)) notes
    unfolding any all
    notes_broken [] h = from_none 1 count
    notes_broken (c ∷ notes) h =
        from_or (λ n. breaks (present s n) s n c) (λ n. any (breaks (present s n) s n) notes) 1 count
        ∙ rw (broken_somewhere c.relation c.places (and_left (names_within count c) (all (names_within count) notes) h), notes_broken notes (and_right (names_within count c) (all (names_within count) notes) h))

-- 4. Tests that agree on the places of a note.
module _ (g h : ℕ → Bool) (count : ℕ) (agree : (n : ℕ) → between 1 count n ≡ true → g n ≡ h n) where
  any_agrees : (ps : List ℕ) → all (between 1 count) ps ≡ true → any g ps ≡ any h ps
  unfolding any all
  any_agrees [] w = refl
  any_agrees (p ∷ ps) w =
      rw (agree p (and_left (between 1 count p) (all (between 1 count) ps) w), any_agrees ps (and_right (between 1 count p) (all (between 1 count) ps) w))

  all_agrees : (ps : List ℕ) → all (between 1 count) ps ≡ true → all g ps ≡ all h ps
  unfolding all
  all_agrees [] w = refl
  all_agrees (p ∷ ps) w =
      rw (agree p (and_left (between 1 count p) (all (between 1 count) ps) w), all_agrees ps (and_right (between 1 count p) (all (between 1 count) ps) w))

  two_agrees : (ps : List ℕ) → all (between 1 count) ps ≡ true → two g ps ≡ two h ps
  unfolding two all
  two_agrees [] w = refl
  two_agrees (p ∷ ps) w =
      let later = and_right (between 1 count p) (all (between 1 count) ps) w in
      rw (agree p (and_left (between 1 count p) (all (between 1 count) ps) w), any_agrees ps later, two_agrees ps later)

  broken_agrees : (r : Relation) (ps : List ℕ) → all (between 1 count) ps ≡ true → broken_by g r ps ≡ broken_by h r ps
  unfolding any all
  broken_agrees P ps w = rw (any_agrees ps w, all_agrees ps w)
  broken_agrees R ps w = rw (any_agrees ps w)
  broken_agrees E ps w = two_agrees ps w
  broken_agrees C [] w = and_false (g 0) ∙ sym (and_false (h 0))
  broken_agrees C (p ∷ ps) w = rw (all_agrees (p ∷ ps) w, agree p (and_left (between 1 count p) (all (between 1 count) ps) w))
  broken_agrees L [] w = refl
  broken_agrees L (p ∷ ps) w =
      rw (any_agrees ps (and_right (between 1 count p) (all (between 1 count) ps) w), agree p (and_left (between 1 count p) (all (between 1 count) ps) w))

  pub notes_agree : (notes : List Syntax) → all (names_within count) notes ≡ true → any (breaks_note g) notes ≡ any (breaks_note h) notes
  unfolding any all
  notes_agree [] w = refl
  notes_agree (c ∷ notes) w =
      rw (broken_agrees c.relation c.places (and_left (names_within count c) (all (names_within count) notes) w), notes_agree notes (and_right (names_within count c) (all (names_within count) notes) w))

-- 5. The bits.
-- what comes above a bit leaves it
bit_low : (i n x : ℕ) → i < n → (x + 2 ^ n) / 2 ^ i % 2 ≡ x / 2 ^ i % 2
bit_low i zero x h = absurd (omega arith)
bit_low zero (suc n) x h = rw (pow-suc 2 n) (omega arith)
bit_low (suc i) (suc n) x h =
    let half : (x + 2 ^ suc n) / 2 ≡ x / 2 + 2 ^ n = omega (arith, pow-suc 2 n) in
    rw (pow-succ' 2 i, ← div-div-eq-div-mul (x + 2 ^ suc n) 2 (2 ^ i), ← div-div-eq-div-mul x 2 (2 ^ i), half) (bit_low i n (x / 2) (omega arith))

-- the bit that is set above others
bit_own : (n x : ℕ) → x < 2 ^ n → (x + 2 ^ n) / 2 ^ n % 2 ≡ 1
bit_own zero x h = let z : x ≡ 0 = omega arith in rw z
bit_own (suc n) x h =
    let half : (x + 2 ^ suc n) / 2 ≡ x / 2 + 2 ^ n = omega (arith, pow-suc 2 n) in
    let down = ap (λ (t : ℕ). (x + 2 ^ suc n) / t) (pow-succ' 2 n) ∙ sym (div-div-eq-div-mul (x + 2 ^ suc n) 2 (2 ^ n)) in
    rw (down, half) (bit_own n (x / 2) (omega (arith, pow-suc 2 n)))

-- the places before place n are marked as a test says
pub record Marked (has : ℕ → Bool) (n : ℕ) (m : Marks) : Type 0 where
  pub next : m.next ≡ 2 ^ n
  pub small : m.bits < 2 ^ n
  pub says : (i : ℕ) → i < n → 1 ≤ i → eqb (m.bits / 2 ^ i % 2) 1 ≡ has i

pub marked_none : (has : ℕ → Bool) → Marked has 1 no_marks
marked_none has = record { next = refl; small = omega arith; says = λ i h l. absurd (omega arith) }

-- place n too
pub marked_next : {has : ℕ → Bool} {n : ℕ} {m : Marks} → Marked has n m → n ≤ 62 → {b : Bool} → b ≡ has n → Marked has (n + 1) (marked_with m b)
unfolding marked_with
marked_next {has} {n} {m} k h {b} p = go b p
  where
    low : 2 ^ n ≤ 4611686018427387904
    low = pow_mono h

    twice : 2 ^ (n + 1) ≡ 2 ^ n * 2
    twice = rw add-one (pow-suc 2 n)

    next : m.next % 9223372036854775808 * 2 ≡ 2 ^ (n + 1)
    next = rw (k.next, twice) (omega (arith, low))

    go : (b : Bool) → b ≡ has n → Marked has (n + 1) (record { bits = if b then (m.bits + m.next) % 2 ^ 64 else m.bits; next = m.next % 9223372036854775808 * 2 })
    go true e =
        let whole : (m.bits + m.next) % 2 ^ 64 ≡ m.bits + 2 ^ n = omega (arith, low, k.next, k.small) in
        record {
          next = next;
          small = omega (arith, whole, twice, k.small);
          says = λ i l o. rw whole (by i l o (eqb i n) refl);
        }
      where
        by : (i : ℕ) → i < n + 1 → 1 ≤ i → (c : Bool) → eqb i n ≡ c → eqb ((m.bits + 2 ^ n) / 2 ^ i % 2) 1 ≡ has i
        by i l o true f = rw (eqb-true i n f, bit_own n m.bits k.small) e
        by i l o false f = let z : i ≡ n → ⊥ = eqb-false i n f in rw (bit_low i n m.bits (omega arith)) (k.says i (omega arith) o)
    go false e = record { next = next; small = omega (arith, twice, k.small); says = λ i l o. by i l o (eqb i n) refl }
      where
        by : (i : ℕ) → i < n + 1 → 1 ≤ i → (c : Bool) → eqb i n ≡ c → eqb (m.bits / 2 ^ i % 2) 1 ≡ has i
        by i l o true f = rw (eqb-true i n f, div-eq_of_lt k.small) e
        by i l o false f = let z : i ≡ n → ⊥ = eqb-false i n f in k.says i (omega arith) o

-- so notes that name only such places are broken by the marks where they are by the test
pub marked_notes : {has : ℕ → Bool} {n : ℕ} {m : Marks} → Marked has n m → n ≤ 63 → (notes : List Syntax) → all (names_within (n - 1)) notes ≡ true
    → any (breaks_note (marked m)) notes ≡ any (breaks_note has) notes
unfolding marked
marked_notes {has} {n} {m} k h notes w = notes_agree (marked m) has (n - 1) agree notes w
  where
    agree : (i : ℕ) → between 1 (n - 1) i ≡ true → eqb (m.bits / 2 ^ (i % 64) % 2) 1 ≡ has i
    agree i b =
        let low = leb-true 1 i (and_left (leb 1 i) (leb i (n - 1)) b) in
        let high = leb-true i (n - 1) (and_right (leb 1 i) (leb i (n - 1)) b) in
        let own : i % 64 ≡ i = omega arith in
        rw own (k.says i (omega arith) low)
