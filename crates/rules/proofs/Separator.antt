-- Change request 9: what checks 2 to 5 ask of a repetition separator, by the same interchange with `U` in its place.
use Rattle.std.specs.Prelude.{if◌then◌else◌, None, Option, Some, ℕ}
use mathlib.Core.Path.{◌≡◌, refl, sym, ap, ◌∙◌}
use mathlib.Core.Bool.{Bool, true, false, ◌&&◌, ◌||◌, not, and-true, false≢true}
use mathlib.Core.Logic.{◌↔◌}
use mathlib.Core.List.{List, [], ◌∷◌, ◌++◌}
use Prim.Native.Nat.{ℕ, ◌+◌, ◌≤◌, ◌<◌}
use native.Mathlib.Omega.{arith}
use borrow.Author.Tests.{not-true, not-false, eqb-true, eqb-false, leb-true, ltb-true}
use lib.Dec.{leb, ltb, eqb, lit<, lit≤}
use lib.ListN.{length, take, drop, get_or, set, length-set}
use lib.Seq.{slice, length-take-le, slice_empty, split_at, get_or-take, get_or-set_same, get_or-set_other, take-set-le, take-set-lt, drop-set-lt}
use Rattle.rules.specs.Base.{Bytes, ◌⇒◌, ascii, same, member, between, all, any, first}
use Rattle.rules.specs.Cutting.{Segment, field, separators, fields_at, isa, repetition_in, delimiters, marks, valid}
use Rattle.rules.specs.Numbers.{digits}
use Rattle.rules.specs.Refusals.{has_isa, plain, distinct, good_marks, text_fields, good_isa, head_rules}
use Rattle.rules.specs.Damage.{free}
use Rattle.rules.specs.declared.Delimiters.{Delimiters}
use Rattle.rules.proofs.Logic.{and_left, and_right, all_head, all_tail, all_cons, all_append, all_both, all_left, all_right, all_take, all_drop, all_weaken, all_join, all_at, any_append, silent}
use Rattle.rules.proofs.Cuts.{plain_other, common_valid}
use Rattle.rules.proofs.Envelope.{isa_head, covered, isa11_byte, isa_long, Header, header}
use Rattle.rules.proofs.Unrepeated.{unused_u}

-- ISA11 is byte 82, and `U` is 85
abbrev pub with_u : Bytes → Bytes
with_u i = set i 82 85

-- 1. What stays with `U`.
module _ (i : Bytes) where
  places_kept : (v : ℕ) (places : List ℕ) → all (λ a. not (eqb a 82)) places ≡ true
      → all (λ a. eqb (get_or (with_u i) a 0) v) places ≡ all (λ a. eqb (get_or i a 0) v) places
  unfolding all
  places_kept v [] t = refl
  places_kept v (a ∷ as') t =
      let apart = eqb-false a 82 (not-true (eqb a 82) (all_head (λ a. not (eqb a 82)) a as' t)) in
      rw (get_or-set_other i 82 a 85 0 apart, places_kept v as' (all_tail (λ a. not (eqb a 82)) a as' t))

  separators_apart : all (λ a. not (eqb a 82)) separators ≡ true
  unfolding all separators
  separators_apart = refl

  has_isa_kept : has_isa (with_u i) ≡ has_isa i
  unfolding has_isa
  has_isa_kept = rw (take-set-le 3 i 82 85 (lit≤ tt), get_or-set_other i 82 3 85 0 (omega arith), places_kept (get_or i 3 0) separators separators_apart)

  fields_before : (start : ℕ) (es : List ℕ) → all (λ e. leb e 82) es ≡ true → fields_at start es (with_u i) ≡ fields_at start es i
  unfolding fields_at
  fields_before start [] t = refl
  fields_before start (e ∷ es) t =
      rw (take-set-le e i 82 85 (leb-true e 82 (all_head (λ e. leb e 82) e es t)), fields_before (e + 1) es (all_tail (λ e. leb e 82) e es t))

  fields_after : (start : ℕ) (es : List ℕ) → 82 < start → all (λ e. ltb 82 e) es ≡ true → fields_at start es (with_u i) ≡ fields_at start es i
  unfolding fields_at
  fields_after start [] h t = refl
  fields_after start (e ∷ es) h t =
      let k = ltb-true 82 e (all_head (λ e. ltb 82 e) e es t) in
      rw (take-set-lt e i 82 85 k, drop-set-lt start (take e i) 82 85 h, fields_after (e + 1) es (omega (arith, k)) (all_tail (λ e. ltb 82 e) e es t))

  before_kept : take 11 (isa (with_u i)) ≡ take 11 (isa i)
  unfolding isa separators fields_at all
  before_kept = fields_before 0 (take 11 separators) refl

  after_kept : drop 12 (isa (with_u i)) ≡ drop 12 (isa i)
  unfolding isa separators fields_at all
  after_kept = fields_after 84 (drop 12 separators) (lit< tt) refl

  -- ISA of the interchange with `U`: the same fields, and `U`
  isa_with : 106 ≤ length i → isa (with_u i) ≡ take 11 (isa i) ++ ((85 ∷ []) ∷ drop 12 (isa i))
  isa_with l =
      let s = isa (with_u i) in
      let u = isa11_byte (with_u i) (rw (length-set i 82 85) l) ∙ ap (λ (b : ℕ). b ∷ []) (get_or-set_same i 82 85 0 (omega (arith, l))) in
      split_at s 11 [] (isa_long (with_u i)) ∙ rw (u, before_kept, after_kept)

  pub isa_before : (n : ℕ) → n < 11 → field (isa (with_u i)) n ≡ field (isa i) n
  isa_before n h = sym (get_or-take 11 (isa (with_u i)) n [] h) ∙ ap (λ (s : Segment). field s n) before_kept ∙ get_or-take 11 (isa i) n [] h

  pub isa13_kept : field (isa (with_u i)) 13 ≡ field (isa i) 13
  unfolding isa separators fields_at
  isa13_kept = ap (λ (s : Segment). field s 1) after_kept

  pub isa14_kept : field (isa (with_u i)) 14 ≡ field (isa i) 14
  unfolding isa separators fields_at
  isa14_kept = ap (λ (s : Segment). field s 2) after_kept

  pub isa15_kept : field (isa (with_u i)) 15 ≡ field (isa i) 15
  unfolding isa separators fields_at
  isa15_kept = ap (λ (s : Segment). field s 3) after_kept

-- the delimiters, by the repetition separator that they have
abbrev by : Bytes → Option ℕ → Delimiters
by i r = record { element = get_or i 3 0; component = get_or i 104 0; terminator = get_or i 105 0; repetition = r }

module _ (i : Bytes) where
  by_kept : by (with_u i) None ≡ by i None
  by_kept =
      rw (get_or-set_other i 82 3 85 0 (omega arith), get_or-set_other i 82 104 85 0 (omega arith), get_or-set_other i 82 105 85 0 (omega arith))

  pub by_u : 106 ≤ length i → delimiters (with_u i) ≡ by i None
  unfolding delimiters
  by_u l = rw (unused_u (with_u i) (get_or-set_same i 82 85 0 (omega (arith, l)))) by_kept

-- 2. A fourth mark.
all_snoc : (p : ℕ → Bool) (xs : List ℕ) (b : ℕ) → all p (xs ++ b ∷ []) ≡ all p xs && p b
unfolding all
all_snoc p xs b = all_both p xs (b ∷ []) ∙ rw (and-true (p b))

pub distinct_snoc : (xs : List ℕ) (b : ℕ) → distinct (xs ++ b ∷ []) ≡ distinct xs && free b xs
unfolding distinct all any
distinct_snoc [] b = refl
distinct_snoc (x ∷ xs) b = rw (any_append (eqb x) xs (b ∷ []), distinct_snoc xs b) (go (any (eqb x) xs) (eqb x b) (distinct xs) (free b xs))
  where
    go : (a c e f : Bool) → not (a || (c || false)) && (e && f) ≡ not a && e && (not c && f)
    go true c e f = refl
    go false true true f = refl
    go false true false f = refl
    go false false e f = refl

-- the marks with b are good where those without it are, b is plain, and b is none of them
marks_snoc : (ms : List ℕ) (b : ℕ) → good_marks (ms ++ b ∷ []) ≡ good_marks ms && (plain b && free b ms)
unfolding good_marks
marks_snoc ms b = rw (distinct_snoc ms b, all_snoc plain ms b) (go (distinct ms) (free b ms) (all plain ms) (plain b))
  where
    go : (e f q p : Bool) → e && f && (q && p) ≡ e && q && (p && f)
    go false f q p = refl
    go true false true true = refl
    go true false true false = refl
    go true false false p = refl
    go true true true true = refl
    go true true true false = refl
    go true true false p = refl

module _ (i : Bytes) (b : ℕ) where
  -- a byte is valid with the separator where it is without, and is not the separator
  valid_by : (c : ℕ) → valid (by i (Some b)) c ≡ valid (by i None) c && not (eqb c b)
  unfolding valid marks any
  valid_by c = rw (any_append (eqb c) (marks (by i None)) (b ∷ [])) (go (between 32 126 c) (any (eqb c) (marks (by i None))) (eqb c b))
    where
      go : (w y x : Bool) → w && not (y || (x || false)) ≡ w && not y && not x
      go false y x = refl
      go true true x = refl
      go true false true = refl
      go true false false = refl

-- 3. Checks 2 to 5, taken apart.
-- the fields of ISA but ISA11
abbrev others : Bytes → List Bytes
others i = take 11 (isa i) ++ drop 12 (isa i)

module _ (i : Bytes) (p : Bytes → Bool) where
  others_all : all p (isa (with_u i)) ≡ true → all p (others i) ≡ true
  others_all e =
      let s = isa (with_u i) in
      rw (← before_kept i, ← after_kept i) (all_append p (take 11 s) (drop 12 s) (all_take p 11 s e) (all_drop p 12 s e))

  all_others : 106 ≤ length i → all p (others i) ≡ true → p (85 ∷ []) ≡ true → all p (isa (with_u i)) ≡ true
  all_others l e u =
      let before = take 11 (isa i) in
      let after = drop 12 (isa i) in
      rw (isa_with i l) (all_append p before ((85 ∷ []) ∷ after) (all_left p before after e) (all_cons p (85 ∷ []) after u (all_right p before after e)))

abbrev is_p : Bytes → Bool
is_p f = member f (ascii "P" ∷ ascii "T" ∷ ascii "I" ∷ [])

-- what they ask of an interchange with these marks, whose fields of text are ts
record Heads (i : Bytes) (ms : List ℕ) (is_good : ℕ → Bool) (ts : List Bytes) : Type 0 where
  sized : between 106 65536 (length i) ≡ true
  opened : has_isa i ≡ true
  marked : good_marks ms ≡ true
  texts : all (all is_good) ts ≡ true
  isa13 : digits 9 9 (field (isa i) 13) ≡ true
  isa15 : is_p (field (isa i) 15) ≡ true

long : (n : ℕ) → between 106 65536 n ≡ true → 106 ≤ n
long n e = leb-true 106 n (and_left (leb 106 n) (leb n 65536) e)

module _ (i : Bytes) where
  heads : first (head_rules i) ≡ 0 → Heads i (marks (delimiters i)) (valid (delimiters i)) (text_fields (delimiters i).repetition (isa i))
  unfolding head_rules good_isa
  heads e =
      let d = delimiters i in
      let r = silent (head_rules i) tt e in
      let texts = all (all (valid d)) (text_fields d.repetition (isa i)) in
      let nine = digits 9 9 (field (isa i) 13) in
      let last = is_p (field (isa i) 15) in
      let headed = not-false (texts && nine && last) r.1.1.1.0 in
      record {
        sized = not-false (between 106 65536 (length i)) r.0;
        opened = not-false (has_isa i) r.1.0;
        marked = not-false (good_marks (marks d)) r.1.1.0;
        texts = and_left texts nine (and_left (texts && nine) last headed);
        isa13 = and_right texts nine (and_left (texts && nine) last headed);
        isa15 = and_right (texts && nine) last headed;
      }

  -- what they leave of the 106 bytes
  pub header_of : first (head_rules i) ≡ 0 → Header i
  unfolding head_rules
  header_of e =
      let r = silent (head_rules i) tt e in
      header i (not-false (between 106 65536 (length i)) r.0) (not-false (has_isa i) r.1.0) (not-false (good_marks (marks (delimiters i))) r.1.1.0)
      (not-false (good_isa (delimiters i) (isa i)) r.1.1.1.0)

  passes : Heads i (marks (delimiters i)) (valid (delimiters i)) (text_fields (delimiters i).repetition (isa i)) → first (head_rules i) ≡ 0
  unfolding head_rules good_isa first
  passes h = rw (h.sized, h.opened, h.marked, h.texts, h.isa13, h.isa15)

-- 4. The separator among the bytes of ISA.
module _ (b : ℕ) where
  abbrev other : ℕ → Bool
  other c = not (eqb c b)

  -- a byte that is in no field of ISA and is none of the three delimiters is in none of the 106 bytes
  fields_cover : (i : Bytes) → 106 ≤ length i → has_isa i ≡ true → free b (marks (by i None)) ≡ true → all (free b) (isa i) ≡ true
      → free b (take 106 i) ≡ true
  unfolding has_isa isa separators fields_at marks all
  fields_cover i l opened apart fields =
      let x = get_or i 3 0 in
      let ends : List ℕ = 104 ∷ 105 ∷ [] in
      covered other i 0 (separators ++ ends) refl l
      (all_append (free b) (isa i) (slice 104 104 i ∷ slice 105 105 i ∷ []) fields (rw (slice_empty 104 i, slice_empty 105 i)))
      (all_append (λ e. other (get_or i e 0)) separators ends
      (all_weaken (λ at. eqb (get_or i at 0) x) (λ e. other (get_or i e 0)) (λ at q. rw (eqb-true (get_or i at 0) x q) (and_left (other x) _ apart)) separators
      (and_right (same (take 3 i) (ascii "ISA")) _ opened))
      (and_right (other x) _ apart))

  -- and a byte that is in none of these is in no field
  fields_within : (start : ℕ) (es : List ℕ) (xs : Bytes) → free b xs ≡ true → all (free b) (fields_at start es xs) ≡ true
  unfolding fields_at all
  fields_within start [] xs e = refl
  fields_within start (x ∷ es) xs e = rw (all_drop other start (take x xs) (all_take other x xs e)) (fields_within (x + 1) es xs e)

  isa_within : (i : Bytes) → free b (take 106 i) ≡ true → all (free b) (isa i) ≡ true
  unfolding isa
  isa_within i e = rw (← isa_head i) (fields_within 0 separators (take 106 i) e)

  -- nor is it one of the three delimiters
  byte_within : (i : Bytes) → 106 ≤ length i → free b (take 106 i) ≡ true → (n : ℕ) → n < 106 → other (get_or i n 0) ≡ true
  byte_within i l e n h =
      rw (get_or-take 106 i n 0 h) at (all_at other (take 106 i) 0 n e (rw (length-take-le 106 i l) h))

  marks_within : (i : Bytes) → 106 ≤ length i → free b (take 106 i) ≡ true → free b (marks (by i None)) ≡ true
  unfolding marks all
  marks_within i l e = rw (byte_within i l e 3 (lit< tt), byte_within i l e 104 (lit< tt), byte_within i l e 105 (lit< tt))

module _ (i : Bytes) (b : ℕ) (separates : repetition_in i ≡ Some b) where
  abbrev three : List ℕ
  three = marks (by i None)

  with_b : delimiters i ≡ by i (Some b)
  unfolding delimiters
  with_b = rw separates

  marks_good : good_marks (marks (by i (Some b))) ≡ good_marks three && (plain b && free b three)
  unfolding marks
  marks_good = marks_snoc three b

  -- with the separator
  abbrev Own : Type 0
  Own = Heads i (marks (by i (Some b))) (valid (by i (Some b))) (others i)

  own : first (head_rules i) ≡ 0 → Own
  own e = rw with_b at (heads i e)

  by_own : Own → first (head_rules i) ≡ 0
  by_own h = passes i (rw with_b h)

  -- with `U`
  abbrev Former : Type 0
  Former = Heads (with_u i) three (valid (by i None)) (isa (with_u i))

  long_u : between 106 65536 (length (with_u i)) ≡ true → 106 ≤ length i
  long_u e = omega (arith, long (length (with_u i)) e, length-set i 82 85)

  former : first (head_rules (with_u i)) ≡ 0 → Former
  former e = rw (by_u i (long_u (heads (with_u i) e).sized)) at (heads (with_u i) e)

  by_former : Former → first (head_rules (with_u i)) ≡ 0
  by_former h = passes (with_u i) (rw (by_u i (long_u h.sized)) h)

  -- what the separator is to be
  abbrev Apart : Type 0
  Apart = (plain b ≡ true) × (free b (take 106 (with_u i)) ≡ true)

  apart : Own → Former × Apart
  unfolding good_marks all
  apart h =
      let l = long (length i) h.sized in
      let good = and_left (good_marks three) (plain b && free b three) (sym marks_good ∙ h.marked) in
      let single = and_right (good_marks three) (plain b && free b three) (sym marks_good ∙ h.marked) in
      let is_plain = and_left (plain b) (free b three) single in
      let opened = has_isa_kept i ∙ h.opened in
      let texts =
      all_weaken (all (valid (by i (Some b)))) (all (valid (by i None)))
      (all_weaken (valid (by i (Some b))) (valid (by i None)) (λ c e. and_left (valid (by i None) c) (other b c) (sym (valid_by i b c) ∙ e)))
      (others i) h.texts in
      let clear =
      all_weaken (all (valid (by i (Some b)))) (free b)
      (all_weaken (valid (by i (Some b))) (other b) (λ c e. and_right (valid (by i None) c) (other b c) (sym (valid_by i b c) ∙ e)))
      (others i) h.texts in (
        record {
          sized = ap (between 106 65536) (length-set i 82 85) ∙ h.sized;
          opened = opened;
          marked = good;
          texts = all_others i (all (valid (by i None))) l texts (rw (common_valid (by i None) (and_right (distinct three) (all plain three) good) 85 refl));
          isa13 = ap (digits 9 9) (isa13_kept i) ∙ h.isa13;
          isa15 = ap is_p (isa15_kept i) ∙ h.isa15;
        },
        (
          is_plain,
          fields_cover b (with_u i) (omega (arith, l, length-set i 82 85)) opened (rw (by_kept i) (and_right (plain b) (free b three) single))
              (all_others i (free b) l clear (rw (plain_other b 85 is_plain refl))),
        ),
      )

  joined : Former → Apart → Own
  joined h a =
      let long = long (length (with_u i)) h.sized in
      let single : free b three ≡ true = rw (by_kept i) at (marks_within b (with_u i) long a.1) in
      record {
        sized = ap (between 106 65536) (sym (length-set i 82 85)) ∙ h.sized;
        opened = sym (has_isa_kept i) ∙ h.opened;
        marked = marks_good ∙ rw (h.marked, a.0, single);
        texts =
            all_join (all (valid (by i None))) (free b) (all (valid (by i (Some b))))
            (all_join (valid (by i None)) (other b) (valid (by i (Some b))) (λ c e f. valid_by i b c ∙ rw (e, f)))
            (others i) (others_all i (all (valid (by i None))) h.texts) (others_all i (free b) (isa_within b (with_u i) a.1));
        isa13 = ap (digits 9 9) (sym (isa13_kept i)) ∙ h.isa13;
        isa15 = ap is_p (sym (isa15_kept i)) ∙ h.isa15;
      }

  -- where they pass it with `U`, the separator's own two tests decide
  own_tests : Former → first (head_rules i) ≡ first ((not (plain b && free b three) ⇒ 4) ∷ (not (good_isa (by i (Some b)) (isa i)) ⇒ 5) ∷ [])
  unfolding head_rules first
  own_tests f = rw (with_b, ← length-set i 82 85, f.sized, ← has_isa_kept i, f.opened, marks_good, f.marked)

-- Checks 2 to 5 pass an interchange with a repetition separator exactly when they pass it with `U` in the separator's place, and the separator is no letter,
-- digit or space and stands at no other byte of ISA, so that it is none of the other delimiters either. Shut out: a separator that is not held to check 4,
-- one that may stand in a field of ISA, and one that check 5 takes for text.
pub head_with : (i : Bytes) (b : ℕ) → repetition_in i ≡ Some b
    → first (head_rules i) ≡ 0 ↔ ((first (head_rules (with_u i)) ≡ 0) × ((plain b ≡ true) × (free b (take 106 (with_u i)) ≡ true)))
head_with i b e = (
  λ h. let r = apart i b e (own i b e h) in (by_former i b e r.0, r.1),
  λ h. by_own i b e (joined i b e (former i b e h.0) h.1),
)

-- Where they pass it with `U`, they give 4 exactly where the separator is a letter, a digit, a space or one of the other three delimiters; else 5 where it
-- stands at another byte of ISA; else nothing. Shut out: another number for such a separator, and 5 before 4.
pub head_number : (i : Bytes) (b : ℕ) → repetition_in i ≡ Some b → first (head_rules (with_u i)) ≡ 0
    → first (head_rules i)
    ≡ (if not (plain b && free b (marks (delimiters (with_u i)))) then 4 else (if free b (take 106 (with_u i)) then 0 else 5))
unfolding first
head_number i b e h =
    let f = former i b e h in
    let single = plain b && free b (three i b e) in
    let good = good_isa (by i (Some b)) (isa i) in
    let number = own_tests i b e f in
    rw (by_u i (long_u i b e f.sized))
    (number ∙ go single good (free b (take 106 (with_u i))) (λ z. ((head_with i b e).0 (number ∙ z)).1.1)
    (λ s c. sym number ∙ (head_with i b e).1 (h, (and_left (plain b) (free b (three i b e)) s, c))))
  where
    go : (single good clear : Bool) → (first ((not single ⇒ 4) ∷ (not good ⇒ 5) ∷ []) ≡ 0 → clear ≡ true)
        → (single ≡ true → clear ≡ true → first ((not single ⇒ 4) ∷ (not good ⇒ 5) ∷ []) ≡ 0)
        → first ((not single ⇒ 4) ∷ (not good ⇒ 5) ∷ []) ≡ (if not single then 4 else (if clear then 0 else 5))
    go false good clear p q = refl
    go true true true p q = refl
    go true true false p q = absurd (false≢true (p refl))
    go true false true p q = q refl refl
    go true false false p q = refl
