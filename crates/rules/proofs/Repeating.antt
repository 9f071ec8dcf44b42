-- Change request 9: the codes of a place, and the findings of a segment, stand in their order; what is found of an element that holds the
-- repetition separator, and that code 12 is found nowhere else.
use Rattle.std.specs.Prelude.{if◌then◌else◌, option_to_list, Option, None, Some}
use mathlib.Core.Path.{◌≡◌, refl, sym, ap, ◌∙◌}
use mathlib.Core.Bool.{Bool, true, false, ◌&&◌, ◌||◌, not, false≢true, true≢false}
use mathlib.Core.Logic.{◌⊎◌, inl, inr}
use mathlib.Core.List.{List, [], ◌∷◌, ◌++◌, map, append-nil}
use Prim.Native.Nat.{ℕ, zero, suc, ◌+◌, ◌≤◌, ◌<◌}
use native.Mathlib.Nat.{not-suc-le-zero}
use native.Mathlib.Omega.{arith}
use borrow.Author.Tests.{not-false, leb-true, eqb-true, eq-eqb, ne_eqb}
use lib.Dec.{leb, ltb, eqb}
use lib.ListN.{length, take, get_or}
use Rattle.rules.specs.Base.{Bytes, Rule, ◌⇒◌, first, every, null, all, any, between, keep, member}
use Rattle.rules.specs.Cutting.{Segment, field, repetition_in, delimiters, separates_repetitions}
use Rattle.rules.specs.Tables.{Row, Syntax, Entry, Table}
use Rattle.rules.specs.Elements.{element_code, repeats, present, is_place, lacking, lacks, shuts_out, shows_value, longest_echo, echo_of, place_codes, Finding, found, surplus_at, findings_from, findings}
use Rattle.rules.specs.Segments.{Note, Present, Standing, unknown, unlisted, before, again, later, entry_at, index_from, compared, standing, own_code, moved, skipped, findings_by, missing, echoed, noted, segment_note, walk, notes_of}
use Rattle.rules.specs.Sets.{Set, notes_in, SetReport, set_report}
use Rattle.rules.specs.Groups.{Group, sets, table_in, group_report}
use Rattle.rules.specs.Damage.{free}
use Rattle.rules.specs.declared.Delimiters.{Delimiters}
use Rattle.rules.specs.declared.Relation.{Relation}
use Rattle.rules.specs.declared.Relation.TheVariants.{P, R, E, C, L}
use Rattle.rules.proofs.Logic.{and_left, and_right, or_none, numbered_in, first_low, Each, each_none, each_append, each_map, each_weaken, Given, every_given}
use Rattle.rules.proofs.Accepting.{Sound, report_at_lem}

-- 1. The order.
module _ {A : Type 0} (Before : A → A → Type 0) where
  -- each stands before all that follow
  abbrev pub InOrder : List A → Type 0
  InOrder [] = Unit {0}
  InOrder (x ∷ xs) = Each (Before x) xs × InOrder xs

  order_append : (xs ys : List A) → InOrder xs → InOrder ys → Each (λ x. Each (Before x) ys) xs → InOrder (xs ++ ys)
  unfolding Each
  order_append [] ys h k between = k
  order_append (x ∷ xs) ys h k between = (each_append (Before x) xs ys h.0 between.0, order_append xs ys h.1 k between.1)

-- the numbers that rules give stand in order where each that is given is below those that may be given after it
abbrev Rising : List Rule → Type 0
Rising [] = Unit {0}
Rising ((b ⇒ n) ∷ rs) = (b ≡ true → Given (λ m. n < m) rs) × Rising rs

every_rises : (rs : List Rule) → Rising rs → InOrder ◌<◌ (every rs)
unfolding every
every_rises [] h = tt
every_rises ((true ⇒ n) ∷ rs) h = (every_given (λ m. n < m) rs (h.0 refl), every_rises rs h.1)
every_rises ((false ⇒ n) ∷ rs) h = every_rises rs h.1

four_up : (k : ℕ) → between 4 9 k ≡ true → 4 ≤ k
four_up k h = leb-true 4 k (and_left (leb 4 k) (leb k 9) h)

nine_down : (k : ℕ) → between 4 9 k ≡ true → k ≤ 9
nine_down k h = leb-true k 9 (and_right (leb 4 k) (leb k 9) h)

-- The codes of a place ascend, and none stands twice, whatever the table, the segment, the row and the place. Shut out: code 12 in front
-- of 10, and one code that two rules give.
pub codes_ascend : (d : Delimiters) (notes : List Syntax) (s : Segment) (r : Row) (n : ℕ) → InOrder ◌<◌ (place_codes d notes s r n)
unfolding place_codes
codes_ascend d notes s r n =
    let own = element_code d r (field s n) in
    every_rises _ (omega (arith, four_up), (omega (arith, four_up), (λ p. omega (arith, nine_down own p), (omega arith, (omega arith, tt)))))

-- one finding stands before another: at an earlier place, or at the same one with a lower code
abbrev pub Before : Finding → Finding → Type 0
Before f g = (f.place < g.place) ⊎ ((f.place ≡ g.place) × (f.code < g.code))

module _ (d : Delimiters) (notes : List Syntax) (s : Segment) where
  -- the findings from place n on are of no place before
  from_place : (n : ℕ) (rs : List Row) → Each (λ f. n ≤ f.place) (findings_from d notes s n rs)
  unfolding findings_from Each
  from_place n [] = go (ltb n (length s))
    where
      go : (b : Bool) → Each (λ f. n ≤ f.place) (if b then surplus_at n ∷ [] else [])
      go true = (omega arith, tt)
      go false = tt
  from_place n (r ∷ rs) =
      each_append (λ (f : Finding). n ≤ f.place) (map (found d s r n) codes) later
      (each_map (λ f. n ≤ f.place) (found d s r n) codes (here codes))
      (each_weaken (λ (f : Finding). n + 1 ≤ f.place) _ (λ f h. omega (arith, h)) later (from_place (n + 1) rs))
    where
      codes : List ℕ
      codes = place_codes d notes s r n

      later : List Finding
      later = findings_from d notes s (n + 1) rs

      here : (cs : List ℕ) → Each (λ c. n ≤ n) cs
      here [] = tt
      here (c ∷ cs) = (omega arith, here cs)

  -- those of one place stand as its codes do
  place_ascends : (r : Row) (n : ℕ) (cs : List ℕ) → InOrder ◌<◌ cs → InOrder Before (map (found d s r n) cs)
  place_ascends r n [] h = tt
  place_ascends r n (c ∷ cs) h =
      (each_map (Before (found d s r n c)) (found d s r n) cs (each_weaken (λ m. c < m) _ (λ m k. inr (refl, k)) cs h.0), place_ascends r n cs h.1)

  from_ascends : (n : ℕ) (rs : List Row) → InOrder Before (findings_from d notes s n rs)
  unfolding findings_from Each
  from_ascends n [] = go (ltb n (length s))
    where
      go : (b : Bool) → InOrder Before (if b then surplus_at n ∷ [] else [])
      go true = (tt, tt)
      go false = tt
  from_ascends n (r ∷ rs) =
      order_append Before (map (found d s r n) codes) later (place_ascends r n codes (codes_ascend d notes s r n)) (from_ascends (n + 1) rs) (ahead codes)
    where
      codes : List ℕ
      codes = place_codes d notes s r n

      later : List Finding
      later = findings_from d notes s (n + 1) rs

      ahead : (cs : List ℕ) → Each (λ f. Each (Before f) later) (map (found d s r n) cs)
      ahead [] = tt
      ahead (c ∷ cs) = (each_weaken (λ (f : Finding). n + 1 ≤ f.place) _ (λ f h. inl (omega (arith, h))) later (from_place (n + 1) rs), ahead cs)

-- The findings of a segment stand by place and then by code, and no two have the same place and code. Shut out: an element that is reported
-- before one to its left, and one that is reported twice with one code.
pub findings_ascend : (d : Delimiters) (e : Entry) (s : Segment) → InOrder Before (findings d e s)
unfolding findings
findings_ascend d e s = from_ascends d e.notes s 1 e.rows

-- 2. An element that holds the repetition separator.
-- it is there
repeats_some : (d : Delimiters) (e : Bytes) → repeats d e ≡ true → null e ≡ false
unfolding any
repeats_some d [] h = absurd (false≢true h)
repeats_some d (b ∷ e) h = refl

-- its own code is 12
repeats_own : (d : Delimiters) (r : Row) (e : Bytes) → repeats d e ≡ true → element_code d r e ≡ 12
unfolding element_code first
repeats_own d r [] h = absurd (true≢false (repeats_some d [] h))
repeats_own d r (b ∷ e) h = rw h

-- no note lacks what is present
module _ (s : Segment) (n : ℕ) where
  absent : (b : Bool) → present s n ≡ true → b && not (present s n) ≡ true → ⊥
  absent b e h = false≢true (rw e at (and_right b (not (present s n)) h))

  none_present : (p : ℕ) (ps : List ℕ) → present s n ≡ true → eqb n p ≡ true → not (any (present s) (p ∷ ps)) ≡ true → ⊥
  unfolding any
  none_present p ps e q h = false≢true (rw (← eqb-true n p q, e) at h)

  relation_lacks : (k : Relation) (ps : List ℕ) → present s n ≡ true → lacking s k ps n ≡ true → ⊥
  relation_lacks P ps e h = absent (any (present s) ps && is_place n ps) e h
  relation_lacks R [] e h = false≢true h
  relation_lacks R (p ∷ ps) e h = none_present p ps e (and_left (eqb n p) _ h) (and_right (eqb n p) _ h)
  relation_lacks E ps e h = false≢true h
  relation_lacks C [] e h = false≢true h
  relation_lacks C (p ∷ ps) e h = absent (present s p && is_place n ps) e h
  relation_lacks L [] e h = false≢true h
  relation_lacks L (p ∷ []) e h = false≢true h
  relation_lacks L (p ∷ (q ∷ ps)) e h =
      none_present q ps e (and_left (eqb n q) (present s p) (and_left (eqb n q && present s p) _ h)) (and_right (eqb n q && present s p) _ h)

  pub lacking_present : (k : Relation) (ps : List ℕ) → present s n ≡ true → lacking s k ps n ≡ false
  lacking_present k ps e = go (lacking s k ps n) refl
    where
      go : (b : Bool) → lacking s k ps n ≡ b → b ≡ false
      go true q = absurd (relation_lacks k ps e q)
      go false q = refl

  pub lacks_present : (notes : List Syntax) → present s n ≡ true → lacks notes s n ≡ false
  unfolding lacks any
  lacks_present [] e = refl
  lacks_present (c ∷ cs) e = rw (lacking_present c.relation c.places e) (lacks_present cs e)

module _ (d : Delimiters) (notes : List Syntax) (s : Segment) where
  -- so its codes are 12, and 10 before it where a note shuts it out
  repeats_codes : (r : Row) (n : ℕ) → repeats d (field s n) ≡ true → place_codes d notes s r n ≡ every ((shuts_out notes s n ⇒ 10) ∷ (true ⇒ 12) ∷ [])
  unfolding place_codes every
  repeats_codes r n h = rw (repeats_own d r (field s n) h, lacks_present s n notes (rw (repeats_some d (field s n) h)))

  keep_append : (p : Finding → Bool) (fs gs : List Finding) → keep p (fs ++ gs) ≡ keep p fs ++ keep p gs
  unfolding keep
  keep_append p [] gs = refl
  keep_append p (f ∷ fs) gs = rw (keep_append p fs gs) (go (p f))
    where
      go : (b : Bool) → (if b then f ∷ (keep p fs ++ keep p gs) else keep p fs ++ keep p gs) ≡ (if b then f ∷ keep p fs else keep p fs) ++ keep p gs
      go true = refl
      go false = refl

  keep_none : (m : ℕ) (fs : List Finding) → Each (λ f. m < f.place) fs → keep (λ f. eqb f.place m) fs ≡ []
  unfolding keep Each
  keep_none m [] h = refl
  keep_none m (f ∷ fs) h = rw (ne_eqb f.place m (λ (e : f.place ≡ m). omega (arith, h.0, e))) (keep_none m fs h.1)

  keep_here : (r : Row) (n : ℕ) (cs : List ℕ) → keep (λ f. eqb f.place n) (map (found d s r n) cs) ≡ map (found d s r n) cs
  unfolding keep
  keep_here r n [] = refl
  keep_here r n (c ∷ cs) = rw (eq-eqb n n refl, keep_here r n cs)

  keep_past : (r : Row) (n m : ℕ) (cs : List ℕ) → n < m → keep (λ f. eqb f.place m) (map (found d s r n) cs) ≡ []
  unfolding keep
  keep_past r n m [] h = refl
  keep_past r n m (c ∷ cs) h = rw (ne_eqb n m (λ (e : n ≡ m). omega (arith, h, e))) (keep_past r n m cs h)

  -- the findings of a place are those of its codes
  kept : (n : ℕ) (rs : List Row) (k m : ℕ) (w : Row) → k < length rs → m ≡ k + n
      → keep (λ f. eqb f.place m) (findings_from d notes s n rs) ≡ map (found d s (get_or rs k w) m) (place_codes d notes s (get_or rs k w) m)
  unfolding findings_from
  kept n [] k m w h e = absurd (not-suc-le-zero h)
  kept n (r ∷ rs) zero m w h e =
      let codes = place_codes d notes s r n in
      let later = findings_from d notes s (n + 1) rs in
      let here : m ≡ n = omega (arith, e) in
      let past = each_weaken (λ (f : Finding). n + 1 ≤ f.place) (λ f. n < f.place) (λ f h. omega (arith, h)) later (from_place d notes s (n + 1) rs) in
      rw here
      (keep_append (λ f. eqb f.place n) (map (found d s r n) codes) later
      ∙ rw (keep_here r n codes, keep_none n later past)
      (append-nil (map (found d s r n) codes)))
  kept n (r ∷ rs) (suc k) m w h e =
      keep_append (λ f. eqb f.place m) (map (found d s r n) (place_codes d notes s r n)) (findings_from d notes s (n + 1) rs)
      ∙ rw (keep_past r n m (place_codes d notes s r n) (omega (arith, e))) (kept (n + 1) rs k m w (omega (arith, h)) (omega (arith, e)))

-- a value with the code 12 is shown under no code
unshown : (c : ℕ) (e : Bytes) → echo_of c 12 e ≡ []
unfolding echo_of any
unshown c e = go (shows_value c)
  where
    go : (b : Bool) → (if b && false then take longest_echo e else []) ≡ []
    go true = refl
    go false = refl

-- the finding of code c at place n that shows nothing
abbrev pub bare : Row → ℕ → ℕ → Finding
bare r n c = record { place = n; reference = r.reference; code = c; echo = [] }

-- Of an element that holds the repetition separator, at the place of row k of any table, this is found and nothing else: code 12, before it code
-- 10 where a note shuts the element out, and no echo. Shut out: a code of 4 to 9 for such a value, one beside 12, and an echo under 10.
pub places_repeat : (d : Delimiters) (e : Entry) (s : Segment) (k : ℕ) (w : Row) → k < length e.rows → repeats d (field s (k + 1)) ≡ true
    → keep (λ f. eqb f.place (k + 1)) (findings d e s)
    ≡ map (bare (get_or e.rows k w) (k + 1)) (every ((shuts_out e.notes s (k + 1) ⇒ 10) ∷ (true ⇒ 12) ∷ []))
unfolding findings
places_repeat d e s k w h repeated =
    kept d e.notes s 1 e.rows k (k + 1) w h (omega arith)
    ∙ ap (map (found d s r (k + 1))) (repeats_codes d e.notes s r (k + 1) repeated)
    ∙ silent (every ((shuts_out e.notes s (k + 1) ⇒ 10) ∷ (true ⇒ 12) ∷ []))
  where
    r : Row
    r = get_or e.rows k w

    silent : (cs : List ℕ) → map (found d s r (k + 1)) cs ≡ map (bare r (k + 1)) cs
    silent [] = refl
    silent (c ∷ cs) = rw (repeats_own d r (field s (k + 1)) repeated, unshown c (field s (k + 1)), silent cs)

-- 3. Where it is found.
module _ (d : Delimiters) (b : ℕ) (by : d.repetition ≡ Some b) where
  separates_one : (c : ℕ) → separates_repetitions d c ≡ eqb c b
  unfolding separates_repetitions any
  separates_one c = rw by (or_none (eqb c b))

  repeats_one : (e : Bytes) → repeats d e ≡ not (free b e)
  unfolding any all
  repeats_one [] = refl
  repeats_one (c ∷ e) = rw (separates_one c, repeats_one e) (go (eqb c b) (free b e))
    where
      go : (x y : Bool) → x || not y ≡ not (not x && y)
      go true y = refl
      go false y = refl

-- A value repeats exactly where the separator is one of its bytes. Shut out: a separator of 128 or more that is passed over, and another byte taken for it.
pub repeats_exactly : (i : Bytes) (b : ℕ) → repetition_in i ≡ Some b → (e : Bytes) → repeats (delimiters i) e ≡ not (free b e)
unfolding delimiters
repeats_exactly i b r = repeats_one (delimiters i) b r

-- without it the own code of a value is at most 9
rest_low : (b : Bool) (rs : List Rule) → b ≡ false → numbered_in 4 9 rs ≡ true → first ((b ⇒ 12) ∷ rs) ≤ 9
unfolding first
rest_low true rs e h = absurd (true≢false e)
rest_low false rs e h = first_low 4 9 rs h

own_low : (d : Delimiters) (r : Row) (e : Bytes) → repeats d e ≡ false → element_code d r e ≤ 9
unfolding element_code
own_low d r [] h = first_low 0 9 _ refl
own_low d r (b ∷ e) h = rest_low (repeats d (b ∷ e)) _ h refl

abbrev is_twelve : ℕ → Bool
is_twelve c = eqb c 12

none_twelve : (cs : List ℕ) → Each (λ c. is_twelve c ≡ false) cs → any is_twelve cs ≡ false
unfolding any Each
none_twelve [] h = refl
none_twelve (c ∷ cs) h = rw h.0 (none_twelve cs h.1)

last_twelve : (b : Bool) → any is_twelve (every ((b ⇒ 10) ∷ (true ⇒ 12) ∷ [])) ≡ true
unfolding every any
last_twelve true = refl
last_twelve false = refl

module _ (d : Delimiters) (notes : List Syntax) (s : Segment) where
  lower_codes : (r : Row) (n : ℕ) → repeats d (field s n) ≡ false → Each (λ c. is_twelve c ≡ false) (place_codes d notes s r n)
  unfolding place_codes
  lower_codes r n q =
      let own = element_code d r (field s n) in
      let low : (own ≡ 12 → ⊥) = λ e. omega (arith, own_low d r (field s n) q, e) in
      every_given (λ c. is_twelve c ≡ false) _
      (λ h. refl, (λ h. refl, (λ h. ne_eqb own 12 low, (λ h. refl, (λ h. absurd (low (eqb-true own 12 h)), tt)))))

  -- code 12 is of the places that hold the separator
  codes_twelve : (r : Row) (n : ℕ) → any is_twelve (place_codes d notes s r n) ≡ repeats d (field s n)
  codes_twelve r n = go (repeats d (field s n)) refl
    where
      go : (b : Bool) → repeats d (field s n) ≡ b → any is_twelve (place_codes d notes s r n) ≡ b
      go true q = ap (any is_twelve) (repeats_codes d notes s r n q) ∙ last_twelve (shuts_out notes s n)
      go false q = none_twelve _ (lower_codes r n q)

  keep_any : (p q : Finding → Bool) (fs : List Finding) → any (λ f. p f && q f) fs ≡ any q (keep p fs)
  unfolding any keep
  keep_any p q [] = refl
  keep_any p q (f ∷ fs) = rw (keep_any p q fs) (go (p f))
    where
      go : (b : Bool) → (b && q f) || any q (keep p fs) ≡ any q (if b then f ∷ keep p fs else keep p fs)
      go true = refl
      go false = refl

  found_any : (r : Row) (n : ℕ) (cs : List ℕ) → any (λ f. is_twelve f.code) (map (found d s r n) cs) ≡ any is_twelve cs
  unfolding any
  found_any r n [] = refl
  found_any r n (c ∷ cs) = rw (found_any r n cs)

  rows_twelve : (rs : List Row) (k : ℕ) → k < length rs
      → any (λ f. eqb f.place (k + 1) && eqb f.code 12) (findings_from d notes s 1 rs) ≡ repeats d (field s (k + 1))
  rows_twelve [] k h = absurd (not-suc-le-zero h)
  rows_twelve (r ∷ rs) k h =
      let row = get_or (r ∷ rs) k r in
      keep_any (λ f. eqb f.place (k + 1)) (λ f. is_twelve f.code) (findings_from d notes s 1 (r ∷ rs))
      ∙ ap (any (λ (f : Finding). is_twelve f.code)) (kept d notes s 1 (r ∷ rs) k (k + 1) r h (omega arith))
      ∙ found_any row (k + 1) (place_codes d notes s row (k + 1))
      ∙ codes_twelve row (k + 1)

  within : (n : ℕ) (rs : List Row) → Each (λ f. f.code ≡ 12 → f.place < n + length rs) (findings_from d notes s n rs)
  unfolding findings_from Each
  within n [] = go (ltb n (length s))
    where
      go : (b : Bool) → Each (λ f. f.code ≡ 12 → f.place < n + 0) (if b then surplus_at n ∷ [] else [])
      go true = (λ e. absurd (omega (arith, e)), tt)
      go false = tt
  within n (r ∷ rs) =
      each_append (λ (f : Finding). f.code ≡ 12 → f.place < n + length (r ∷ rs)) (map (found d s r n) codes) later
      (each_map (λ f. f.code ≡ 12 → f.place < n + length (r ∷ rs)) (found d s r n) codes (here codes))
      (each_weaken (λ (f : Finding). f.code ≡ 12 → f.place < n + 1 + length rs) _ (λ f h e. omega (arith, h e)) later (within (n + 1) rs))
    where
      codes : List ℕ
      codes = place_codes d notes s r n

      later : List Finding
      later = findings_from d notes s (n + 1) rs

      here : (cs : List ℕ) → Each (λ c. c ≡ 12 → n < n + length (r ∷ rs)) cs
      here [] = tt
      here (c ∷ cs) = (λ e. omega arith, here cs)

-- Code 12 is found at the place of row k of any table exactly where the element there holds the separator. Shut out: code 6 in its place, and 12 for
-- another byte.
pub twelve_exactly : (d : Delimiters) (e : Entry) (s : Segment) (k : ℕ) → k < length e.rows
    → any (λ f. eqb f.place (k + 1) && eqb f.code 12) (findings d e s) ≡ repeats d (field s (k + 1))
unfolding findings
twelve_exactly d e s k h = rows_twelve d e.notes s e.rows k h

-- And it is found at such places only. Shut out: 12 for an element beyond the table.
pub twelve_within : (d : Delimiters) (e : Entry) (s : Segment) → Each (λ f. f.code ≡ 12 → f.place ≤ length e.rows) (findings d e s)
unfolding findings
twelve_within d e s =
    each_weaken (λ (f : Finding). f.code ≡ 12 → f.place < 1 + length e.rows) _ (λ f h c. omega (arith, h c)) (findings d e s)
    (within d e.notes s 1 e.rows)

-- 4. The notes of a set.
-- the findings of a note stand in their order
abbrev pub Ordered : Note → Type 0
Ordered n = InOrder Before n.findings

missing_ordered : (n : ℕ) (es : List Entry) → Each Ordered (missing n es)
unfolding missing Each
missing_ordered n es = go (keep (λ e. e.mandatory) es)
  where
    go : (es : List Entry) → Each Ordered (map (λ e. record { id = e.id; position = n; codes = 3 ∷ []; findings = [] }) es)
    go [] = tt
    go (e ∷ es) = (tt, go es)

segment_ordered : (n c : ℕ) (id : Bytes) (fs : List Finding) → InOrder Before fs → Each Ordered (segment_note n c id fs)
unfolding segment_note Each
segment_ordered n c id fs h = go (every ((not (eqb c 0) ⇒ c) ∷ (not (null fs) ⇒ 8) ∷ []))
  where
    go : (cs : List ℕ) → Each Ordered (noted (echoed id) n cs fs)
    go [] = tt
    go (c ∷ cs) = (h, tt)

module _ (d : Delimiters) where
  by_ascends : (t : Table) (st : Standing) (s : Segment) → InOrder Before (findings_by d t st s)
  by_ascends t unknown s = tt
  by_ascends t unlisted s = tt
  by_ascends t (before k) s = findings_ascend d (entry_at t k) s
  by_ascends t (again k) s = findings_ascend d (entry_at t k) s
  by_ascends t (later k) s = findings_ascend d (entry_at t k) s

  walk_ordered : (t : Table) (closed : Bool) (p : Present) (n : ℕ) (ss : List Segment) → Each Ordered (walk d t closed p n ss)
  unfolding walk
  walk_ordered t true p n [] = each_none _
  walk_ordered t false p n [] = missing_ordered n _
  walk_ordered t closed p n (s ∷ ss) =
      let st = standing t p (field s 0) in
      each_append Ordered _ _ (each_append Ordered _ _ (missing_ordered n _) (segment_ordered n _ _ _ (by_ascends t st s)))
      (walk_ordered t closed (moved p st) (n + 1) ss)

  notes_ordered : (t : Option Table) (s : Set) → Each Ordered (notes_in d t s)
  unfolding notes_of
  notes_ordered None s = each_none _
  notes_ordered (Some t) s =
      each_append Ordered _ _ (segment_ordered 1 0 _ _ (findings_ascend d (entry_at t 0) s.header)) (walk_ordered t _ _ 2 _)

-- The findings of each note in the report of set k stand by place and then by code. Shut out: a report that sorts them otherwise, or says one twice.
pub report_ordered : (d : Delimiters) (g : Group) (k : ℕ) (x : Set) (y : SetReport) → k < length (sets g)
    → Each Ordered (get_or (group_report d g).sets k y).notes
unfolding set_report
report_ordered d g k x y h = rw (report_at_lem d g k x y h) (notes_ordered d (table_in g.header (get_or (sets g) k x)) (get_or (sets g) k x))

-- the byte b stands at no place of the entry
abbrev pub SparedBy : ℕ → Entry → Segment → Type 0
SparedBy b e s = (n : ℕ) → n < length e.rows → free b (field s (n + 1)) ≡ true

-- nor at one of the entry that the table has for the segment
abbrev pub SparedIn : ℕ → Table → Segment → Type 0
SparedIn b t s = (k : ℕ) → index_from 0 (field s 0) t.entries ≡ Some k → SparedBy b (entry_at t k) s

both_none : {A : Type 0} (xs ys : List A) → xs ++ ys ≡ [] → (xs ≡ []) × (ys ≡ [])
both_none [] ys e = (refl, e)
both_none (x ∷ xs) ys e = absurd (true≢false (ap (λ l. not (null l)) e))

-- a segment without a note has no code of its own and no finding
unnoted : (n c : ℕ) (id : Bytes) (fs : List Finding) → segment_note n c id fs ≡ [] → (c ≡ 0) × (fs ≡ [])
unfolding segment_note every
unnoted n c id fs e = go (eqb c 0) refl fs e
  where
    go : (b : Bool) → eqb c 0 ≡ b → (fs : List Finding) → noted (echoed id) n (every ((not b ⇒ c) ∷ (not (null fs) ⇒ 8) ∷ [])) fs ≡ [] → (c ≡ 0) × (fs ≡ [])
    go true q [] e = (eqb-true c 0 q, refl)
    go true q (f ∷ fs) e = absurd (true≢false (ap (λ l. not (null l)) e))
    go false q fs e = absurd (true≢false (ap (λ l. not (null l)) e))

module _ (d : Delimiters) (b : ℕ) (by : d.repetition ≡ Some b) where
  -- without a finding there is no 12
  spared : (e : Entry) (s : Segment) → findings d e s ≡ [] → SparedBy b e s
  unfolding any
  spared e s empty n h =
      let p : Finding → Bool = λ f. eqb f.place (n + 1) && eqb f.code 12 in
      let absent : repeats d (field s (n + 1)) ≡ false = sym (twelve_exactly d e s n h) ∙ ap (any p) empty in
      not-false (free b (field s (n + 1))) (sym (repeats_one d b by (field s (n + 1))) ∙ absent)

  module _ (t : Table) where
    stood : (p : Present) (s : Segment) → own_code t p (standing t p (field s 0)) ≡ 0 → findings_by d t (standing t p (field s 0)) s ≡ [] → SparedIn b t s
    unfolding standing
    stood p s c empty k at = go (member (field s 0) t.directory) c empty
      where
        go : (m : Bool) → let st = if m then compared p.index (index_from 0 (field s 0) t.entries) else unknown in
            own_code t p st ≡ 0 → findings_by d t st s ≡ [] → SparedBy b (entry_at t k) s
        go false c empty = absurd (omega (arith, c))
        go true c empty = rest (ltb k p.index) (eqb k p.index) (rw at at empty)
          where
            rest : (x y : Bool) → findings_by d t (if x then before k else (if y then again k else later k)) s ≡ [] → SparedBy b (entry_at t k) s
            rest true y e = spared (entry_at t k) s e
            rest false true e = spared (entry_at t k) s e
            rest false false e = spared (entry_at t k) s e

    walk_spared : (closed : Bool) (p : Present) (n : ℕ) (ss : List Segment) → walk d t closed p n ss ≡ [] → Each (SparedIn b t) ss
    unfolding walk Each
    walk_spared closed p n [] e = tt
    walk_spared closed p n (s ∷ ss) e =
        let st = standing t p (field s 0) in
        let own = segment_note n (own_code t p st) (field s 0) (findings_by d t st s) in
        let parts = both_none (missing n (skipped t p st) ++ own) (walk d t closed (moved p st) (n + 1) ss) e in
        let here = unnoted n _ _ _ (both_none (missing n (skipped t p st)) own parts.0).1 in
        (stood p s here.0 here.1, walk_spared closed (moved p st) (n + 1) ss parts.1)

-- a set whose elements at the places of its table are without the byte b: those of its ST, and those of each segment after it
pub record Unrepeated (b : ℕ) (t : Table) (s : Set) : Type 0 where
  pub header : SparedBy b (entry_at t 0) s.header
  pub after : Each (SparedIn b t) (s.body ++ option_to_list s.trailer)

-- Of an accepted set no element at a place of its table holds the separator. Shut out: a program that accepts a repeated element.
pub sound_unrepeated : (i : Bytes) (b : ℕ) → repetition_in i ≡ Some b → (gs : Segment) (earlier : List Set) (s : Set)
    → (h : Sound (delimiters i) gs earlier s) → Unrepeated b h.table s
unfolding notes_of delimiters
sound_unrepeated i b r gs earlier s h =
    let d = delimiters i in
    let t = h.table in
    let parts = both_none (segment_note 1 0 (field s.header 0) (findings d (entry_at t 0) s.header)) _ h.unnoted in
    record {
      header = spared d b r (entry_at t 0) s.header (unnoted 1 0 _ _ parts.0).1;
      after = walk_spared d b r t _ _ 2 _ parts.1;
    }
