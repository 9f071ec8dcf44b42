-- The law of the echo: what the findings of a segment show of its elements, over any table; and in the notes of a set, of which segment.
use Rattle.std.specs.Prelude.{if◌then◌else◌, Option, None, Some}
use mathlib.Core.Path.{◌≡◌, refl, sym, ap, ◌∙◌}
use mathlib.Core.Bool.{Bool, true, false, ◌&&◌, ◌||◌, not, false≢true, true≢false}
use mathlib.Core.List.{List, [], ◌∷◌, ◌++◌, map}
use Prim.Native.Nat.{ℕ, zero, suc, ◌+◌, ◌≤◌, ◌<◌}
use native.Mathlib.Nat.{le_refl}
use native.Mathlib.Omega.{arith}
use borrow.Author.Tests.{not-true, leb-true, eqb-true, eqb-false, eq-eqb, ne_eqb}
use lib.Dec.{leb, ltb, eqb}
use lib.ListN.{length, take, get_or, length-take}
use lib.Seq.{take_all}
use Rattle.rules.specs.Base.{Bytes, Rule, ◌⇒◌, first, every, null, all, any, between, keep}
use Rattle.rules.specs.Cutting.{Segment, field, valid}
use Rattle.rules.specs.Tables.{Row, Syntax, Entry, Table}
use Rattle.rules.specs.Elements.{element_code, repeats, present, is_place, after_present, excluded, lacks, shuts_out, shows_value, is_withheld, is_echoed, longest_echo, echo_of, place_codes, Finding, found, surplus_at, findings_from, findings}
use Rattle.rules.specs.Segments.{Note, Present, Standing, unknown, unlisted, before, again, later, entry_at, standing, moved, findings_by, missing, echoed, noted, segment_note, walk, notes_of}
use Rattle.rules.specs.Sets.{Set, segments_of, notes_in, SetReport, set_report}
use Rattle.rules.specs.Groups.{Group, sets, table_in, group_report}
use Rattle.rules.specs.declared.Delimiters.{Delimiters}
use Rattle.rules.specs.declared.Relation.{Relation}
use Rattle.rules.specs.declared.Relation.TheVariants.{P, R, E, C, L}
use Rattle.rules.proofs.Accepting.{report_at_lem}
use Rattle.rules.proofs.Lengths.{either}
use Rattle.rules.proofs.Logic.{and_left, and_right, or_left, or_right, or_none, all_take, any_append, Each, each_none, each_append, each_map, every_given}

-- one of the findings says code 6 or 12 of place n: the value there is withheld
abbrev pub withheld_at : List Finding → ℕ → Bool
withheld_at fs n = any (λ f. eqb f.place n && is_withheld f.code) fs

-- what holds of the echo of f, one of the findings fs of a segment s
pub record Shows (d : Delimiters) (s : Segment) (fs : List Finding) (f : Finding) : Type 0 where
  -- it is empty exactly under codes 1, 2, 3, 6 and 12, and where its place has code 6 or 12
  pub empty : null f.echo ≡ any (eqb f.code) (1 ∷ 2 ∷ 3 ∷ 6 ∷ 12 ∷ []) || withheld_at fs f.place
  -- it has 99 bytes at most, all of them valid
  pub short : length f.echo ≤ 99
  pub clean : all (valid d) f.echo ≡ true
  -- it is a beginning of the element at its place, and all of it where it has fewer than 99 bytes
  pub begins : f.echo ≡ take (length f.echo) (field s f.place)
  pub whole : null f.echo ≡ false → length f.echo < 99 → f.echo ≡ field s f.place

-- 1. The beginning of a value.
take_again : (k : ℕ) (e : Bytes) → take (length (take k e)) e ≡ take k e
take_again zero e = refl
take_again (suc k) [] = refl
take_again (suc k) (b ∷ e) = ap (λ (l : Bytes). b ∷ l) (take_again k e)

take_some : (k : ℕ) (e : Bytes) → 0 < k → null e ≡ false → null (take k e) ≡ false
take_some zero e l h = absurd (omega arith)
take_some (suc k) [] l h = h
take_some (suc k) (b ∷ e) l h = refl

-- an echo has 99 bytes at most, and no fewer where the value has them
most : longest_echo ≤ 99
unfolding longest_echo
most = omega arith

enough : 99 ≤ longest_echo
unfolding longest_echo
enough = omega arith

-- something is shown of a value
first_shown : (e : Bytes) → null e ≡ false → null (take longest_echo e) ≡ false
first_shown e h = take_some longest_echo e (omega (arith, enough)) h

pub echo_short : (c own : ℕ) (e : Bytes) → length (echo_of c own e) ≤ 99
unfolding echo_of
echo_short c own e = either (λ (bs : Bytes). length bs ≤ 99) (is_echoed c own) (simp length-take (omega (arith, most))) (omega arith)

-- 2. A value by its own code: with any but 6 and 12 its bytes are valid, and with one of 4 to 9 there are some.
none_clean : (p : ℕ → Bool) → all p [] ≡ true
unfolding all
none_clean p = refl

not_withheld : (k : ℕ) → is_withheld k ≡ false → (eqb k 6 ≡ false) × (eqb k 12 ≡ false)
unfolding any
not_withheld k h =
    let rest = or_right (eqb k 6) (eqb k 12 || false) h in
    (or_left (eqb k 6) (eqb k 12 || false) h, or_left (eqb k 12) false rest)

own_clean : (d : Delimiters) (r : Row) (e : Bytes) → is_withheld (element_code d r e) ≡ false → all (valid d) e ≡ true
unfolding element_code first
own_clean d r [] h = none_clean (valid d)
own_clean d r (b ∷ e) h =
    let shown = not_withheld (element_code d r (b ∷ e)) h in
    go (repeats d (b ∷ e)) (all (valid d) (b ∷ e)) refl refl shown.0 shown.1
  where
    go : (twice clean : Bool) → repeats d (b ∷ e) ≡ twice → all (valid d) (b ∷ e) ≡ clean → eqb (element_code d r (b ∷ e)) 6 ≡ false
        → eqb (element_code d r (b ∷ e)) 12 ≡ false → all (valid d) (b ∷ e) ≡ true
    go true clean p q six twelve = absurd (true≢false (rw p at twelve))
    go false true p q six twelve = q
    go false false p q six twelve = absurd (true≢false (rw (p, q) at six))

own_some : (d : Delimiters) (r : Row) (e : Bytes) → between 4 9 (element_code d r e) ≡ true → null e ≡ false
unfolding element_code first
own_some d r [] h = absurd (go r.mandatory h)
  where
    go : (b : Bool) → between 4 9 (first ((b ⇒ 1) ∷ [])) ≡ true → ⊥
    go true q = false≢true q
    go false q = false≢true q
own_some d r (b ∷ e) h = refl

-- 3. The codes of a place, one by one.
-- k is m, or more
step : (Q : ℕ → Type 0) (m : ℕ) {k : ℕ} → m ≤ k → Q m → (suc m ≤ k → Q k) → Q k
step Q m {k} h here more = go (eqb k m) refl
  where
    go : (b : Bool) → eqb k m ≡ b → Q k
    go true q = rw (eqb-true k m q) here
    go false q = more (omega (arith, h, eqb-false k m q))

-- an echo under code c, of a value with the code `own`, is empty exactly under 1, 2, 3, 6 and 12 or where `own` is 6 or 12
abbrev Fits : ℕ → Bytes → ℕ → Type 0
Fits own e c = null (echo_of c own e) ≡ any (eqb c) (1 ∷ 2 ∷ 3 ∷ 6 ∷ 12 ∷ []) || is_withheld own

own_fits : (e : Bytes) → null e ≡ false → (k : ℕ) → between 4 9 k ≡ true → Fits k e k
unfolding echo_of any
own_fits e filled k h =
    let Q : ℕ → Type 0 = λ k. Fits k e k in
    let shown = first_shown e filled in
    let low = leb-true 4 k (and_left (leb 4 k) (leb k 9) h) in
    let high = leb-true k 9 (and_right (leb 4 k) (leb k 9) h) in
    step Q 4 low shown
    (λ h5. step Q 5 h5 shown
    (λ h6. step Q 6 h6 refl
    (λ h7. step Q 7 h7 shown
    (λ h8. step Q 8 h8 shown
    (λ h9. step Q 9 h9 shown
    (λ h10. absurd (omega (arith, high, h10))))))))

-- what a note shuts out is there
relation_present : (s : Segment) (k : Relation) (ps : List ℕ) (n : ℕ) → excluded s k ps n ≡ true → null (field s n) ≡ false
relation_present s E ps n h = not-true (null (field s n)) (and_right (is_place n (after_present s ps)) (present s n) h)
relation_present s P ps n h = absurd (false≢true h)
relation_present s R ps n h = absurd (false≢true h)
relation_present s C ps n h = absurd (false≢true h)
relation_present s L ps n h = absurd (false≢true h)

shut_present : (notes : List Syntax) (s : Segment) (n : ℕ) → shuts_out notes s n ≡ true → null (field s n) ≡ false
unfolding shuts_out any
shut_present [] s n h = absurd (false≢true h)
shut_present (c ∷ cs) s n h = go (excluded s c.relation c.places n) refl (λ k. shut_present cs s n k)
  where
    go : (b : Bool) → excluded s c.relation c.places n ≡ b → (shuts_out cs s n ≡ true → null (field s n) ≡ false) → null (field s n) ≡ false
    go true q more = relation_present s c.relation c.places n q
    go false q more = more (rw q at h)

not_six : (k : ℕ) → between 4 9 k ≡ false → eqb k 6 ≡ false
not_six k q = go (eqb k 6) refl
  where
    go : (b : Bool) → eqb k 6 ≡ b → eqb k 6 ≡ false
    go true p = absurd (true≢false (rw (eqb-true k 6 p) at q))
    go false p = p

module _ (d : Delimiters) (notes : List Syntax) (s : Segment) (r : Row) (n : ℕ) where
  abbrev value : Bytes
  value = field s n

  abbrev own : ℕ
  own = element_code d r value

  codes_fit : Each (Fits own value) (place_codes d notes s r n)
  unfolding place_codes echo_of any
  codes_fit =
      every_given (Fits own value) _
      (λ q. refl, (λ q. refl, (λ q. own_fits value (own_some d r value q) own q, (λ q. ten (shut_present notes s n q) (is_withheld own), (λ q. refl, tt)))))
    where
      ten : null value ≡ false → (b : Bool) → null (if not b then take longest_echo value else []) ≡ b
      ten filled true = refl
      ten filled false = first_shown value filled

  -- 6 or 12 is among them exactly where it is the value's own
  skip : (b : Bool) (c : ℕ) (rs : List Rule) → is_withheld c ≡ false → any is_withheld (every ((b ⇒ c) ∷ rs)) ≡ any is_withheld (every rs)
  unfolding every any
  skip true c rs h = rw h
  skip false c rs h = refl

  twelve : any is_withheld (every ((shuts_out notes s n ⇒ 10) ∷ (eqb own 12 ⇒ 12) ∷ [])) ≡ eqb own 12
  unfolding every any
  twelve = skip (shuts_out notes s n) 10 ((eqb own 12 ⇒ 12) ∷ []) refl ∙ go (eqb own 12)
    where
      go : (b : Bool) → any is_withheld (every ((b ⇒ 12) ∷ [])) ≡ b
      go true = refl
      go false = refl

  withheld_value : any is_withheld (every ((between 4 9 own ⇒ own) ∷ (shuts_out notes s n ⇒ 10) ∷ (eqb own 12 ⇒ 12) ∷ [])) ≡ is_withheld own
  unfolding every any
  withheld_value = go (between 4 9 own) refl
    where
      once : (a b : Bool) → (a || (b || false)) || b ≡ a || (b || false)
      once true b = refl
      once false true = refl
      once false false = refl

      go : (b : Bool) → between 4 9 own ≡ b
          → any is_withheld (every ((b ⇒ own) ∷ (shuts_out notes s n ⇒ 10) ∷ (eqb own 12 ⇒ 12) ∷ [])) ≡ is_withheld own
      go true q = ap (λ (b : Bool). is_withheld own || b) twelve ∙ once (eqb own 6) (eqb own 12)
      go false q = twelve ∙ rw (not_six own q) (sym (or_none (eqb own 12)))

  withheld_own : any is_withheld (place_codes d notes s r n) ≡ is_withheld own
  unfolding place_codes any
  withheld_own = skip (eqb own 1) 1 _ refl ∙ skip (lacks notes s n) 2 _ refl ∙ withheld_value

  -- so of its findings
  withheld_here : (cs : List ℕ) (m : ℕ) → withheld_at (map (found d s r n) cs) m ≡ eqb n m && any is_withheld cs
  unfolding any
  withheld_here [] m = go (eqb n m)
    where
      go : (b : Bool) → false ≡ b && false
      go true = refl
      go false = refl
  withheld_here (c ∷ cs) m = rw (withheld_here cs m) (go (eqb n m))
    where
      go : (b : Bool) → (b && is_withheld c) || (b && any is_withheld cs) ≡ b && (is_withheld c || any is_withheld cs)
      go true = refl
      go false = refl

  -- what holds of one of them
  found_shows : (fs : List Finding) → withheld_at fs n ≡ is_withheld own → (c : ℕ) → Fits own value c → Shows d s fs (found d s r n c)
  unfolding echo_of
  found_shows fs withheld c fits = record {
    empty = fits ∙ ap (λ (b : Bool). any (eqb c) (1 ∷ 2 ∷ 3 ∷ 6 ∷ 12 ∷ []) || b) (sym withheld);
    short = echo_short c own value;
    clean = clean (is_echoed c own) refl;
    begins = begins (is_echoed c own);
    whole = whole (is_echoed c own);
  }
    where
      clean : (b : Bool) → is_echoed c own ≡ b → all (valid d) (if b then take longest_echo value else []) ≡ true
      clean true q =
          all_take (valid d) longest_echo value (own_clean d r value (not-true (is_withheld own) (and_right (shows_value c) (not (is_withheld own)) q)))
      clean false q = none_clean (valid d)

      begins : (b : Bool) → (if b then take longest_echo value else []) ≡ take (length (if b then take longest_echo value else [])) value
      begins true = sym (take_again longest_echo value)
      begins false = refl

      whole : (b : Bool) → null (if b then take longest_echo value else []) ≡ false → length (if b then take longest_echo value else []) < 99
          → (if b then take longest_echo value else []) ≡ value
      whole true filled h = take_all longest_echo value (omega (arith, length-take longest_echo value, enough, h))
      whole false filled h = absurd (true≢false filled)

-- 4. The findings of a segment.
module _ (d : Delimiters) (notes : List Syntax) (s : Segment) where
  -- those from place k on say nothing of one before
  withheld_before : (n k : ℕ) (rs : List Row) → n < k → withheld_at (findings_from d notes s k rs) n ≡ false
  unfolding findings_from any
  withheld_before n k [] h = go (ltb k (length s))
    where
      go : (b : Bool) → withheld_at (if b then surplus_at k ∷ [] else []) n ≡ false
      go true = rw (ne_eqb k n (λ (e : k ≡ n). omega (arith, h, e)))
      go false = refl
  withheld_before n k (r ∷ rs) h =
      any_append _ (map (found d s r k) (place_codes d notes s r k)) (findings_from d notes s (k + 1) rs)
      ∙ rw (withheld_here d notes s r k (place_codes d notes s r k) n, ne_eqb k n (λ (e : k ≡ n). omega (arith, h, e)))
      (withheld_before n (k + 1) rs (omega (arith, h)))

  -- of a segment whose findings are fs, those from place n on
  from_shows : (fs : List Finding) (n : ℕ) (rs : List Row) → ((m : ℕ) → n ≤ m → withheld_at fs m ≡ withheld_at (findings_from d notes s n rs) m)
      → Each (Shows d s fs) (findings_from d notes s n rs)
  unfolding findings_from all any Each
  from_shows fs n [] h = go (ltb n (length s))
    where
      go : (b : Bool) → Each (Shows d s fs) (if b then surplus_at n ∷ [] else [])
      go true = (record { empty = refl; short = omega arith; clean = refl; begins = refl; whole = λ filled h. absurd (true≢false filled) }, tt)
      go false = tt
  from_shows fs n (r ∷ rs) h =
      each_append (Shows d s fs) here later
      (each_map (Shows d s fs) (found d s r n) codes (shown codes (codes_fit d notes s r n)))
      (from_shows fs (n + 1) rs (λ m k. h m (omega (arith, k)) ∙ split m ∙ rw (withheld_here d notes s r n codes m, ne_eqb n m (λ (e : n ≡ m). omega (arith, k, e)))))
    where
      codes : List ℕ
      codes = place_codes d notes s r n

      here : List Finding
      here = map (found d s r n) codes

      later : List Finding
      later = findings_from d notes s (n + 1) rs

      split : (m : ℕ) → withheld_at (here ++ later) m ≡ withheld_at here m || withheld_at later m
      split m = any_append _ here later

      withheld : withheld_at fs n ≡ is_withheld (element_code d r (field s n))
      withheld =
          h n (le_refl n)
          ∙ split n
          ∙ rw (withheld_before n (n + 1) rs (omega arith), withheld_here d notes s r n codes n, eq-eqb n n refl, withheld_own d notes s r n)
          (or_none (is_withheld (element_code d r (field s n))))

      shown : (cs : List ℕ) → Each (Fits (element_code d r (field s n)) (field s n)) cs → Each (λ c. Shows d s fs (found d s r n c)) cs
      shown [] f = tt
      shown (c ∷ cs) f = (found_shows d notes s r n fs withheld c f.0, shown cs f.1)

-- Each finding of a segment shows what its code and the codes of its place let it show of the element at its place, and nothing else. A
-- definition that cuts at 98 or 100, echoes a value with code 6 or 12, loses a minus or shows the element beside it is shut out.
pub echo_law : (d : Delimiters) (e : Entry) (s : Segment) → Each (Shows d s (findings d e s)) (findings d e s)
unfolding findings
echo_law d e s = from_shows d e.notes s (findings d e s) 1 e.rows (λ m h. refl)

-- 5. The notes of a set.
-- the findings of a note show elements of the segment at its position, where the first of the segments has the position n
pub record Points (d : Delimiters) (n : ℕ) (ss : List Segment) (note : Note) : Type 0 where
  pub index : ℕ
  pub at : note.position ≡ n + index
  pub shows : Each (Shows d (get_or ss index []) note.findings) note.findings

module _ (d : Delimiters) where
  onward : (n : ℕ) (s : Segment) (ss : List Segment) (ns : List Note) → Each (Points d (n + 1) ss) ns → Each (Points d n (s ∷ ss)) ns
  unfolding Each
  onward n s ss [] h = tt
  onward n s ss (x ∷ ns) h =
      (record { index = suc h.0.index; at = omega (arith, h.0.at); shows = h.0.shows }, onward n s ss ns h.1)

  missing_points : (n : ℕ) (ss : List Segment) (es : List Entry) → Each (Points d n ss) (missing n es)
  unfolding missing Each
  missing_points n ss es = go (keep (λ e. e.mandatory) es)
    where
      go : (es : List Entry) → Each (Points d n ss) (map (λ e. record { id = e.id; position = n; codes = 3 ∷ []; findings = [] }) es)
      go [] = tt
      go (e ∷ es) = (record { index = 0; at = omega arith; shows = tt }, go es)

  segment_points : (n c : ℕ) (id : Bytes) (s : Segment) (ss : List Segment) (fs : List Finding) → Each (Shows d s fs) fs
      → Each (Points d n (s ∷ ss)) (segment_note n c id fs)
  unfolding segment_note Each
  segment_points n c id s ss fs h = go (every ((not (eqb c 0) ⇒ c) ∷ (not (null fs) ⇒ 8) ∷ []))
    where
      go : (cs : List ℕ) → Each (Points d n (s ∷ ss)) (noted (echoed id) n cs fs)
      go [] = tt
      go (c ∷ cs) = (record { index = 0; at = omega arith; shows = h }, tt)

  by_shows : (t : Table) (st : Standing) (s : Segment) → Each (Shows d s (findings_by d t st s)) (findings_by d t st s)
  by_shows t unknown s = each_none _
  by_shows t unlisted s = each_none _
  by_shows t (before k) s = echo_law d (entry_at t k) s
  by_shows t (again k) s = echo_law d (entry_at t k) s
  by_shows t (later k) s = echo_law d (entry_at t k) s

  walk_points : (t : Table) (closed : Bool) (p : Present) (n : ℕ) (ss : List Segment) → Each (Points d n ss) (walk d t closed p n ss)
  unfolding walk
  walk_points t true p n [] = each_none _
  walk_points t false p n [] = missing_points n [] _
  walk_points t closed p n (s ∷ ss) =
      let st = standing t p (field s 0) in
      each_append (Points d n (s ∷ ss)) _ _
      (each_append (Points d n (s ∷ ss)) _ _ (missing_points n (s ∷ ss) _) (segment_points n _ _ s ss _ (by_shows t st s)))
      (onward n s ss _ (walk_points t closed (moved p st) (n + 1) ss))

  -- The findings of each note of a set show elements of the segment at the note's position, and of no other. A definition that takes the bytes
  -- from the segment before or after is shut out.
  pub notes_point : (t : Option Table) (s : Set) → Each (Points d 1 (segments_of s)) (notes_in d t s)
  unfolding notes_of
  notes_point None s = each_none _
  notes_point (Some t) s =
      each_append (Points d 1 (segments_of s)) _ _
      (segment_points 1 0 _ s.header _ _ (echo_law d (entry_at t 0) s.header))
      (onward 1 s.header _ _ (walk_points t _ _ 2 _))

-- So do the notes of set k in the report of its group.
pub report_points : (d : Delimiters) (g : Group) (k : ℕ) (x : Set) (y : SetReport) → k < length (sets g)
    → Each (Points d 1 (segments_of (get_or (sets g) k x))) (get_or (group_report d g).sets k y).notes
unfolding set_report
report_points d g k x y h = rw (report_at_lem d g k x y h) (notes_point d (table_in g.header (get_or (sets g) k x)) (get_or (sets g) k x))
