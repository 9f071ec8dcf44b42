-- Where an interchange is answered, the caller's date, each GS04, and every B103 of an accepted set that is not empty are days of the calendar. `Faces`
-- carries it to both faces.
use Rattle.std.specs.Prelude.{if◌then◌else◌, option_to_list, is_none, Some}
use mathlib.Core.Path.{◌≡◌, refl, sym, ap, ◌∙◌}
use mathlib.Core.Bool.{Bool, true, false, ◌&&◌, ◌||◌, not, true≢false}
use mathlib.Core.List.{List, [], ◌∷◌, ◌++◌, map, append-eq-nil_iff, cons-ne-nil}
use Prim.Native.Nat.{ℕ, zero, suc, ◌+◌, ◌/◌, ◌%◌, ◌<◌}
use lib.Dec.{leb, ltb, eqb}
use lib.ListN.{length, get_or}
use Rattle.rules.specs.Base.{Bytes, ascii, null, any, same, between, first, every, ◌⇒◌}
use Rattle.rules.specs.Cutting.{Segment, field, delimiters}
use Rattle.rules.specs.Numbers.{digits, value, is_day, is_date}
use Rattle.rules.specs.Tables.{Row, Syntax, Table, row, O, directory, b1_rows, table006010, table004010}
use Rattle.rules.specs.Elements.{repeats, spelled, element_code, lacks, shuts_out, place_codes, Finding, found, findings_from, findings}
use Rattle.rules.specs.Segments.{Present, before, again, later, compared, entry_at, index_from, standing, own_code, moved, skipped, findings_by, missing, echoed, noted, segment_note, walk, notes_of}
use Rattle.rules.specs.Sets.{Set, SetReport}
use Rattle.rules.specs.Groups.{Group, sets, group_report}
use Rattle.rules.specs.Refusals.{good_call, group_rules, refusal}
use Rattle.rules.specs.Response.{segment_out, ak5}
use Rattle.rules.specs.Damage.{groups_in}
use Rattle.rules.specs.declared.Call.{Call}
use Rattle.rules.specs.declared.Delimiters.{Delimiters}
use Rattle.rules.specs.declared.Kind.TheVariants.{DT}
use Rattle.rules.proofs.Logic.{and_left, and_right, each_at}
use Rattle.rules.proofs.Envelope.{clear}
use Rattle.rules.proofs.Accepting.{Chooses, six, four, Sound, accepting, none_given}
use Rattle.rules.proofs.Placed.{says_exactly}
use Rattle.rules.proofs.Calendar.{InCalendar, in_calendar}
use Rattle.promises.proofs.Trailing.{header_parts}

-- eight digits that are a day of the calendar
pub record Date (bs : Bytes) : Type 0 where
  pub eight : digits 8 8 bs ≡ true
  pub day : InCalendar (value bs)

date : (bs : Bytes) → is_date bs ≡ true → Date bs
unfolding is_date
date bs e = record {
  eight = and_left (digits 8 8 bs) (is_day (value bs)) e;
  day = in_calendar (value bs) (and_right (digits 8 8 bs) (is_day (value bs)) e);
}

-- 1. An element of type DT that is not empty and has no code is a date.
dt : Row
dt = row 373 O DT 8 8 []

-- a code of a value that is not empty
abbrev is_code : ℕ → Bool
is_code c = between 4 9 c || eqb c 12

coded : (repeated spelled short long date : Bool)
    → is_code (first ((repeated ⇒ 12) ∷ (not spelled ⇒ 6) ∷ (short ⇒ 4) ∷ (long ⇒ 5) ∷ (false ⇒ 7) ∷ (not date ⇒ 8) ∷ (false ⇒ 9) ∷ [])) ≡ false → date ≡ true
unfolding first
coded repeated spelled short long true e = refl
coded true spelled short long false e = absurd (true≢false e)
coded false false short long false e = absurd (true≢false e)
coded false true true long false e = absurd (true≢false e)
coded false true false true false e = absurd (true≢false e)
coded false true false false false e = absurd (true≢false e)

uncoded : (d : Delimiters) (bs : Bytes) → null bs ≡ false → is_code (element_code d dt bs) ≡ false → is_date bs ≡ true
unfolding element_code dt
uncoded d bs f e = coded (repeats d bs) (spelled d DT bs) (ltb (length bs) 8) (ltb 8 (length bs)) (is_date bs) (rw f at e)

map_nil : {A B : Type 0} (f : A → B) (xs : List A) → map f xs ≡ [] → xs ≡ []
map_nil f [] e = refl
map_nil f (x ∷ xs) e = absurd (cons-ne-nil (f x) (map f xs) e)

row_clear : (d : Delimiters) (notes : List Syntax) (s : Segment) (n : ℕ) (r : Row) (rs : List Row) → findings_from d notes s n (r ∷ rs) ≡ []
    → (is_code (element_code d r (field s n)) ≡ false) × (findings_from d notes s (n + 1) rs ≡ [])
unfolding findings_from place_codes
row_clear d notes s n r rs e =
    let own = element_code d r (field s n) in
    let rules = (eqb own 1 ⇒ 1) ∷ (lacks notes s n ⇒ 2) ∷ (between 4 9 own ⇒ own) ∷ (shuts_out notes s n ⇒ 10) ∷ (eqb own 12 ⇒ 12) ∷ [] in
    let parts = (append-eq-nil_iff {p = map (found d s r n) (every rules)} {q = findings_from d notes s (n + 1) rs}).0 e in
    let absent = (none_given rules).0 (ap null (map_nil (found d s r n) (every rules) parts.0)) in
    (rw absent.1.1.0 absent.1.1.1.1.0, parts.1)

-- 2. A B1 without findings has a date in B103, or nothing.
b1_dated : (d : Delimiters) (s : Segment) → null (field s 3) ≡ false → findings_from d [] s 1 b1_rows ≡ [] → is_date (field s 3) ≡ true
unfolding b1_rows dt
b1_dated d s f e =
    let after_b101 = (row_clear d [] s 1 _ _ e).1 in
    let after_b102 = (row_clear d [] s 2 _ _ after_b101).1 in
    uncoded d (field s 3) f (row_clear d [] s 3 _ _ after_b102).0

-- 3. In both tables the entry of B1 is the second, wherever a set has come to.
by_second : (d : Delimiters) (t : Table) (p : Present) (s : Segment) → findings_by d t (compared p.index (Some 1)) s ≡ findings d (entry_at t 1) s
by_second d t p s = go (ltb 1 p.index) (eqb 1 p.index)
  where
    go : (b c : Bool) → findings_by d t (if b then before 1 else (if c then again 1 else later 1)) s ≡ findings d (entry_at t 1) s
    go true c = refl
    go false true = refl
    go false false = refl

b1_found : {e : Bytes} {t : Table} → Chooses e t → (d : Delimiters) (p : Present) (s : Segment) → field s 0 ≡ ascii "B1"
    → findings_by d t (standing t p (field s 0)) s ≡ findings_from d [] s 1 b1_rows
unfolding standing index_from any same findings directory table006010 table004010
b1_found six d p s e = rw e (by_second d table006010 p s)
b1_found four d p s e = rw e (by_second d table004010 p s)

-- 4. A set without notes: none of its segments has a finding.
unnoted : (n c : ℕ) (id : Bytes) (fs : List Finding) → segment_note n c id fs ≡ [] → fs ≡ []
unfolding segment_note every
unnoted n c id [] e = refl
unnoted n c id (f ∷ fs) e = absurd (go (eqb c 0) e)
  where
    go : (b : Bool) → noted (echoed id) n (every ((not b ⇒ c) ∷ (true ⇒ 8) ∷ [])) (f ∷ fs) ≡ [] → ⊥
    go true e = cons-ne-nil _ _ e
    go false e = cons-ne-nil _ _ e

step_clear : (d : Delimiters) (t : Table) (closed : Bool) (p : Present) (n : ℕ) (s : Segment) (ss : List Segment) → walk d t closed p n (s ∷ ss) ≡ []
    → (findings_by d t (standing t p (field s 0)) s ≡ []) × (walk d t closed (moved p (standing t p (field s 0))) (n + 1) ss ≡ [])
unfolding walk
step_clear d t closed p n s ss e =
    let st = standing t p (field s 0) in
    let passed = missing n (skipped t p st) in
    let own = segment_note n (own_code t p st) (field s 0) (findings_by d t st s) in
    let parts = (append-eq-nil_iff {p = passed ++ own} {q = walk d t closed (moved p st) (n + 1) ss}).0 e in
    (unnoted n (own_code t p st) (field s 0) (findings_by d t st s) ((append-eq-nil_iff {p = passed} {q = own}).0 parts.0).1, parts.1)

module _ {e : Bytes} {t : Table} (k : Chooses e t) (d : Delimiters) (closed : Bool) where
  walk_dated : (p : Present) (n : ℕ) (ss more : List Segment) → walk d t closed p n (ss ++ more) ≡ []
      → (j : ℕ) → field (get_or ss j []) 0 ≡ ascii "B1" → null (field (get_or ss j []) 3) ≡ false → is_date (field (get_or ss j []) 3) ≡ true
  walk_dated p n [] more e j b f = absurd (true≢false f)
  walk_dated p n (s ∷ ss) more e zero b f =
      b1_dated d s f (sym (b1_found k d p s b) ∙ (step_clear d t closed p n s (ss ++ more) e).0)
  walk_dated p n (s ∷ ss) more e (suc j) b f =
      walk_dated (moved p (standing t p (field s 0))) (n + 1) ss more (step_clear d t closed p n s (ss ++ more) e).1 j b f

sound_dated : (d : Delimiters) (gs : Segment) (earlier : List Set) (s : Set) → Sound d gs earlier s
    → (j : ℕ) → field (get_or s.body j []) 0 ≡ ascii "B1" → null (field (get_or s.body j []) 3) ≡ false
    → is_date (field (get_or s.body j []) 3) ≡ true
unfolding notes_of
sound_dated d gs earlier s k j b f =
    let header = segment_note 1 0 (field s.header 0) (findings d (entry_at k.table 0) s.header) in
    let closed = not (is_none s.trailer) in
    let start : Present = record { index = 0; used = 1 } in
    let more = option_to_list s.trailer in
    let rest = ((append-eq-nil_iff {p = header} {q = walk d k.table closed start 2 (s.body ++ more)}).0 k.unnoted).1 in
    walk_dated k.known.gs08 d closed start 2 s.body more rest j b f

-- 5. The caller's date.
call_dated : (call : Call) → good_call call ≡ true → InCalendar call.date
unfolding good_call
call_dated call e =
    let low = leb call.date 99991231 in
    let day = is_day call.date in
    let time = leb (call.time / 100) 23 && leb (call.time % 100) 59 in
    let control = between 1 999999999 call.control in
    in_calendar call.date (and_right low day (and_left (low && day) time (and_left (low && day && time) control e)))

-- 6. What holds of the dates where an interchange is answered.
-- segment j of what stands between header and trailer of set k of a group
abbrev pub segment_at : Group → ℕ → Set → ℕ → Segment
segment_at g k x j = get_or (get_or (sets g) k x).body j []

-- what holds of the dates of a group
pub record DatedGroup (d : Delimiters) (g : Group) : Type 0 where
  -- GS04 is a day of the calendar
  pub gs04 : Date (field g.header 4)
  -- and so is B103, where it is not empty, of every B1 of a set whose AK5 says A
  pub b103 : (k : ℕ) (x : Set) (y : SetReport) → k < length (sets g) → segment_out d (ak5 (get_or (group_report d g).sets k y)) ≡ accepting d
      → (j : ℕ) → field (segment_at g k x j) 0 ≡ ascii "B1" → null (field (segment_at g k x j) 3) ≡ false → Date (field (segment_at g k x j) 3)

pub record Dated (i : Bytes) (call : Call) : Type 0 where
  -- the caller's date is a day of the calendar
  pub caller : InCalendar call.date
  -- and so are the dates of each group
  pub groups : (m : ℕ) (w : Group) → m < length (groups_in i) → DatedGroup (delimiters i) (get_or (groups_in i) m w)

group_dated : (d : Delimiters) (g : Group) → first (group_rules d g) ≡ 0 → DatedGroup d g
group_dated d g e = record {
  gs04 = date (field g.header 4) (header_parts d g e).0;
  b103 = λ k x y h a j b f. date (field (segment_at g k x j) 3) (sound_dated d g.header _ _ ((says_exactly d g k x y h).0 a) j b f);
}

-- Shut out: a program that takes 20230230 in one of the three places, or looks at the dates of the first group only.
pub answered_dated : (i : Bytes) (call : Call) → refusal i call ≡ 0 → Dated i call
answered_dated i call e =
    let c = clear i call e in
    record {
      caller = call_dated call c.passed.numbers;
      groups = λ m w h.
          group_dated (delimiters i) (get_or (groups_in i) m w) (each_at (λ (g : Group). first (group_rules (delimiters i) g) ≡ 0) (groups_in i) m w c.groups h);
    }
