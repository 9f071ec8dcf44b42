-- Demand 2, the sets: one is accepted exactly when none of document 01's six tests applies to it, each test in words of its segments.
use mathlib.Core.Path.{◌≡◌, refl, sym, ap, ◌∙◌}
use mathlib.Core.Logic.{◌⊎◌, inl, inr, ◌↔◌}
use mathlib.Core.Bool.{Bool, true, false, ◌||◌, false≢true, true≢false}
use mathlib.Core.List.{List, [], ◌∷◌, ◌++◌}
use Rattle.std.specs.Prelude.{Option, None, Some, is_none}
use Prim.Native.Nat.{ℕ, zero, suc, ◌+◌, ◌≤◌, ◌<◌}
use native.Mathlib.Omega.{arith}
use native.Mathlib.Nat.{not-suc-le-zero, le_of_suc-le-suc}
use borrow.Author.Tests.{not-false, eqb-true, eq-eqb}
use lib.ListN.{length, take, get_or}
use Rattle.rules.specs.Base.{Bytes, Rule, ◌⇒◌, every, ascii, same, any, member, null, keep}
use Rattle.rules.specs.Cutting.{Segment, field}
use Rattle.rules.specs.Numbers.{digits, value, count_in, declares, decimal}
use Rattle.rules.specs.Tables.{Table, table006010, table004010, edition_table, set_table}
use Rattle.rules.specs.Sets.{Set, is_st, sets_of, control_of, notes_in, set_codes, SetReport, set_report, accepted}
use Rattle.rules.specs.Groups.{Group, supported, edition, sets, table_in, set_reports, group_report}
use Rattle.rules.specs.Response.{fields_out, segment_out, ak5, ak9}
use Rattle.rules.specs.declared.Delimiters.{Delimiters}
use Rattle.rules.proofs.Logic.{or_left, or_right, or_none, same→eq, Silent}
use Rattle.rules.proofs.Lengths.{every_short}

-- 1. Rules: no number is given exactly when no rule applies.
pub none_given : (rs : List Rule) → null (every rs) ≡ true ↔ Silent rs
unfolding every
none_given rs = (there rs, back rs)
  where
    there : (rs : List Rule) → null (every rs) ≡ true → Silent rs
    there [] e = tt
    there ((true ⇒ n) ∷ rs) e = absurd (false≢true e)
    there ((false ⇒ n) ∷ rs) e = (refl, there rs e)

    back : (rs : List Rule) → Silent rs → null (every rs) ≡ true
    back [] s = refl
    back ((true ⇒ n) ∷ rs) s = absurd (true≢false s.0)
    back ((false ⇒ n) ∷ rs) s = back rs s.1

pub same_refl : (a : Bytes) → same a a ≡ true
unfolding same
same_refl [] = refl
same_refl (x ∷ a) = rw (eq-eqb x x refl, same_refl a)

same_not : (a b : Bytes) → (a ≡ b → ⊥) → same a b ≡ false
same_not a b h = go (same a b) refl
  where
    go : (c : Bool) → same a b ≡ c → same a b ≡ false
    go true e = absurd (h (same→eq a b e))
    go false e = e

-- 2. Code 1: what the group and ST01 must be, and which table they choose.
-- the first six bytes of GS08, and their table
pub data Chooses : Bytes → Table → Type 0 where
  six : Chooses (ascii "006010") table006010
  four : Chooses (ascii "004010") table004010

-- the group and the set are supported, and have this table
pub record Supported (gs : Segment) (s : Set) (t : Table) : Type 0 where
  pub gs01 : (field gs 1 ≡ ascii "GF") ⊎ (field gs 1 ≡ ascii "SM")
  pub gs08 : Chooses (take 6 (field gs 8)) t
  pub st01 : field s.header 1 ≡ ascii "990"

chooses : {e : Bytes} {t : Table} → Chooses e t → edition_table e ≡ Some t
unfolding edition_table same
chooses six = refl
chooses four = refl

two_names : (a : Bytes) → (a ≡ ascii "GF") ⊎ (a ≡ ascii "SM") → member a (ascii "GF" ∷ ascii "SM" ∷ []) ≡ true
unfolding any same
two_names a (inl e) = rw e
two_names a (inr e) = rw e

one_of_two : (a : Bytes) → member a (ascii "GF" ∷ ascii "SM" ∷ []) ≡ true → (a ≡ ascii "GF") ⊎ (a ≡ ascii "SM")
unfolding any
one_of_two a e = go (same a (ascii "GF")) (same a (ascii "SM")) refl refl
  where
    go : (b c : Bool) → same a (ascii "GF") ≡ b → same a (ascii "SM") ≡ c → (a ≡ ascii "GF") ⊎ (a ≡ ascii "SM")
    go true c p q = inl (same→eq a (ascii "GF") p)
    go false true p q = inr (same→eq a (ascii "SM") q)
    go false false p q = absurd (false≢true (rw (p, q) at e))

-- what holds of a table where there is one
abbrev With : (Table → Type 0) → Option Table → Type 0
With P None = ⊥
With P (Some t) = P t

edition_chooses : (e : Bytes) → is_none (edition_table e) ≡ false → With (Chooses e) (edition_table e)
unfolding edition_table
edition_chooses e h = go (same e (ascii "006010")) (same e (ascii "004010")) refl refl
  where
    go : (b c : Bool) → same e (ascii "006010") ≡ b → same e (ascii "004010") ≡ c → With (Chooses e) (edition_table e)
    go true c p q = rw (p, same→eq e (ascii "006010") p) six
    go false true p q = rw (p, q, same→eq e (ascii "004010") q) four
    go false false p q = absurd (true≢false (rw (p, q) at h))

table_supported : (gs : Segment) (s : Set) → is_none (table_in gs s) ≡ false → With (Supported gs s) (table_in gs s)
unfolding table_in set_table
table_supported gs s h = go (supported gs) (same (field s.header 1) (ascii "990")) refl refl
  where
    go : (b c : Bool) → supported gs ≡ b → same (field s.header 1) (ascii "990") ≡ c → With (Supported gs s) (table_in gs s)
    go true true p q =
        rw (p, q) (
        carry (edition_table (edition gs)) (edition_chooses (edition gs) (rw (p, q) at h)))
      where
        carry : (o : Option Table) → With (Chooses (edition gs)) o → With (Supported gs s) o
        carry None w = w
        carry (Some t) w = record { gs01 = one_of_two (field gs 1) p; gs08 = w; st01 = same→eq (field s.header 1) (ascii "990") q }
    go true false p q = absurd (true≢false (rw (p, q) at h))
    go false c p q = absurd (true≢false (rw p at h))

-- A program that has no table for a set that is supported, or the other edition's, is shut out.
pub supported_table : (gs : Segment) (s : Set) (t : Table) → Supported gs s t → table_in gs s ≡ Some t
unfolding table_in set_table same
supported_table gs s t k = rw (two_names (field gs 1) k.gs01, k.st01, chooses k.gs08)

-- 3. Codes 2 to 23, of a set with a table and a trailer.
declares_value : (hi : ℕ) (bs : Bytes) (n : ℕ) → declares hi bs n ≡ true ↔ ((digits 1 hi bs ≡ true) × (value bs ≡ n))
unfolding count_in
declares_value hi bs n = (λ e. go (digits 1 hi bs) refl e, λ p. rw p.0 (eq-eqb n (value bs) (sym p.1)))
  where
    go : (b : Bool) → digits 1 hi bs ≡ b → declares hi bs n ≡ true → (digits 1 hi bs ≡ true) × (value bs ≡ n)
    go true p e = (p, sym (eqb-true n (value bs) (rw p at e)))
    go false p e = absurd (false≢true (rw p at e))

null_nil : {A : Type 0} (xs : List A) → null xs ≡ true → xs ≡ []
null_nil [] e = refl
null_nil (x ∷ xs) e = absurd (false≢true e)

abbrev set_as : Segment → List Segment → Option Segment → Set
set_as h b tr = record { header = h; body = b; trailer = tr }

-- what is left of the six tests where there is a table and a trailer
abbrev Passed : Delimiters → Option Table → List Bytes → Segment → List Segment → Option Segment → Type 0
Passed d None es h b tr = ⊥
Passed d (Some t) es h b None = ⊥
Passed d (Some t) es h b (Some se) =
    (field se 2 ≡ field h 2)
    × (declares 10 (field se 1) (length (h ∷ (b ++ se ∷ []))) ≡ true)
    × (notes_in d (Some t) (set_as h b (Some se)) ≡ [])
    × (member (field h 2) es ≡ false)

passed : (d : Delimiters) (t : Option Table) (es : List Bytes) (h : Segment) (b : List Segment) (tr : Option Segment)
    → accepted (set_report d t es (set_as h b tr)) ≡ true → Passed d t es h b tr
unfolding set_report set_codes
passed d None es h b tr e = absurd (true≢false ((none_given _).0 e).0)
passed d (Some t) es h b None e = absurd (true≢false ((none_given _).0 e).1.0)
passed d (Some t) es h b (Some se) e =
    let s = (none_given _).0 e in (
      same→eq (field se 2) (field h 2) (not-false _ s.1.1.0),
      not-false _ s.1.1.1.0,
      null_nil _ (not-false _ s.1.1.1.1.0),
      s.1.1.1.1.1.0,
    )

passes : (d : Delimiters) (t : Option Table) (es : List Bytes) (h : Segment) (b : List Segment) (tr : Option Segment)
    → Passed d t es h b tr → accepted (set_report d t es (set_as h b tr)) ≡ true
unfolding set_report set_codes every
passes d None es h b tr p = absurd p
passes d (Some t) es h b None p = absurd p
passes d (Some t) es h b (Some se) p = rw (p.0, same_refl (field h 2), p.1, p.2, p.3)

-- 4. What document 01 asks of a set, each of its six tests the other way round; earlier are the sets of the group before it.
pub record Sound (d : Delimiters) (gs : Segment) (earlier : List Set) (s : Set) : Type 0 where
  -- 1: ST01 and the group are supported, and choose a table
  pub table : Table
  pub known : Supported gs s table
  -- 2: the trailer is there
  pub se : Segment
  pub closed : s.trailer ≡ Some se
  -- 3: SE02 is ST02
  pub se02 : field se 2 ≡ field s.header 2
  -- 4: SE01 is 1 to 10 digits, and their value is the number of segments from ST to SE
  pub se01 : digits 1 10 (field se 1) ≡ true
  pub counted : value (field se 1) ≡ length (s.header ∷ (s.body ++ se ∷ []))
  -- 5: there is no AK3 from ST to SE
  pub unnoted : notes_in d (Some table) s ≡ []
  -- 23: no earlier set has its ST02
  pub unique : (j : ℕ) → j < length earlier → field (get_or earlier j s).header 2 ≡ field s.header 2 → ⊥

-- no set of a list has this ST02
abbrev Unique : List Set → Set → Type 0
Unique earlier s = (j : ℕ) → j < length earlier → field (get_or earlier j s).header 2 ≡ field s.header 2 → ⊥

-- a set has the ST02 of the set s
abbrev shares : Set → Set → Bool
shares s e = same (control_of s) (control_of e)

unique_there : (s : Set) (es : List Set) → any (shares s) es ≡ false → Unique es s
unfolding any
unique_there s [] e j h p = not-suc-le-zero h
unique_there s (x ∷ es) e zero h p =
    true≢false (sym (same_refl (control_of s)) ∙ ap (same (control_of s)) (sym p) ∙ or_left (shares s x) (any (shares s) es) e)
unique_there s (x ∷ es) e (suc j) h p = unique_there s es (or_right (shares s x) (any (shares s) es) e) j (le_of_suc-le-suc h) p

unique_back : (s : Set) (es : List Set) → Unique es s → any (shares s) es ≡ false
unfolding any
unique_back s [] u = refl
unique_back s (x ∷ es) u =
    rw (same_not (control_of s) (control_of x) (λ p. u zero (omega arith) (sym p)))
    (unique_back s es (λ j k. u (suc j) (omega (arith, k))))

module _ (d : Delimiters) (gs : Segment) (earlier : List Set) (controls : List Bytes) (s : Set)
    (m : member (control_of s) controls ≡ any (shares s) earlier) where
  accepted_sound : accepted (set_report d (table_in gs s) controls s) ≡ true → Sound d gs earlier s
  accepted_sound e = go (table_in gs s) refl s.trailer refl (passed d (table_in gs s) controls s.header s.body s.trailer e)
    where
      go : (t : Option Table) → table_in gs s ≡ t → (tr : Option Segment) → s.trailer ≡ tr
          → Passed d t controls s.header s.body tr → Sound d gs earlier s
      go None p tr q h = absurd h
      go (Some t) p None q h = absurd h
      go (Some t) p (Some se) q h =
          let n = (declares_value 10 (field se 1) (length (s.header ∷ (s.body ++ se ∷ [])))).0 h.1 in
          record {
            table = t;
            known = rw p at (table_supported gs s (rw p));
            se = se;
            closed = q;
            se02 = h.0;
            se01 = n.0;
            counted = n.1;
            unnoted = ap (λ (tr : Option Segment). notes_in d (Some t) (set_as s.header s.body tr)) q ∙ h.2;
            unique = unique_there s earlier (sym m ∙ h.3);
          }

  sound_accepted : Sound d gs earlier s → accepted (set_report d (table_in gs s) controls s) ≡ true
  sound_accepted h =
      rw (supported_table gs s h.table h.known)
      (go s.trailer h.closed)
    where
      go : (tr : Option Segment) → tr ≡ Some h.se → accepted (set_report d (Some h.table) controls (set_as s.header s.body tr)) ≡ true
      go tr q =
          rw q
          (passes d (Some h.table) controls s.header s.body (Some h.se) (
            h.se02,
            (declares_value 10 (field h.se 1) (length (s.header ∷ (s.body ++ h.se ∷ [])))).1 (h.se01, h.counted),
            ap (λ (tr : Option Segment). notes_in d (Some h.table) (set_as s.header s.body tr)) (sym h.closed) ∙ h.unnoted,
            m ∙ unique_back s earlier h.unique,
          ))

-- 5. Report k is that of set k, in order, after the ST02 of the sets before it.
-- the ST02 of the sets before k and then others, the last set first
abbrev pub before : List Bytes → ℕ → List Set → List Bytes
before controls k [] = controls
before controls zero (s ∷ ss) = controls
before controls (suc k) (s ∷ ss) = before (control_of s ∷ controls) k ss

reports_in_order : (d : Delimiters) (table : Set → Option Table) (controls : List Bytes) (ss : List Set) (k : ℕ) (x : Set) (y : SetReport) → k < length ss
    → get_or (set_reports d table controls ss) k y ≡ set_report d (table (get_or ss k x)) (before controls k ss) (get_or ss k x)
unfolding set_reports
reports_in_order d table controls [] k x y h = absurd (not-suc-le-zero h)
reports_in_order d table controls (s ∷ ss) zero x y h = refl
reports_in_order d table controls (s ∷ ss) (suc k) x y h = reports_in_order d table (control_of s ∷ controls) ss k x y (le_of_suc-le-suc h)

-- it is one of them exactly when one of the sets before has it
before_member : (c : Bytes) (controls : List Bytes) (ss : List Set) (k : ℕ)
    → member c (before controls k ss) ≡ any (λ e. same c (control_of e)) (take k ss) || member c controls
unfolding any
before_member c controls [] zero = refl
before_member c controls [] (suc k) = refl
before_member c controls (s ∷ ss) zero = refl
before_member c controls (s ∷ ss) (suc k) =
    before_member c (control_of s ∷ controls) ss k
    ∙ swap (same c (control_of s)) (any (λ e. same c (control_of e)) (take k ss)) (member c controls)
  where
    swap : (a b r : Bool) → b || (a || r) ≡ (a || b) || r
    swap true true r = refl
    swap true false r = refl
    swap false b r = refl

-- Set k of a group, and what is reported of it.
module _ (d : Delimiters) (g : Group) (k : ℕ) (x : Set) (y : SetReport) (h : k < length (sets g)) where
  abbrev pub set_at : Set
  set_at = get_or (sets g) k x

  -- Report k is that of set k. A program that copies a verdict onward, or leaves a set out, is shut out.
  pub report_at_lem : get_or (group_report d g).sets k y ≡ set_report d (table_in g.header set_at) (before [] k (sets g)) set_at
  unfolding group_report
  report_at_lem = reports_in_order d (table_in g.header) [] (sets g) k x y h

  others : member (control_of set_at) (before [] k (sets g)) ≡ any (shares set_at) (take k (sets g))
  unfolding any
  others = before_member (control_of set_at) [] (sets g) k ∙ or_none (any (shares set_at) (take k (sets g)))

  -- It is accepted exactly when it is sound after the sets before it. A program that leaves out one of the six tests, or makes it of other
  -- segments, of another set's ST02 or by another set's report, is shut out.
  pub accepted_exactly : accepted (get_or (group_report d g).sets k y) ≡ true ↔ Sound d g.header (take k (sets g)) set_at
  accepted_exactly = (
    λ e. accepted_sound d g.header (take k (sets g)) (before [] k (sets g)) set_at others (ap (λ (r : SetReport). accepted r) (sym report_at_lem) ∙ e),
    λ e. ap (λ (r : SetReport). accepted r) report_at_lem ∙ sound_accepted d g.header (take k (sets g)) (before [] k (sets g)) set_at others e,
  )

-- 6. The bytes of AK5.
-- the AK5 of a set that is accepted
abbrev pub accepting : Delimiters → Bytes
accepting d = ascii "AK5" ++ d.element ∷ (ascii "A" ++ d.terminator ∷ [])

-- The bytes of its AK5 say A exactly when a set is accepted. A program that writes A and codes, or R and none, is shut out.
pub says_a : (d : Delimiters) (r : SetReport) → segment_out d (ak5 r) ≡ accepting d ↔ accepted r ≡ true
unfolding ak5 fields_out
says_a d r = (λ e. go (accepted r) refl e, λ e. rw (null_nil r.codes e))
  where
    go : (b : Bool) → accepted r ≡ b → segment_out d (ak5 r) ≡ accepting d → accepted r ≡ true
    go true p e = p
    go false p e = let f : ◌≡◌ {A = ℕ} 82 65 = ap (λ (bs : Bytes). get_or bs 4 0) (rw p at e) in absurd (omega (arith, f))

-- 7. The number of codes.
-- a test as a number: 1 where it applies
abbrev weight : Bool → ℕ
weight true = 1
weight false = 0

light : (b : Bool) → weight b ≤ 1
light true = omega arith
light false = omega arith

rule_counts : (b : Bool) (n : ℕ) (rs : List Rule) → length (every ((b ⇒ n) ∷ rs)) ≤ weight b + length (every rs)
unfolding every
rule_counts true n rs = omega arith
rule_counts false n rs = omega arith

-- one of two tests is false
apart : (b c : Bool) → (b ≡ false) ⊎ (c ≡ false) → weight b + weight c ≤ 1
apart b c (inl e) = rw e (omega (arith, light c))
apart b c (inr e) = rw e (omega (arith, light b))

-- Of six rules at most four apply, where the first shuts out the fifth, and the second the third and the fourth.
module _ (one two three four five last : Bool) (n₁ n₂ n₃ n₄ n₅ n₆ : ℕ) where
  four_of_six : (one ≡ false) ⊎ (five ≡ false) → (two ≡ false) ⊎ (three ≡ false) → (two ≡ false) ⊎ (four ≡ false)
      → length (every ((one ⇒ n₁) ∷ (two ⇒ n₂) ∷ (three ⇒ n₃) ∷ (four ⇒ n₄) ∷ (five ⇒ n₅) ∷ (last ⇒ n₆) ∷ [])) ≤ 4
  four_of_six p q r =
      let rest₅ = (last ⇒ n₆) ∷ [] in
      let rest₄ = (five ⇒ n₅) ∷ rest₅ in
      let rest₃ = (four ⇒ n₄) ∷ rest₄ in
      let rest₂ = (three ⇒ n₃) ∷ rest₃ in
      omega (
        arith,
        rule_counts one n₁ ((two ⇒ n₂) ∷ rest₂),
        rule_counts two n₂ rest₂,
        rule_counts three n₃ rest₃,
        rule_counts four n₄ rest₄,
        rule_counts five n₅ rest₅,
        every_short rest₅,
        light three,
        light four,
        apart one five p,
        apart two three q,
        apart two four r,
      )

-- A set has never more than four codes. A program that gives codes 3 and 4 without a trailer, or 5 without a table, is shut out.
pub four_codes : (d : Delimiters) (t : Option Table) (controls : List Bytes) (s : Set) → length (set_report d t controls s).codes ≤ 4
unfolding set_report set_codes
four_codes d t controls s = go t s.trailer refl
  where
    go : (t : Option Table) (tr : Option Segment) → s.trailer ≡ tr → length (set_report d t controls s).codes ≤ 4
    go None None q = rw q (four_of_six _ _ _ _ _ _ _ _ _ _ _ _ (inr refl) (inr refl) (inr refl))
    go None (Some se) q = rw q (four_of_six _ _ _ _ _ _ _ _ _ _ _ _ (inr refl) (inl refl) (inl refl))
    go (Some t) None q = rw q (four_of_six _ _ _ _ _ _ _ _ _ _ _ _ (inl refl) (inr refl) (inr refl))
    go (Some t) (Some se) q = rw q (four_of_six _ _ _ _ _ _ _ _ _ _ _ _ (inl refl) (inl refl) (inl refl))

-- 8. The number of sets.
sets_counted : (ss : List Segment) → length (sets_of ss) ≡ length (keep is_st ss)
unfolding sets_of keep
sets_counted [] = refl
sets_counted (s ∷ ss) = go (is_st s) refl (sets_counted ss)
  where
    go : (b : Bool) → is_st s ≡ b → length (sets_of ss) ≡ length (keep is_st ss) → length (sets_of (s ∷ ss)) ≡ length (keep is_st (s ∷ ss))
    go true p e = rw p (ap suc e)
    go false p e = rw p e

-- AK903 is the number of ST segments of the group. A program that takes it from GE01, or counts the sets that have a trailer, is shut out.
pub received_headers : (d : Delimiters) (g : Group) → field (ak9 (group_report d g)) 3 ≡ decimal (length (keep is_st g.body))
unfolding ak9 group_report
received_headers d g = ap decimal (sets_counted g.body)
