-- The first number that is not 0, stage by stage, and what the checks answer.
use Rattle.std.specs.Prelude.{if◌then◌else◌, Option, None, Some, is_some, Result, Ok, Err}
use Rattle.std.specs.Result.{result_and, result_map_both}
use mathlib.Core.Path.{◌≡◌, refl, sym, ap, ◌∙◌}
use mathlib.Core.Bool.{Bool, true, false, not}
use mathlib.Core.List.{List, [], ◌∷◌, ◌++◌}
use Prim.Native.Nat.{ℕ, ◌+◌, ◌<◌, ◌≤◌}
use native.Mathlib.Omega.{arith}
use borrow.Author.Tests.{eqb-true, ltb-true, ltb-false, ne_eqb}
use lib.Dec.{T, ltb, eqb}
use lib.ListN.{length}
use Rattle.rules.specs.Base.{Bytes, Rule, ◌⇒◌, first, last}
use Rattle.rules.specs.Cutting.{Segment, field, isa, delimiters, segments, split}
use Rattle.rules.specs.Groups.{Group, groups_of}
use Rattle.rules.specs.Refusals.{good_call, call_rules, head_rules, is_terminated, end_rules, enveloped, most_groups, envelope_rules, has_two, closes, counts_groups, trailer_rules, good_gs, header_rules, answer_rules, set_rules, group_rules, groups_rules, refusal_rules, refusal}
use Rattle.rules.specs.declared.Call.{Call}
use Rattle.rules.specs.declared.Delimiters.{Delimiters}
use Rattle.rules.proofs.Logic.{or_else, numbered, first_append}
use Rattle.rules.proofs.Facts.{first_of, group_blocks}
use Rattle.rules.specs.Refused.{refused, unless}
use Rattle.rules.specs.declared.Refusal.{Refusal}
use Rattle.rules.proofs.Refused.{unless_ok, unless_err}
use Rattle.isa.specs.Delimited.{isa_of}
use Rattle.text.specs.Text.{part}
use Rattle.envelope.specs.Places.{end_of, start_after, body_end, group_ending, group_starting, group_at, next_group, envelope_of}
use Rattle.envelope.specs.Faults as trailer
use Rattle.envelope.specs.declared.GroupAt.{GroupAt}
use Rattle.envelope.specs.declared.Envelope.{Envelope}
use Rattle.envelope.specs.declared.TrailerFault.{TrailerFault}
use Rattle.envelope.specs.declared.TrailerFault.TheVariants as trailers
use Rattle.envelope.proofs.Places.{part_past}
use Rattle.envelope.proofs.Laws.{EnvelopeIs, found_starts, whole_is, broken_is}
use Rattle.sets.specs.Places.{body_from, sets_checked}
use Rattle.refusals.specs.Checks.{head_checked, fault_refusal, check_by, sound_but, placed_but, trailer_check, envelope_check, group_check}
use Rattle.refusals.specs.declared.EnvelopeFault.{EnvelopeFault}
use Rattle.refusals.specs.declared.EnvelopeFault.TheVariants.{NotTerminated, OutOfPlace, NotTwoElements, OtherControl, OtherCount}

-- 1. The first that is not 0.
-- this stage has a refusal
here : {n m : ℕ} (ns : List ℕ) → n ≡ m → (n ≡ 0 → ⊥) → n ≡ first_of (m ∷ ns)
unfolding first_of
here {n} {m} ns e h = rw (← e, ne_eqb n 0 h)

-- this stage has none, and those after it decide
onward : {n m k : ℕ} (ns : List ℕ) → m ≡ k → m ≡ 0 → n ≡ first_of ns → n ≡ first_of (k ∷ ns)
unfolding first_of
onward {n} {m} {k} ns e z r = rw (← e, z) r

-- the last stage decides alone
only : {n m : ℕ} → n ≡ m → n ≡ first_of (m ∷ [])
unfolding first_of
only {n} {m} e = e ∙ go (eqb m 0) refl
  where
    go : (b : Bool) → eqb m 0 ≡ b → m ≡ first_of (m ∷ [])
    go true p = rw p (eqb-true m 0 p)
    go false p = rw p

-- a block of rules, and those after it
block : (rs ss : List Rule) (ns : List ℕ) {n : ℕ} → T (numbered rs) → n ≡ first rs → first ss ≡ first_of ns → first (rs ++ ss) ≡ first_of (n ∷ ns)
unfolding first_of
block rs ss ns t p q = first_append rs ss t ∙ rw (p, q)

-- what a stage alone answers
abbrev checked : ℕ → Result (Unit {0}) Refusal
checked n = unless n tt

-- one stage, and those after it
unless_and : {A : Type 0} (n m : ℕ) (x : A) → unless (or_else n (eqb n 0) m) x ≡ result_and (checked n) (unless m x)
unfolding unless
unless_and n m x = go (eqb n 0) refl
  where
    go : (b : Bool) → eqb n 0 ≡ b → unless (or_else n b m) x ≡ result_and (checked n) (unless m x)
    go true p = rw p
    go false p = rw p

unless_three : {A : Type 0} (n m k : ℕ) (x : A) → unless (first_of (n ∷ (m ∷ (k ∷ [])))) x ≡ result_and (checked n) (result_and (checked m) (unless k x))
unfolding first_of
unless_three n m k x =
    unless_and n _ x ∙ ap (result_and (checked n)) (unless_and m _ x ∙ ap (λ j. result_and (checked m) (unless j x)) (sym (only refl)))

-- what a stage leads to
unless_map : {A B : Type 0} (f : A → B) (n : ℕ) (x : A) → unless n (f x) ≡ result_map_both f (λ e. e) (unless n x)
unfolding unless
unless_map f n x = go (eqb n 0)
  where
    go : (b : Bool) → (if b then Ok (f x) else Err (refused n)) ≡ result_map_both f (λ e. e) (if b then Ok x else Err (refused n))
    go true = refl
    go false = refl

-- 2. Refusals 1 to 5.
module _ (i : Bytes) (call : Call) where
  -- 1, and past it ISA decides
  pub head_stages : head_checked i call ≡ result_and (checked (first (call_rules call))) (isa_of i)
  unfolding head_checked isa_of call_rules
  head_stages =
      ap (λ n. unless n (delimiters i)) (first_append (call_rules call) (head_rules i) tt)
      ∙ unless_and (first (call_rules call)) (first (head_rules i)) (delimiters i)

  -- refused: the number is that of the first rule that applies
  pub head_refused : {e : Refusal} → head_checked i call ≡ Err e
      → (e ≡ refused (first (call_rules call ++ head_rules i))) × (first (call_rules call ++ head_rules i) ≡ 0 → ⊥)
  unfolding head_checked
  head_refused p = unless_err _ _ p

  -- sound: no rule applies, and the delimiters are those of the interchange
  pub head_sound : {d : Delimiters} → head_checked i call ≡ Ok d → (first (call_rules call ++ head_rules i) ≡ 0) × (d ≡ delimiters i)
  unfolding head_checked
  head_sound p = unless_ok _ _ p

  -- and no rule of ISA alone
  isa_clear : first (call_rules call ++ head_rules i) ≡ 0 → first (head_rules i) ≡ 0
  unfolding call_rules first
  isa_clear e = go (good_call call) refl
    where
      go : (b : Bool) → good_call call ≡ b → first (head_rules i) ≡ 0
      go true q = rw q at e
      go false q = absurd (cc (rw q at e))

-- 3. Refusals 6 to 8.
whole_enveloped : (d : Delimiters) (i : Bytes) → is_some (envelope_of most_groups d i) ≡ enveloped most_groups (segments d i)
whole_enveloped d i = go (envelope_of most_groups d i) refl
  where
    go : (w : Option Envelope) → envelope_of most_groups d i ≡ w → is_some w ≡ enveloped most_groups (segments d i)
    go (Some v) q = sym (whole_is most_groups d i q).envelope
    go None q = sym (broken_is most_groups d i q)

-- the number of the first test that fails: the end, the places, and the three of IEA
tests_by : (a b c e f : ℕ) (t : Bool) (w : Option Envelope) (x y z : Bool)
    → check_by a b c e f
    (if t then placed_but w (if not x then Err trailers.NotTwoElements else (if not y then Err trailers.OtherControl else (if not z then Err trailers.OtherCount else Ok tt)))
    else Err NotTerminated)
    ≡ first ((not t ⇒ a) ∷ ((not (is_some w) ⇒ b) ∷ ((not x ⇒ c) ∷ ((not y ⇒ e) ∷ ((not z ⇒ f) ∷ [])))))
unfolding first
tests_by a b c e f false w x y z = refl
tests_by a b c e f true None x y z = refl
tests_by a b c e f true (Some v) false y z = refl
tests_by a b c e f true (Some v) true false z = refl
tests_by a b c e f true (Some v) true true false = refl
tests_by a b c e f true (Some v) true true true = refl

-- what is left to test of an envelope that may be broken
abbrev placed_by : (Envelope → Result (Unit {0}) TrailerFault) → Option Envelope → Result Envelope EnvelopeFault
placed_by test None = Err OutOfPlace
placed_by test (Some v) = sound_but v (test v)

-- only a whole envelope is sound
sound_placed : (w : Option Envelope) (x : Result (Unit {0}) TrailerFault) {v : Envelope} → placed_but w x ≡ Ok v → w ≡ Some v
sound_placed None x q = absurd (cc)
sound_placed (Some u) (Ok n) q = cc
sound_placed (Some u) (Err x) q = absurd (cc)

module _ (d : Delimiters) (i : Bytes) where
  -- 8, by the bytes at the place of IEA
  pub trailer_checked : (v : Envelope) {iea isa13 : Bytes} {x : Result (Unit {0}) TrailerFault} → x ≡ trailer.trailer_check (split d.element iea) v.groups isa13
      → iea ≡ part i v.iea v.iea_end → isa13 ≡ field (isa i) 13 → sound_but v x ≡ sound_but v (trailer_check d i v)
  trailer_checked v p q r = rw (p, q, r)

  module _ (terminated : is_terminated d i ≡ true) where
    -- 7
    pub misplaced : envelope_of most_groups d i ≡ None → Err OutOfPlace ≡ envelope_check d i
    unfolding envelope_check
    misplaced w = rw (terminated, w)

  -- 6, 7, and past them what is read of IEA at its place decides, which is what the law reads
  pub envelope_stages : envelope_check d i ≡ (if is_terminated d i then placed_by (trailer_check d i) (envelope_of most_groups d i) else Err NotTerminated)
  unfolding envelope_check
  envelope_stages = ap (λ r. if is_terminated d i then r else Err NotTerminated) (go (envelope_of most_groups d i) refl)
    where
      go : (w : Option Envelope) → envelope_of most_groups d i ≡ w
          → placed_but w (trailer.trailer_check (last [] (segments d i)) (length (groups_of (segments d i))) (field (isa i) 13)) ≡ placed_by (trailer_check d i) w
      go None q = refl
      go (Some v) q = let e = whole_is most_groups d i q in rw (e.trailer, e.counted)

  -- With a number for each test, that of the check is that of the first test that fails.
  pub check_by_lem : (a b c e f : ℕ)
      → let ss = segments d i in
      let iea = last [] ss in
      check_by a b c e f (envelope_check d i)
      ≡ first (
      (not (is_terminated d i) ⇒ a)
      ∷ ((not (enveloped most_groups ss) ⇒ b)
      ∷ ((not (has_two iea) ⇒ c)
      ∷ ((not (closes iea (field (isa i) 13)) ⇒ e)
      ∷ ((not (counts_groups (length (groups_of ss)) iea) ⇒ f)
      ∷ [])))))
  unfolding envelope_check trailer.trailer_check
  check_by_lem a b c e f =
      let ss = segments d i in
      let iea = last [] ss in
      tests_by a b c e f (is_terminated d i) (envelope_of most_groups d i) (has_two iea) (closes iea (field (isa i) 13)) (counts_groups (length (groups_of ss)) iea)
      ∙ rw (whole_enveloped d i)

  -- With the numbers of document 01, that is the first of its rules.
  pub check_refusal : let ss = segments d i in
      check_by 6 7 8 8 8 (envelope_check d i)
      ≡ first (end_rules d i ++ envelope_rules most_groups ss ++ trailer_rules (last [] ss) (length (groups_of ss)) (field (isa i) 13))
  unfolding end_rules envelope_rules trailer_rules
  check_refusal = check_by_lem 6 7 8 8 8

  -- a sound check has the envelope of the interchange
  check_sound : {v : Envelope} → envelope_check d i ≡ Ok v → envelope_of most_groups d i ≡ Some v
  unfolding envelope_check
  check_sound {v} q = go (is_terminated d i) refl
    where
      go : (t : Bool) → is_terminated d i ≡ t → envelope_of most_groups d i ≡ Some v
      go true p = sound_placed _ _ (rw p at q)
      go false p = absurd (cc (rw p at q))

-- 4. Refusals 9 to 13.
-- the group whose GS starts at an offset, by its GS, which was read
module _ (d : Delimiters) (i : Bytes) (at : ℕ) where
  abbrev end : ℕ
  end = end_of d i at

  abbrev header : Segment
  header = split d.element (part i at end)

  bad_past : length i ≤ at → checked (first (header_rules d header)) ≡ Err (refused 9)
  unfolding header_rules good_gs first split unless
  bad_past h = rw (part_past i at end h)

  -- past 9, GS is there
  pub header_within : {u : Unit {0}} → checked (first (header_rules d header)) ≡ Ok u → at < length i
  header_within {u} h = go (ltb at (length i)) refl
    where
      go : (b : Bool) → ltb at (length i) ≡ b → at < length i
      go true k = ltb-true at (length i) k
      go false k = absurd (cc (h, bad_past (ltb-false at (length i) k)))

  -- what GS, and past it the sets from a place on, come to
  abbrev staged_from : ℕ → Result GroupAt Refusal
  staged_from body =
      result_and (checked (first (header_rules d header)))
      (result_and (checked (first (answer_rules header))) (result_map_both (group_ending d i at) (λ e. e) (sets_checked d i body)))

  sets_stage : unless (first (set_rules d (group_at d i (group_starting d i at)).body)) (group_starting d i at)
      ≡ result_map_both (group_ending d i at) (λ e. e) (sets_checked d i (start_after d i at))
  unfolding group_starting group_ending sets_checked
  sets_stage =
      let body = start_after d i at in
      unless_map (group_ending d i at) (first (set_rules d (body_from d i body))) (body_end d i body)

  -- 9 and 10 by GS, and past them the sets decide
  pub group_stages : group_check d i at ≡ staged_from (end + 1)
  unfolding group_check group_starting group_ending
  group_stages =
      ap (λ n. unless n (group_starting d i at)) (group_blocks d (group_at d i (group_starting d i at)))
      ∙ unless_three _ _ _ _
      ∙ ap (λ r. result_and (checked (first (header_rules d header))) (result_and (checked (first (answer_rules header))) r)) sets_stage
      ∙ go (ltb at (length i)) refl
    where
      go : (b : Bool) → ltb at (length i) ≡ b → staged_from (start_after d i at) ≡ staged_from (end + 1)
      go true k = rw k
      go false k = rw (bad_past (ltb-false at (length i) k))

  -- what the check says of a group that was found
  module _ {g : GroupAt} (f : next_group d i at ≡ Some g) where
    pub group_sound : {h : GroupAt} → group_check d i at ≡ Ok h → (h ≡ g) × (first (group_rules d (group_at d i g)) ≡ 0)
    unfolding group_check
    group_sound e = let none = unless_ok _ _ (rw (found_starts d i at f) at e) in (none.1, none.0)

    pub group_refused : {e : Refusal} → group_check d i at ≡ Err e
        → (e ≡ refused (first (group_rules d (group_at d i g)))) × (first (group_rules d (group_at d i g)) ≡ 0 → ⊥)
    unfolding group_check
    group_refused e = unless_err _ _ (rw (found_starts d i at f) at e)

-- 5. The stages of the refusals 1 to 13.
-- no fault goes without a refusal
fault_refused : (x : EnvelopeFault) → fault_refusal x ≡ 0 → ⊥
fault_refused NotTerminated z = omega arith
fault_refused OutOfPlace z = omega arith
fault_refused NotTwoElements z = omega arith
fault_refused OtherControl z = omega arith
fault_refused OtherCount z = omega arith

module _ (i : Bytes) (call : Call) where
  -- the call and ISA, the envelope, the groups
  staged : let d = delimiters i in
      refusal i call
      ≡ first_of (
      first (call_rules call ++ head_rules i)
      ∷ (check_by 6 7 8 8 8 (envelope_check d i)
      ∷ (first (groups_rules d (groups_of (segments d i)))
      ∷ [])))
  unfolding refusal refusal_rules call_rules head_rules end_rules envelope_rules trailer_rules
  staged =
      let d = delimiters i in
      let ss = segments d i in
      block (call_rules call ++ head_rules i) _ _ tt refl
      (block (end_rules d i ++ envelope_rules most_groups ss ++ trailer_rules (last [] ss) (length (groups_of ss)) (field (isa i) 13)) _ _ tt (check_refusal d i) (only refl))

  -- 1 to 5. Shut out: a later stage that decides before them.
  pub head_decides : {e : Refusal} → head_checked i call ≡ Err e → (e ≡ refused (refusal i call)) × (refusal i call ≡ 0 → ⊥)
  head_decides p =
      let due = head_refused i call p in
      let first_stage = here _ refl due.1 ∙ sym staged in
      (due.0 ∙ ap refused first_stage, λ z. due.1 (first_stage ∙ z))

  module _ {d : Delimiters} (s : head_checked i call ≡ Ok d) where
    -- past them, the envelope and the groups decide
    past_head : {n : ℕ} → n ≡ first_of (check_by 6 7 8 8 8 (envelope_check d i) ∷ (first (groups_rules d (groups_of (segments d i))) ∷ []))
        → n ≡ refusal i call
    past_head q = let sound = head_sound i call s in onward _ refl sound.0 (q ∙ rw sound.1) ∙ sym staged

    -- 6 to 8
    pub envelope_decides : {x : EnvelopeFault} → envelope_check d i ≡ Err x → (fault_refusal x ≡ refusal i call) × (fault_refusal x ≡ 0 → ⊥)
    envelope_decides {x} e = (past_head (here _ (rw e) (fault_refused x)), fault_refused x)

    -- past them, the groups decide
    pub groups_decide : {v : Envelope} → envelope_check d i ≡ Ok v
        → (d ≡ delimiters i) × (refusal i call ≡ first (groups_rules d (groups_of (segments d i)))) × EnvelopeIs most_groups d i v × (first (head_rules i) ≡ 0)
    groups_decide e = (
      (head_sound i call s).1,
      sym (past_head (onward _ refl (rw e) (only refl))),
      whole_is most_groups d i (check_sound d i e),
      isa_clear i call (head_sound i call s).0,
    )

-- 9 to 13, one group after the other: the first group that has a refusal decides. Shut out: 9 in the second group before 13 in the first.
pub groups_first : (d : Delimiters) (g : Group) (gs : List Group)
    → first (groups_rules d (g ∷ gs)) ≡ or_else (first (group_rules d g)) (eqb (first (group_rules d g)) 0) (first (groups_rules d gs))
unfolding groups_rules group_rules header_rules answer_rules set_rules
groups_first d g gs = first_append (group_rules d g) (groups_rules d gs) tt
