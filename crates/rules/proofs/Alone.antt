-- Each group of an answered interchange, alone in its interchange, is answered too, and its 997 is the same but for ST02 and SE02. An
-- interchange that passes 1 to 8 is refused for what its first group that is refused alone is refused for.
use Rattle.std.specs.Prelude.{if◌then◌else◌, is_none, None, Some}
use mathlib.Core.Path.{◌≡◌, refl, sym, ◌∙◌, ap, subst}
use mathlib.Core.Bool.{Bool, true, false, ◌&&◌, not, false≢true}
use mathlib.Core.List.{List, [], ◌∷◌, ◌++◌, map, append-nil, append_assoc}
use Prim.Native.Nat.{ℕ, zero, suc, ◌+◌, ◌≤◌, ◌<◌, suc-le-suc}
use native.Mathlib.Nat.{not-suc-le-zero, le_of_suc-le-suc}
use native.Mathlib.Omega.{arith}
use borrow.Author.Tests.{not-true, eqb-true, eq-eqb, le-leb, leb-true}
use lib.Dec.{T, leb, eqb}
use lib.ListN.{length, take, get_or, length-append}
use lib.Seq.{take_at, length-take-le}
use Rattle.rules.specs.Base.{Bytes, Rule, ◌⇒◌, ascii, same, all, is_digit, last, holds, member, between, first}
use Rattle.rules.specs.Cutting.{Segment, field, is_named, segments, isa, delimiters, repetition_mark, marks, valid}
use Rattle.rules.specs.Numbers.{digits, value, value_from, count_in, declares, padded, decimal}
use Rattle.rules.specs.Groups.{Group, groups_of, group_report}
use Rattle.rules.specs.Refusals.{call_rules, head_rules, end_rules, envelope_rules, trailer_rules, header_rules, answer_rules, set_rules, groups_rules, refusal_rules, plain, has_isa, distinct, good_marks, text_fields, good_isa, is_whole_group, enveloped, most_groups, counts_groups, group_rules, refusal}
use Rattle.rules.specs.Response.{fields_out, segment_out, out, blocks, ak1, ak9, st_out, se_out, told, transaction_set, isa_out, gs_out, ge_out, iea_out, response}
use Rattle.rules.specs.Damage.{free, is_whole, groups_in, flat_groups, rebuilt, opening, closing, acknowledgment_of, acknowledgments_from, joined}
use Rattle.rules.specs.declared.Call.{Call}
use Rattle.rules.specs.declared.Delimiters.{Delimiters}
use Rattle.rules.proofs.Logic.{same→eq, numbered, or_else, first_append, and_left, and_right, all_head, all_tail, all_cons, all_append, all_left, all_right, all_weaken, all_at, each_at}
use Rattle.rules.proofs.Lengths.{padded_length, out_cons, out_nil, length_out_append}
use Rattle.rules.proofs.Cuts.{segments_out, out_append, plain_other, digit_common}
use Rattle.rules.proofs.GroupLaws.{Chain, no_group, open_group, closed_group}
use Rattle.rules.proofs.Envelope.{delimiters_head, has_isa_head, isa_head, to_eight, Passed, passed, eight_numbers, clear, passed_whole, passed_parts, first_cut, first_segment, around, groups_around, last_around}
use Rattle.rules.proofs.Damage.{response_parts, out_last, inside_whole, rebuilt_own}
use Rattle.rules.proofs.Accepting.{same_refl}

-- 1. The interchange of a group alone: ISA as received, the segments of the group with its GE or without, and IEA with `1` and ISA13.
-- that IEA
abbrev pub iea_alone : Bytes → Segment
iea_alone isa13 = ascii "IEA" ∷ ascii "1" ∷ isa13 ∷ []

-- its bytes
unfoldable pub alone : Bytes → Group → Bytes
alone i g = take 106 i ++ out (delimiters i) (flat_groups (g ∷ []) ++ iea_alone (field (isa i) 13) ∷ [])

-- 2. The number of a 997 stands in ST02 and in SE02, and no other byte depends on it.
-- a 997 with this number: ST01 and ST02, the bytes between the two numbers, SE02 and the terminator
unfoldable pub with_number : Delimiters → ℕ → Bytes → Bytes
with_number d n middle =
    ascii "ST" ++ (d.element ∷ (ascii "997" ++ (d.element ∷ (padded 4 n ++ (middle ++ (padded 4 n ++ d.terminator ∷ []))))))

-- the bytes of a group's 997 between its two numbers; SE01 does not depend on ST02, so it is counted with an empty one
unfoldable pub middle_of : Delimiters → Group → Bytes
middle_of d g =
    let r = group_report d g in
    d.terminator ∷ (out d (ak1 r ∷ (blocks r.sets ++ ak9 r ∷ []))
    ++ (ascii "SE" ++ (d.element ∷ (decimal (length (told [] r) + 1) ++ d.element ∷ []))))

-- Shut out: an SE01 that counts the segments of other 997s, or a number that stands elsewhere too.
pub numbered_apart : (d : Delimiters) (n : ℕ) (g : Group) → acknowledgment_of d n g ≡ with_number d n (middle_of d g)
unfolding acknowledgment_of transaction_set told st_out se_out with_number middle_of out fields_out
numbered_apart d n g =
    let r = group_report d g in
    let rest = ak1 r ∷ (blocks r.sets ++ ak9 r ∷ []) in
    out_append d (told (padded 4 n) r) (se_out (length (told (padded 4 n) r) + 1) (padded 4 n) ∷ [])
    ∙ go (padded 4 n) (out d rest) (decimal (length (told [] r) + 1))
  where
    -- behind ST01
    tail : (x rest count : Bytes)
        → ((x ++ []) ++ d.terminator ∷ [] ++ rest) ++ (segment_out d (ascii "SE" ∷ count ∷ x ∷ []) ++ [])
        ≡ x ++ ((d.terminator ∷ (rest ++ (ascii "SE" ++ (d.element ∷ (count ++ d.element ∷ []))))) ++ (x ++ d.terminator ∷ []))
    tail x rest count = simp (append_assoc, append-nil)

    go : (x rest count : Bytes)
        → (segment_out d (st_out x) ++ rest) ++ (segment_out d (ascii "SE" ∷ count ∷ x ∷ []) ++ [])
        ≡ ascii "ST" ++ (d.element ∷ (ascii "997" ++ (d.element
        ∷ (x ++ ((d.terminator ∷ (rest ++ (ascii "SE" ++ (d.element ∷ (count ++ d.element ∷ []))))) ++ (x ++ d.terminator ∷ []))))))
    go x rest count = ap (λ (l : Bytes). ascii "ST" ++ (d.element ∷ (ascii "997" ++ d.element ∷ l))) (tail x rest count)

-- two texts that are the same but for ST02 and SE02: n in the one, m in the other
pub record SameBut (d : Delimiters) (n m : ℕ) (a b : Bytes) : Type 0 where
  pub middle : Bytes
  pub one : a ≡ with_number d n middle
  pub other : b ≡ with_number d m middle

-- so they have the same length
pub same_length : {d : Delimiters} {n m : ℕ} {a b : Bytes} → SameBut d n m a b → length a ≡ length b
unfolding with_number
same_length {d} {n} {m} s = rw (s.one, s.other) (simp (length-append, padded_length))

-- The 997 of a group among others has the bytes of the 997 that it gets alone, but for the two numbers. Shut out: a 997 that tells of another group.
pub same_alone : (d : Delimiters) (n : ℕ) (g : Group) → SameBut d n 1 (acknowledgment_of d n g) (acknowledgment_of d 1 g)
same_alone d n g = record { middle = middle_of d g; one = numbered_apart d n g; other = numbered_apart d 1 g }

-- 3. One group among several.
flat_cons : (g : Group) (gs : List Group) → flat_groups (g ∷ gs) ≡ flat_groups (g ∷ []) ++ flat_groups gs
unfolding flat_groups
flat_cons g gs = simp (append_assoc, append-nil)

-- its segments have what all segments have
whole_at : (p : Segment → Bool) (gs : List Group) (k : ℕ) (w : Group) → all p (flat_groups gs) ≡ true → k < length gs
    → all p (flat_groups (get_or gs k w ∷ [])) ≡ true
whole_at p [] k w e h = absurd (not-suc-le-zero h)
whole_at p (g ∷ gs) zero w e h = all_left p (flat_groups (g ∷ [])) (flat_groups gs) (rw (flat_cons g gs) at e)
whole_at p (g ∷ gs) (suc k) w e h =
    whole_at p gs k w (all_right p (flat_groups (g ∷ [])) (flat_groups gs) (rw (flat_cons g gs) at e)) (le_of_suc-le-suc h)

-- and no more bytes
short_at : (d : Delimiters) (gs : List Group) (k : ℕ) (w : Group) → k < length gs
    → length (out d (flat_groups (get_or gs k w ∷ []))) ≤ length (out d (flat_groups gs))
short_at d [] k w h = absurd (not-suc-le-zero h)
short_at d (g ∷ gs) zero w h = rw (flat_cons g gs) (omega (arith, length_out_append d (flat_groups (g ∷ [])) (flat_groups gs)))
short_at d (g ∷ gs) (suc k) w h =
    rw (flat_cons g gs)
    (omega (arith, length_out_append d (flat_groups (g ∷ [])) (flat_groups gs), short_at d gs k w (le_of_suc-le-suc h)))

chain_at : {gs : List Group} (k : ℕ) (w : Group) → Chain gs → k < length gs → Chain (get_or gs k w ∷ [])
chain_at k w no_group h = absurd (not-suc-le-zero h)
chain_at zero w (open_group g o) h = open_group g o
chain_at (suc k) w (open_group g o) h = absurd (not-suc-le-zero (le_of_suc-le-suc h))
chain_at zero w (closed_group g o e c) h = closed_group g o e no_group
chain_at (suc k) w (closed_group g o e c) h = chain_at k w c (le_of_suc-le-suc h)

chain_closed : {gs : List Group} (k : ℕ) (w : Group) → Chain gs → suc k < length gs → is_none (get_or gs k w).trailer ≡ false
chain_closed k w no_group h = absurd (not-suc-le-zero h)
chain_closed k w (open_group g o) h = absurd (not-suc-le-zero (le_of_suc-le-suc h))
chain_closed zero w (closed_group g o e c) h = refl
chain_closed (suc k) w (closed_group g o e c) h = chain_closed k w c (le_of_suc-le-suc h)

-- Only the last group lacks its GE, if any: a group with another one after it has one. Shut out: an inner GE that may be missing.
pub closed_before_last : (i : Bytes) (call : Call) → refusal i call ≡ 0 → (k : ℕ) (w : Group) → suc k < length (groups_in i)
    → is_none (get_or (groups_in i) k w).trailer ≡ false
closed_before_last i call e k w h = chain_closed k w (passed_parts i call (clear i call e).passed).chain h

-- 4. IEA.
common_free : (t : ℕ) → plain t ≡ true → (bs : Bytes) → all (λ b. not (plain b)) bs ≡ true → free t bs ≡ true
common_free t p =
    all_weaken (λ b. not (plain b)) (λ b. not (eqb b t)) (λ b h. rw (plain_other t b p (not-true (plain b) h)))

module _ (d : Delimiters) (isa13 : Bytes) (nine : digits 9 9 isa13 ≡ true) (p : all plain (marks d) ≡ true) where
  common : all (all (λ b. not (plain b))) (iea_alone isa13) ≡ true
  unfolding all digits
  common =
      rw (all_weaken is_digit (λ b. not (plain b)) digit_common isa13 (and_right (between 9 9 (length isa13)) (all is_digit isa13) nine))

  free_of : (t : ℕ) → plain t ≡ true → all (free t) (iea_alone isa13) ≡ true
  free_of t q = all_weaken (all (λ b. not (plain b))) (free t) (common_free t q) (iea_alone isa13) common

  iea_whole : is_whole d (iea_alone isa13) ≡ true
  unfolding marks all
  iea_whole =
      let separator = repetition_mark d.repetition in
      let others = d.component ∷ d.terminator ∷ separator in
      let later = all_tail plain d.component (d.terminator ∷ separator) (all_tail plain d.element others p) in
      rw (free_of d.element (all_head plain d.element others p), free_of d.terminator (all_head plain d.terminator separator later))

-- it is no longer than the IEA of an interchange that passes 8
iea_alone_short : (d : Delimiters) (isa13 : Bytes) (iea : Segment) → length iea ≡ 3 → field iea 0 ≡ ascii "IEA" → 1 ≤ length (field iea 1) → field iea 2 ≡ isa13
    → length (segment_out d (iea_alone isa13)) ≤ length (segment_out d iea)
unfolding fields_out
iea_alone_short d isa13 [] n a b c = absurd (omega arith)
iea_alone_short d isa13 (x ∷ []) n a b c = absurd (omega arith)
iea_alone_short d isa13 (x ∷ (y ∷ [])) n a b c = absurd (omega arith)
iea_alone_short d isa13 (x ∷ (y ∷ (z ∷ []))) n a b c = simp length-append (omega (arith, b, ap length a, ap length c))
iea_alone_short d isa13 (x ∷ (y ∷ (z ∷ (u ∷ us)))) n a b c = absurd (omega arith)

-- 5. The rules of groups, one group after the other.
-- no rule of a group gives 0
group_numbers : (d : Delimiters) (g : Group) → T (numbered (group_rules d g))
unfolding group_rules header_rules answer_rules set_rules
group_numbers d g = tt

-- they give the number of the first group whose rules give one
first_group : (d : Delimiters) (number : Group → ℕ) (gs : List Group)
    → ((k : ℕ) (w : Group) → k < length gs → number (get_or gs k w) ≡ first (group_rules d (get_or gs k w)))
    → first (groups_rules d gs) ≡ first (map (λ g. not (eqb (number g) 0) ⇒ number g) gs)
unfolding groups_rules first
first_group d number [] h = refl
first_group d number (g ∷ gs) h =
    first_append (group_rules d g) (groups_rules d gs) (group_numbers d g)
    ∙ rw (← h 0 g (omega arith), first_group d number gs (λ k w l. h (suc k) w (suc-le-suc l)))
    (go (number g) (eqb (number g) 0) (map (λ g. not (eqb (number g) 0) ⇒ number g) gs))
  where
    go : (n : ℕ) (b : Bool) (rs : List Rule) → or_else n b (first rs) ≡ first ((not b ⇒ n) ∷ rs)
    go n true rs = refl
    go n false rs = refl

-- 6. The interchange of a group alone is refused for what its own rules say.
-- a count has a digit at least
declared_some : (bs : Bytes) (n : ℕ) → declares 5 bs n ≡ true → 1 ≤ length bs
unfolding count_in digits
declared_some bs n e = go (digits 1 5 bs) refl e
  where
    go : (b : Bool) → digits 1 5 bs ≡ b → holds (eqb n) (if b then Some (value bs) else None) ≡ true → 1 ≤ length bs
    go true q e = leb-true 1 (length bs) (and_left (leb 1 (length bs)) (leb (length bs) 5) (and_left (between 1 5 (length bs)) (all is_digit bs) q))
    go false q e = absurd (false≢true e)

module _ (i : Bytes) (call : Call) (p : Passed i call) (k : ℕ) (w : Group) (h : k < length (groups_in i)) where
  abbrev d : Delimiters
  d = delimiters i

  abbrev g : Group
  g = get_or (groups_in i) k w

  abbrev isa13 : Bytes
  isa13 = field (isa i) 13

  abbrev iea : Segment
  iea = last [] (segments d i)

  chain : Chain (g ∷ [])
  chain = chain_at k w (passed_parts i call p).chain h

  nine : digits 9 9 isa13 ≡ true
  unfolding good_isa
  nine =
      let valids = all (all (valid d)) (text_fields d.repetition (isa i)) in
      let test = member (field (isa i) 15) (ascii "P" ∷ ascii "T" ∷ ascii "I" ∷ []) in
      and_right valids (digits 9 9 isa13) (and_left (valids && digits 9 9 isa13) test p.headed)

  marks_plain : all plain (marks d) ≡ true
  unfolding good_marks
  marks_plain = and_right (distinct (marks d)) (all plain (marks d)) p.marked

  closes_whole : is_whole d (iea_alone isa13) ≡ true
  closes_whole = iea_whole d isa13 nine marks_plain

  abbrev inner : List Segment
  inner = flat_groups (g ∷ []) ++ iea_alone isa13 ∷ []

  inner_whole : all (is_whole d) inner ≡ true
  unfolding all
  inner_whole =
      let q = is_whole d in
      all_append q (flat_groups (g ∷ [])) (iea_alone isa13 ∷ [])
      (whole_at q (groups_in i) k w (all_left q (flat_groups (groups_in i)) (iea ∷ []) (inside_whole i call p)) h)
      (all_cons q (iea_alone isa13) [] closes_whole refl)

  head_alone : take 106 (alone i g) ≡ take 106 i
  unfolding alone
  head_alone = take_at (take 106 i) (out d inner) 106 (length-take-le 106 i p.header.long)

  pub delimiters_alone : delimiters (alone i g) ≡ d
  delimiters_alone = sym (delimiters_head (alone i g)) ∙ ap delimiters head_alone ∙ delimiters_head i

  pub isa_alone : isa (alone i g) ≡ isa i
  isa_alone = sym (isa_head (alone i g)) ∙ ap isa head_alone ∙ isa_head i

  has_isa_alone : has_isa (alone i g) ≡ has_isa i
  has_isa_alone = sym (has_isa_head (alone i g)) ∙ ap has_isa head_alone ∙ has_isa_head i

  cut_alone : segments d (alone i g) ≡ around (get_or (segments d i) 0 []) (iea_alone isa13) (g ∷ [])
  unfolding alone
  cut_alone =
      rw (
        first_cut i p.header (out d inner),
        segments_out d p.header.element≢ inner inner_whole,
        first_segment i p.header,
      )

  pub groups_alone : groups_in (alone i g) ≡ g ∷ []
  groups_alone =
      ap (λ (x : Delimiters). groups_of (segments x (alone i g))) delimiters_alone ∙ ap groups_of cut_alone
      ∙ groups_around (get_or (segments d i) 0 []) (iea_alone isa13) chain

  ends_alone : last 0 (alone i g) ≡ d.terminator
  unfolding alone
  ends_alone = out_last d (take 106 i) (flat_groups (g ∷ [])) (iea_alone isa13) closes_whole

  long_alone : 106 ≤ length (alone i g)
  unfolding alone
  long_alone = simp length-append (omega (arith, length-take-le 106 i p.header.long))

  iea_short : length (segment_out d (iea_alone isa13)) ≤ length (segment_out d iea)
  unfolding enveloped
  iea_short =
      let named = is_named (ascii "IEA") iea in
      let counted = between 1 most_groups (length (groups_in i)) in
      iea_alone_short d isa13 iea
      (eqb-true (length iea) 3 p.two)
      (same→eq (field iea 0) (ascii "IEA") (and_left named counted (and_left (named && counted) (all is_whole_group (groups_in i)) p.envelope)))
      (declared_some (field iea 1) (length (groups_in i)) p.counted)
      (same→eq (field iea 2) isa13 p.closed)

  -- A group alone has no more bytes than its interchange.
  pub short_alone : length (alone i g) ≤ length i
  unfolding alone rebuilt
  short_alone =
      subst (λ (bs : Bytes). length (alone i g) ≤ length bs) (rebuilt_own i call p)
      (omega (
        arith,
        length-append (take 106 i) (out d inner),
        length-append (take 106 i) (out d (flat_groups (groups_in i) ++ iea ∷ [])),
        length_out_append d (flat_groups (g ∷ [])) (iea_alone isa13 ∷ []),
        length_out_append d (flat_groups (groups_in i)) (iea ∷ []),
        out_cons d (iea_alone isa13) [],
        out_cons d iea [],
        out_nil d,
        short_at d (groups_in i) k w h,
        iea_short,
      ))

  whole_group : is_whole_group g ≡ true
  whole_group = all_at is_whole_group (groups_in i) w k (passed_whole i call p) h

  counts_alone : counts_groups 1 (iea_alone isa13) ≡ true
  unfolding count_in digits value value_from all
  counts_alone = refl

  enveloped_alone : enveloped most_groups (segments d (alone i g)) ≡ true
  unfolding enveloped all same
  enveloped_alone =
      let is = get_or (segments d i) 0 [] in
      rw (
        cut_alone,
        last_around is (iea_alone isa13) (g ∷ []),
        groups_around is (iea_alone isa13) chain,
        whole_group,
      )

  last_alone : last [] (segments d (alone i g)) ≡ iea_alone isa13
  last_alone = ap (last []) cut_alone ∙ last_around (get_or (segments d i) 0 []) (iea_alone isa13) (g ∷ [])

  -- Alone it is refused for the first of its own rules 9 to 13. Shut out: a refusal of a group alone with 1 to 8.
  pub group_refusal : refusal (alone i g) call ≡ first (group_rules d g)
  unfolding refusal refusal_rules call_rules head_rules end_rules envelope_rules trailer_rules groups_rules first
  group_refusal =
      rw (
        groups_alone,
        delimiters_alone,
        isa_alone,
        has_isa_alone,
        p.numbers,
        p.opened,
        p.marked,
        p.headed,
        le-leb 106 (length (alone i g)) long_alone,
        le-leb (length (alone i g)) 65536 (omega (arith, short_alone, p.header.short)),
        eq-eqb (last 0 (alone i g)) d.terminator ends_alone,
        enveloped_alone,
        last_alone,
        counts_alone,
        same_refl isa13,
        append-nil (group_rules d g),
      )

  -- Its response is ISA, GS by the group itself, its 997 with the number 1, GE and IEA.
  pub response_alone : response (alone i g) call
      ≡ out d (isa_out d (isa i) call ∷ gs_out g.header call ∷ [])
      ++ acknowledgment_of d 1 g
      ++ out d (ge_out 1 call.control ∷ iea_out 1 call.control ∷ [])
  unfolding opening closing joined acknowledgments_from
  response_alone = response_parts (alone i g) call ∙ rw (groups_alone, delimiters_alone, isa_alone, append-nil (acknowledgment_of d 1 g))

-- 7. An interchange that passes 1 to 8 is refused for what its groups are refused for alone.
-- the refusal of a group alone, where it has one
abbrev pub alone_rule : Bytes → Call → Group → Rule
alone_rule i call g =
    let n = refusal (alone i g) call in
    not (eqb n 0) ⇒ n

-- The refusal is that of the first group which is refused alone, and there is none where none is. Shut out: a batch that is refused for what no
-- group of it is refused for, a group that is skipped, and 9 checked in all groups before 13.
pub refusal_alone : (i : Bytes) (call : Call) → first (to_eight i call) ≡ 0 → refusal i call ≡ first (map (alone_rule i call) (groups_in i))
unfolding refusal refusal_rules
refusal_alone i call e =
    let d = delimiters i in
    let gs = groups_in i in
    first_append (to_eight i call) (groups_rules d gs) (eight_numbers i call)
    ∙ rw e (first_group d (λ g. refusal (alone i g) call) gs (group_refusal i call (passed i call e)))

-- A group of an interchange that is not refused is not refused alone. Shut out: a group that passes only beside another.
pub clear_alone : (i : Bytes) (call : Call) → refusal i call ≡ 0 → (k : ℕ) (w : Group) → k < length (groups_in i)
    → refusal (alone i (get_or (groups_in i) k w)) call ≡ 0
clear_alone i call e k w h =
    let c = clear i call e in
    group_refusal i call c.passed k w h
    ∙ each_at (λ (x : Group). first (group_rules (delimiters i) x) ≡ 0) (groups_in i) k w c.groups h
