-- Laws of the envelope: what is read of ISA lies in its 106 bytes, and an interchange that is not refused has the parts that it should.
use Rattle.std.specs.Prelude.{if◌then◌else◌, None, Some}
use mathlib.Core.Path.{◌≡◌, refl, sym, ◌∙◌, ap}
use mathlib.Core.Bool.{Bool, true, false, ◌&&◌, ◌||◌, not, false≢true}
use mathlib.Core.List.{List, [], ◌∷◌, ◌++◌, map, append-nil, append_assoc}
use Prim.Native.Nat.{ℕ, suc, ◌+◌, ◌≤◌, ◌<◌}
use native.Mathlib.Omega.{arith}
use native.Mathlib.Numerals.{add-one}
use borrow.Author.Tests.{not-true, not-false, eqb-true, eqb-false, ne_eqb, leb-true, ltb-true}
use lib.Dec.{T, eqb, ltb, leb, lit<, lit≤}
use lib.ListN.{length, take, drop, get_or, take-append-drop, length-take}
use lib.Seq.{slice, slice_empty, split_at, take-suc, get_or-take, take-take, drop-append-le}
use Rattle.rules.specs.Base.{Bytes, Rule, ascii, same, member, between, all, any, front, last, first}
use Rattle.rules.specs.Cutting.{Segment, field, is_named, segments, split, separators, fields_at, isa, knows_repetition, repetition_in, delimiters, repetition_mark, marks, valid}
use Rattle.rules.specs.Numbers.{digits}
use Rattle.rules.specs.Groups.{Group, groups_of, cut_after_ge, is_ge, sets}
use Rattle.rules.specs.Refusals.{good_call, call_rules, has_isa, is_whole_group, plain, distinct, good_marks, text_fields, good_isa, head_rules, end_rules, enveloped, most_groups, envelope_rules, has_two, closes, counts_groups, trailer_rules, header_rules, answer_rules, set_rules, group_rules, groups_rules, refusal_rules, refusal}
use Rattle.rules.specs.Damage.{flat, groups_in, flat_groups, free}
use Rattle.rules.specs.declared.Call.{Call}
use Rattle.rules.specs.declared.Delimiters.{Delimiters}
use Rattle.rules.proofs.Logic.{and_left, and_right, or_left, or_right, all_head, all_tail, all_cons, all_append, all_left, all_right, all_weaken, same→eq, front_last, front_snoc, last_snoc, numbered, first_append_none, Silent, silent, Each}
use Rattle.rules.proofs.Cuts.{pieces_step, valid_apart}
use Rattle.rules.proofs.Facts.{groups_numbers}
use Rattle.rules.proofs.GroupLaws.{is_open, group_from, cut_closed, cut_open, group_closed, group_open, Chain, no_group, open_group, closed_group, cut_groups}
use Rattle.rules.proofs.SetLaws.{is_outer, Sets, sets_cut, flat_sets}

-- 1. What is read of ISA lies in its 106 bytes.
separators_low : all (λ a. ltb a 106) separators ≡ true
unfolding all separators
separators_low = refl

separators_within : all (λ a. leb a 106) separators ≡ true
unfolding all separators
separators_within = refl

module _ (i : Bytes) where
  separated_head : (b : ℕ) (places : List ℕ) → all (λ a. ltb a 106) places ≡ true
      → all (λ a. eqb (get_or (take 106 i) a 0) b) places ≡ all (λ a. eqb (get_or i a 0) b) places
  unfolding all
  separated_head b [] t = refl
  separated_head b (a ∷ as') t =
      rw (
        get_or-take 106 i a 0 (ltb-true a 106 (all_head (λ a. ltb a 106) a as' t)),
        separated_head b as' (all_tail (λ a. ltb a 106) a as' t),
      )

  pub has_isa_head : has_isa (take 106 i) ≡ has_isa i
  unfolding has_isa
  has_isa_head =
      rw (take-take 3 106 i (lit≤ tt), get_or-take 106 i 3 0 (lit< tt), separated_head (get_or i 3 0) separators separators_low)

  fields_head : (n : ℕ) (places : List ℕ) → all (λ a. leb a 106) places ≡ true → fields_at n places (take 106 i) ≡ fields_at n places i
  unfolding fields_at
  fields_head n [] t = refl
  fields_head n (a ∷ as') t =
      rw (
        take-take a 106 i (leb-true a 106 (all_head (λ a. leb a 106) a as' t)),
        fields_head (a + 1) as' (all_tail (λ a. leb a 106) a as' t),
      )

  pub isa_head : isa (take 106 i) ≡ isa i
  unfolding isa
  isa_head = fields_head 0 separators separators_within

  pub delimiters_head : delimiters (take 106 i) ≡ delimiters i
  unfolding delimiters repetition_in
  delimiters_head =
      rw (
        get_or-take 106 i 3 0 (lit< tt),
        get_or-take 106 i 104 0 (lit< tt),
        get_or-take 106 i 105 0 (lit< tt),
        get_or-take 106 i 82 0 (lit< tt),
        isa_head,
      )

-- 2. The 105 bytes of ISA before its terminator hold no other terminator.
valid_free : (d : Delimiters) (b : ℕ) → valid d b ≡ true → not (eqb b d.terminator) ≡ true
valid_free d b e = rw (valid_apart d b e).2

-- places that ascend from start
abbrev ascending : ℕ → List ℕ → Bool
ascending start [] = true
ascending start (e ∷ es) = leb start e && ascending (e + 1) es

-- where they end
abbrev end : ℕ → List ℕ → ℕ
end start [] = start
end start (e ∷ es) = end (e + 1) es

end_above : (start : ℕ) (es : List ℕ) → ascending start es ≡ true → start ≤ end start es
end_above start [] t = omega arith
end_above start (e ∷ es) t =
    let h = leb-true start e (and_left (leb start e) (ascending (e + 1) es) t) in
    let k = end_above (e + 1) es (and_right (leb start e) (ascending (e + 1) es) t) in
    omega arith

slice_split : (i : Bytes) (start e m : ℕ) → start ≤ e → e < m → m ≤ length i
    → slice start m i ≡ slice start e i ++ get_or i e 0 ∷ slice (e + 1) m i
slice_split i start e m h k l =
    let t : e < length (take m i) = simp length-take (omega arith) in
    let e' : e ≤ m = omega arith in
    let s : start ≤ length (take e i) = simp length-take (omega arith) in
    ap (drop start) (split_at (take m i) e 0 t)
    ∙ rw (add-one, take-take e m i e', get_or-take m i e 0 k) (drop-append-le start (take e i) (get_or i e 0 ∷ drop (suc e) (take m i)) s)

-- what holds of the bytes of the fields and of the bytes at the places holds of all bytes up to the end
pub covered : (p : ℕ → Bool) (i : Bytes) (start : ℕ) (es : List ℕ) → ascending start es ≡ true → end start es ≤ length i
    → all (all p) (fields_at start es i) ≡ true → all (λ e. p (get_or i e 0)) es ≡ true → all p (slice start (end start es) i) ≡ true
unfolding fields_at all
covered p i start [] t l e f = rw (slice_empty start i)
covered p i start (x ∷ xs) t l e f =
    let h = leb-true start x (and_left (leb start x) (ascending (x + 1) xs) t) in
    let r = and_right (leb start x) (ascending (x + 1) xs) t in
    let k = end_above (x + 1) xs r in
    let m = end (x + 1) xs in
    let b : x < m = omega arith in
    rw (slice_split i start x m h b l)
    (all_append p (slice start x i) (get_or i x 0 ∷ slice (x + 1) m i) (and_left (all p (slice start x i)) (all (all p) (fields_at (x + 1) xs i)) e)
    (all_cons p (get_or i x 0) (slice (x + 1) m i) (and_left (p (get_or i x 0)) (all (λ e. p (get_or i e 0)) xs) f)
    (covered p i (x + 1) xs r l (and_right (all p (slice start x i)) (all (all p) (fields_at (x + 1) xs i)) e)
    (and_right (p (get_or i x 0)) (all (λ e. p (get_or i e 0)) xs) f))))

-- ISA11 is the byte at its place
pub isa11_byte : (i : Bytes) → 106 ≤ length i → field (isa i) 11 ≡ get_or i 82 0 ∷ []
unfolding isa separators fields_at
isa11_byte i l = let l' : 83 ≤ length i = omega (arith, l) in slice_split i 82 82 83 (lit≤ tt) (lit< tt) l' ∙ rw (slice_empty 82 i, slice_empty 83 i)

pub isa_long : (i : Bytes) → 11 < length (isa i)
unfolding isa separators fields_at
isa_long i = lit< tt

free_other : (t b : ℕ) → any (eqb t) (b ∷ []) ≡ false → free t (b ∷ []) ≡ true
unfolding all any
free_other t b n = rw (ne_eqb b t (λ e. eqb-false t b (or_left (eqb t b) false n) (sym e)))

-- a byte that is neither in the fields that are text nor the repetition separator is in no field
texts_free : (t : ℕ) (i : Bytes) → 106 ≤ length i → (c : Bool)
    → any (eqb t) (repetition_mark (if c then Some (get_or i 82 0) else None)) ≡ false
    → all (free t) (text_fields (if c then Some (get_or i 82 0) else None) (isa i)) ≡ true → all (free t) (isa i) ≡ true
texts_free t i l false n e = e
texts_free t i l true n e =
    let s = isa i in
    let before = take 11 s in
    let after = drop 12 s in
    ap (all (free t)) (split_at s 11 [] (isa_long i))
    ∙ all_append (free t) before (field s 11 ∷ after) (all_left (free t) before after e)
    (all_cons (free t) (field s 11) after (rw (isa11_byte i l) (free_other t (get_or i 82 0) n)) (all_right (free t) before after e))

-- what the refusals over the 106 bytes leave
pub record Header (i : Bytes) : Type 0 where
  pub long : 106 ≤ length i
  pub short : length i ≤ 65536
  pub separated : all (λ at. eqb (get_or i at 0) (get_or i 3 0)) separators ≡ true
  pub fields : all (free (delimiters i).terminator) (isa i) ≡ true
  pub element≢ : eqb (delimiters i).element (delimiters i).terminator ≡ false
  pub component≢ : eqb (delimiters i).component (delimiters i).terminator ≡ false

-- marks that differ: the terminator is none of the others
pub marks_differ : (d : Delimiters) → distinct (marks d) ≡ true
    → (eqb d.element d.terminator ≡ false) × (eqb d.component d.terminator ≡ false) × (any (eqb d.terminator) (repetition_mark d.repetition) ≡ false)
unfolding distinct marks any
marks_differ d e =
    let rs = repetition_mark d.repetition in
    let ec = eqb d.element d.component in
    let et = eqb d.element d.terminator in
    let er = any (eqb d.element) rs in
    let ct = eqb d.component d.terminator in
    let cr = any (eqb d.component) rs in
    let tr = any (eqb d.terminator) rs in
    let of_e = not (ec || (et || er)) in
    let of_c = not (ct || cr) in
    let of_t = not tr && distinct rs in
    let first = not-true (ec || (et || er)) (and_left of_e (of_c && of_t) e) in
    let later = and_right of_e (of_c && of_t) e in
    let second = not-true (ct || cr) (and_left of_c of_t later) in
    let third = not-true tr (and_left (not tr) (distinct rs) (and_right of_c of_t later)) in
    (or_left et er (or_right ec (et || er) first), or_left ct cr second, third)

-- so no field of ISA holds the terminator
fields_free : (i : Bytes) → 106 ≤ length i → any (eqb (delimiters i).terminator) (repetition_mark (repetition_in i)) ≡ false
    → all (all (valid (delimiters i))) (text_fields (repetition_in i) (isa i)) ≡ true → all (free (delimiters i).terminator) (isa i) ≡ true
unfolding repetition_in
fields_free i l n v =
    let d = delimiters i in
    let t = d.terminator in
    texts_free t i l (knows_repetition (field (isa i) 12) && not (eqb (get_or i 82 0) 85)) n
    (all_weaken (all (valid d)) (free t) (all_weaken (valid d) (λ b. not (eqb b t)) (valid_free d)) (text_fields (repetition_in i) (isa i)) v)

pub header : (i : Bytes) → between 106 65536 (length i) ≡ true → has_isa i ≡ true → good_marks (marks (delimiters i)) ≡ true
    → good_isa (delimiters i) (isa i) ≡ true → Header i
unfolding has_isa good_marks good_isa delimiters
header i sized opened marked headed =
    let d = delimiters i in
    let n = length i in
    let differ = marks_differ d (and_left (distinct (marks d)) (all plain (marks d)) marked) in
    let v = all (all (valid d)) (text_fields d.repetition (isa i)) in
    let long = leb-true 106 n (and_left (leb 106 n) (leb n 65536) sized) in
    let nine = digits 9 9 (field (isa i) 13) in
    let pti = member (field (isa i) 15) (ascii "P" ∷ ascii "T" ∷ ascii "I" ∷ []) in
    record {
      long = long;
      short = leb-true n 65536 (and_right (leb 106 n) (leb n 65536) sized);
      separated = and_right (same (take 3 i) (ascii "ISA")) (all (λ at. eqb (get_or i at 0) (get_or i 3 0)) separators) opened;
      fields = fields_free i long differ.2 (and_left v nine (and_left (v && nine) pti headed));
      element≢ = differ.0;
      component≢ = differ.1;
    }

-- the rules 1 to 8
abbrev pub to_eight : Bytes → Call → List Rule
to_eight i call =
    let d = delimiters i in
    let ss = segments d i in
    call_rules call ++ head_rules i ++ end_rules d i
    ++ envelope_rules most_groups ss ++ trailer_rules (last [] ss) (length (groups_of ss)) (field (isa i) 13)

-- none of the refusals 1 to 8
pub record Passed (i : Bytes) (call : Call) : Type 0 where
  pub numbers : good_call call ≡ true
  pub header : Header i
  pub opened : has_isa i ≡ true
  pub marked : good_marks (marks (delimiters i)) ≡ true
  pub headed : good_isa (delimiters i) (isa i) ≡ true
  pub ends : last 0 i ≡ (delimiters i).terminator
  pub envelope : enveloped most_groups (segments (delimiters i) i) ≡ true
  pub two : has_two (last [] (segments (delimiters i) i)) ≡ true
  pub closed : closes (last [] (segments (delimiters i) i)) (field (isa i) 13) ≡ true
  pub counted : counts_groups (length (groups_in i)) (last [] (segments (delimiters i) i)) ≡ true

pub passed : (i : Bytes) (call : Call) → first (to_eight i call) ≡ 0 → Passed i call
unfolding call_rules head_rules end_rules envelope_rules trailer_rules
passed i call e =
    let d = delimiters i in
    let r = silent (to_eight i call) tt e in
    let sized = not-false (between 106 65536 (length i)) r.1.0 in
    let opened = not-false (has_isa i) r.1.1.0 in
    let marked = not-false (good_marks (marks d)) r.1.1.1.0 in
    let headed = not-false (good_isa d (isa i)) r.1.1.1.1.0 in
    record {
      numbers = not-false (good_call call) r.0;
      header = header i sized opened marked headed;
      opened = opened;
      marked = marked;
      headed = headed;
      ends = eqb-true (last 0 i) d.terminator (not-false (eqb (last 0 i) d.terminator) r.1.1.1.1.1.0);
      envelope = not-false _ r.1.1.1.1.1.1.0;
      two = not-false _ r.1.1.1.1.1.1.1.0;
      closed = not-false _ r.1.1.1.1.1.1.1.1.0;
      counted = not-false _ r.1.1.1.1.1.1.1.1.1.0;
    }

-- none of the refusals 1 to 13
pub record Clear (i : Bytes) (call : Call) : Type 0 where
  pub passed : Passed i call
  pub groups : Each (λ g. first (group_rules (delimiters i) g) ≡ 0) (groups_in i)

-- where no rule of the groups applies, each group has no refusal
groups_silent : (d : Delimiters) (gs : List Group) → Silent (groups_rules d gs) → Each (λ g. first (group_rules d g) ≡ 0) gs
unfolding groups_rules group_rules header_rules answer_rules set_rules Each first
groups_silent d [] r = tt
groups_silent d (g ∷ gs) r =
    (rw (r.0, r.1.0, r.1.1.0, r.1.1.1.0, r.1.1.1.1.0), groups_silent d gs r.1.1.1.1.1)

-- no rule of 1 to 8 gives 0
pub eight_numbers : (i : Bytes) (call : Call) → T (numbered (to_eight i call))
unfolding call_rules head_rules end_rules envelope_rules trailer_rules
eight_numbers i call = tt

pub clear : (i : Bytes) (call : Call) → refusal i call ≡ 0 → Clear i call
unfolding refusal refusal_rules
clear i call e =
    let d = delimiters i in
    let gs = groups_in i in
    let absent = first_append_none (to_eight i call) (groups_rules d gs) (eight_numbers i call) e in
    record { passed = passed i call absent.0; groups = groups_silent d gs (silent (groups_rules d gs) (groups_numbers d gs) absent.1) }

-- 3. The first segment is ISA: 105 bytes, and the terminator is byte 105.
terminator_free : (i : Bytes) (s t : ℕ) (es : List ℕ) → eqb s t ≡ false → all (λ e. eqb (get_or i e 0) s) es ≡ true
    → all (λ e. not (eqb (get_or i e 0) t)) es ≡ true
terminator_free i s t es n e =
    all_weaken (λ e. eqb (get_or i e 0) s) (λ e. not (eqb (get_or i e 0) t)) (λ x h. rw (eqb-true (get_or i x 0) s h, n)) es e

-- all bytes before ISA16, by its fields and its separators
isa_covered : (p : ℕ → Bool) (i : Bytes) → 104 ≤ length i → all (all p) (isa i) ≡ true → all (λ e. p (get_or i e 0)) separators ≡ true
    → all p (take 104 i) ≡ true
unfolding isa separators
isa_covered p i l e f = covered p i 0 separators refl l e f

module _ (i : Bytes) (h : Header i) where
  isa_free : free (delimiters i).terminator (take 105 i) ≡ true
  unfolding delimiters all
  isa_free =
      let d = delimiters i in
      let p : ℕ → Bool = λ b. not (eqb b d.terminator) in
      let l : 104 < length i = omega (arith, h.long) in
      let l' : 104 ≤ length i = omega (arith, h.long) in
      rw (take-suc i 104 0 l)
      (all_append p (take 104 i) (get_or i 104 0 ∷ [])
      (isa_covered p i l' h.fields
      (terminator_free i (get_or i 3 0) d.terminator separators h.element≢ h.separated))
      (rw h.component≢))

  terminated : take 106 i ≡ take 105 i ++ (delimiters i).terminator ∷ []
  unfolding delimiters
  terminated = let l : 105 < length i = omega (arith, h.long) in take-suc i 105 0 l

  -- whatever follows the 106 bytes, they are cut into the same first segment
  pub first_cut : (ys : Bytes) → segments (delimiters i) (take 106 i ++ ys) ≡ split (delimiters i).element (take 105 i) ∷ segments (delimiters i) ys
  unfolding segments
  first_cut ys =
      rw (terminated, append_assoc (take 105 i) ((delimiters i).terminator ∷ []) ys, pieces_step (delimiters i).terminator (take 105 i) ys isa_free)

  pub first_segment : get_or (segments (delimiters i) i) 0 [] ≡ split (delimiters i).element (take 105 i)
  first_segment =
      ap (λ (b : Bytes). get_or (segments (delimiters i) b) 0 []) (sym (take-append-drop 106 i)) ∙ rw (first_cut (drop 106 i))

  pub rest_cut : segments (delimiters i) i ≡ get_or (segments (delimiters i) i) 0 [] ∷ segments (delimiters i) (drop 106 i)
  rest_cut =
      ap (segments (delimiters i)) (sym (take-append-drop 106 i)) ∙ first_cut (drop 106 i)
      ∙ ap (λ (s : Segment). s ∷ segments (delimiters i) (drop 106 i)) (sym first_segment)

-- 4. ISA, the groups one after the other, and IEA.
-- Segments are pieces that end with GE, and then a piece without GE or nothing.
data Cut : List Segment → Type 0 where
  no_piece : Cut []
  open_piece : (x : Segment) (xs : List Segment) → all is_open (x ∷ xs) ≡ true → Cut (x ∷ xs)
  closed_piece : (xs : List Segment) (ge : Segment) (rest : List Segment) → all is_open xs ≡ true → is_ge ge ≡ true → Cut rest → Cut (xs ++ ge ∷ rest)

-- one segment more in front
cut_one : (s : Segment) {ss : List Segment} (b : Bool) → is_ge s ≡ b → Cut ss → Cut (s ∷ ss)
unfolding all
cut_one s {ss} true p c = closed_piece [] s ss refl p c
cut_one s false p no_piece = open_piece s [] (rw p)
cut_one s false p (open_piece x xs o) = open_piece s (x ∷ xs) (all_cons is_open s (x ∷ xs) (rw p) o)
cut_one s false p (closed_piece xs ge rest o e c) = closed_piece (s ∷ xs) ge rest (all_cons is_open s xs (rw p) o) e c

cut_all : (ss : List Segment) → Cut ss
cut_all [] = no_piece
cut_all (s ∷ ss) = cut_one s (is_ge s) refl (cut_all ss)

-- the groups of the pieces
abbrev groups_from : List Segment → List Group
groups_from ss = map group_from (cut_after_ge ss)

-- one after the other, they are the segments again
flat_from : {ss : List Segment} → Cut ss → flat_groups (groups_from ss) ≡ ss
unfolding cut_after_ge flat_groups all
flat_from no_piece = refl
flat_from (open_piece x xs o) = rw (cut_open x xs o, group_open x xs (all_tail is_open x xs o)) (ap (λ (l : List Segment). x ∷ l) (append-nil xs))
flat_from (closed_piece [] ge rest o e c) = rw (cut_closed [] ge rest refl e, group_open ge [] refl, flat_from c)
flat_from (closed_piece (x ∷ xs) ge rest o e c) = rw (cut_closed (x ∷ xs) ge rest o e, group_closed x xs ge e, flat_from c)

-- GS is not GE
pub gs_open : (s : Segment) → is_named (ascii "GS") s ≡ true → is_ge s ≡ false
unfolding same
gs_open s p = rw (same→eq (field s 0) (ascii "GS") p)

-- where they are whole, only the last may lack its GE
chain_from : {ss : List Segment} → Cut ss → all is_whole_group (groups_from ss) ≡ true → Chain (groups_from ss)
unfolding cut_after_ge
chain_from no_piece w = no_group
chain_from (open_piece x xs o) w =
    rw (cut_open x xs o, group_open x xs (all_tail is_open x xs o))
    (open_group (all_head is_open x xs o) (all_tail is_open x xs o))
chain_from (closed_piece [] ge rest o e c) w =
    let g : Group = record { header = ge; body = []; trailer = None } in
    let whole = all_head is_whole_group g (groups_from rest) (rw (cut_closed [] ge rest o e, group_open ge [] o) at w) in
    absurd (false≢true (sym (gs_open ge (and_left (is_named (ascii "GS") ge) (all is_outer []) whole)) ∙ e))
chain_from (closed_piece (x ∷ xs) ge rest o e c) w =
    let g : Group = record { header = x; body = xs; trailer = Some ge } in
    let whole = all_tail is_whole_group g (groups_from rest) (rw (cut_closed (x ∷ xs) ge rest o e, group_closed x xs ge e) at w) in
    rw (cut_closed (x ∷ xs) ge rest o e, group_closed x xs ge e)
    (closed_group (all_head is_open x xs o) (all_tail is_open x xs o) e (chain_from c whole))

-- a first segment, groups of which only the last may lack its GE, and a last segment
pub record Parts (ss : List Segment) : Type 0 where
  pub whole : ss ≡ get_or ss 0 [] ∷ (flat_groups (groups_of ss) ++ last [] ss ∷ [])
  pub chain : Chain (groups_of ss)

parts : (limit : ℕ) (ss : List Segment) → between 1 limit (length (groups_of ss)) ≡ true → all is_whole_group (groups_of ss) ≡ true → Parts ss
unfolding groups_of front cut_after_ge last
parts limit [] n w = absurd (false≢true n)
parts limit (a ∷ []) n w = absurd (false≢true n)
parts limit (a ∷ (b ∷ cs)) n w =
    let c = cut_all (front (b ∷ cs)) in
    record {
      whole = ap (λ (l : List Segment). a ∷ l) (sym (front_last a b cs) ∙ ap (λ (l : List Segment). l ++ last b cs ∷ []) (sym (flat_from c)));
      chain = chain_from c w;
    }

-- an interchange that passes 1 to 8 has whole groups
pub passed_whole : (i : Bytes) (call : Call) → Passed i call → all is_whole_group (groups_in i) ≡ true
unfolding enveloped
passed_whole i call p =
    let ss = segments (delimiters i) i in
    let iea = is_named (ascii "IEA") (last [] ss) in
    let counted = between 1 most_groups (length (groups_of ss)) in
    and_right (iea && counted) (all is_whole_group (groups_of ss)) p.envelope

-- and it has these parts
pub passed_parts : (i : Bytes) (call : Call) → Passed i call → Parts (segments (delimiters i) i)
unfolding enveloped
passed_parts i call p =
    let ss = segments (delimiters i) i in
    let iea = is_named (ascii "IEA") (last [] ss) in
    let counted = between 1 most_groups (length (groups_of ss)) in
    parts most_groups ss (and_right iea counted (and_left (iea && counted) (all is_whole_group (groups_of ss)) p.envelope)) (passed_whole i call p)

-- a group of an interchange that is not refused: its segments are its sets, one after the other
pub record Made (g : Group) : Type 0 where
  pub body : g.body ≡ flat (sets g)
  pub cut : Sets (sets g)

group_made : (d : Delimiters) (g : Group) → is_whole_group g ≡ true → first (group_rules d g) ≡ 0 → Made g
unfolding group_rules header_rules answer_rules set_rules
group_made d g w e =
    let gs = is_named (ascii "GS") g.header in
    let r = silent (group_rules d g) tt e in
    record {
      body = sym (flat_sets g.body r.1.1.0);
      cut = sets_cut g.body (and_right gs (all is_outer g.body) w);
    }

groups_made : (d : Delimiters) (gs : List Group) → all is_whole_group gs ≡ true → Each (λ g. first (group_rules d g) ≡ 0) gs → Each Made gs
unfolding Each
groups_made d [] w e = tt
groups_made d (g ∷ gs) w e =
    (group_made d g (all_head is_whole_group g gs w) e.0, groups_made d gs (all_tail is_whole_group g gs w) e.1)

-- an interchange that is not refused has such groups
pub made : (i : Bytes) (call : Call) → Clear i call → Each Made (groups_in i)
made i call c = groups_made (delimiters i) (groups_in i) (passed_whole i call c.passed) c.groups

-- 5. The other way: groups between ISA and IEA are the groups of these segments.
module _ (isa iea : Segment) where
  abbrev pub around : List Group → List Segment
  around gs = isa ∷ (flat_groups gs ++ iea ∷ [])

  pub groups_around : {gs : List Group} → Chain gs → groups_of (around gs) ≡ gs
  unfolding groups_of
  groups_around {gs} c = rw (front_snoc (flat_groups gs) iea) (cut_groups c)

  pub last_around : (gs : List Group) → last [] (around gs) ≡ iea
  unfolding last
  last_around gs = last_snoc isa (flat_groups gs) iea
