-- Demand 3, proved: one spoiled set stays one spoiled set, group by group.
use mathlib.Core.Path.{◌≡◌, refl, sym, ◌∙◌, ap, subst}
use mathlib.Core.Bool.{Bool, true, false, ◌&&◌, false≢true}
use mathlib.Core.List.{List, [], ◌∷◌, ◌++◌, map, append-nil, append_assoc}
use Rattle.std.specs.Prelude.{Option, Ok, option_to_list}
use Prim.Native.Nat.{ℕ, zero, suc, ◌+◌, ◌≤◌, ◌<◌}
use native.Mathlib.Omega.{arith}
use native.Mathlib.Nat.{not-suc-le-zero, le_of_suc-le-suc}
use borrow.Author.Tests.{le-leb, eqb-true}
use lib.Dec.{eqb}
use lib.ListN.{length, take, drop, get_or, take-append-drop, length-append}
use lib.Seq.{take_at, length-take-le}
use Rattle.rules.specs.Base.{Bytes, ascii, all, null, last, between, first}
use Rattle.rules.specs.Cutting.{Segment, is_named, delimiters, isa, pieces, segments}
use Rattle.rules.specs.Numbers.{padded}
use Rattle.rules.specs.Sets.{Set, control_of, set_report, SetReport, outside}
use Rattle.rules.specs.Tables.{Table}
use Rattle.rules.specs.Groups.{Group, groups_of, sets, table_in, set_reports, group_codes, GroupReport, group_report}
use Rattle.rules.specs.Refusals.{has_isa, good_st, head_rules, end_rules, is_whole_group, enveloped, envelope_rules, set_rules, group_rules, groups_rules, refusal_rules, refusal}
use Rattle.rules.specs.Response.{fields_out, segment_out, out, block, blocks, ak1, ak9, se_out, told, transaction_set, transaction_sets, first_header, respond, response}
use Rattle.rules.specs.Refused.{refused}
use Rattle.rules.proofs.Facts.{numbered_refusal}
use Rattle.rules.specs.Answers.{functional_acknowledgment, Answer, answer, number, buffer}
use Rattle.rules.specs.Damage.{is_whole, is_inner, is_filling, Damaged, done, kept, spoiled, refilled, flat, with_sets, DamagedGroups, no_group, next_group, groups_in, flat_groups, rebuilt, opening, closing, acknowledgment_of, acknowledgments_from, acknowledgments_in, beginning, ending, blocks_of, joined, GroupStays, Stays}
use Rattle.rules.specs.declared.Call.{Call}
use Rattle.rules.specs.declared.Delimiters.{Delimiters}
use Rattle.rules.proofs.Logic.{and_left, and_right, all_head, all_tail, all_cons, all_append, all_left, all_right, all_weaken, last_snoc, Each}
use Rattle.rules.proofs.Cuts.{segments_out, segments_whole, out_segments, out_append}
use Rattle.rules.proofs.SetLaws.{is_outer, Sets, no_set, more, sets_flat, outer_flat, outside_flat}
use Rattle.rules.proofs.GroupLaws.{is_open, outer_open, Chain, open_group, closed_group}
use Rattle.rules.proofs.GroupLaws as laws
use Rattle.rules.proofs.Envelope.{delimiters_head, has_isa_head, isa_head, Passed, clear, passed_parts, Made, made, first_cut, first_segment, rest_cut, around, groups_around, last_around}

-- 1. What damage leaves alone.
module _ (d : Delimiters) where
  damaged_sets : {ss ts : List Set} → Damaged d ss ts → Sets ss → Sets ts
  damaged_sets done no_set = no_set
  damaged_sets (kept r) (more w ws) = more w (damaged_sets r ws)
  damaged_sets (spoiled body f r) (more w ws) =
      more (record { header = w.header; body = all_weaken (is_filling d) is_inner (λ s. and_right (is_whole d s) (is_inner s)) body f; trailer = w.trailer })
      (damaged_sets r ws)

  -- the segments of a set and of those after it are whole
  module _ (s : Set) (ss : List Set) (e : all (is_whole d) (flat (s ∷ ss)) ≡ true) where
    after_header : all (is_whole d) (s.body ++ (option_to_list s.trailer ++ flat ss)) ≡ true
    unfolding flat
    after_header = all_tail (is_whole d) s.header (s.body ++ (option_to_list s.trailer ++ flat ss)) e

    after_body : all (is_whole d) (option_to_list s.trailer ++ flat ss) ≡ true
    after_body = all_right (is_whole d) s.body (option_to_list s.trailer ++ flat ss) after_header

    rest_whole : all (is_whole d) (flat ss) ≡ true
    rest_whole = all_right (is_whole d) (option_to_list s.trailer) (flat ss) after_body

    body_whole : all (is_whole d) s.body ≡ true
    body_whole = all_left (is_whole d) s.body (option_to_list s.trailer ++ flat ss) after_header

    refill_whole : (body : List Segment) (ts : List Set) → all (is_whole d) body ≡ true → all (is_whole d) (flat ts) ≡ true
        → all (is_whole d) (flat (refilled s body ∷ ts)) ≡ true
    unfolding flat
    refill_whole body ts b f =
        let w = is_whole d in
        all_cons w s.header (body ++ (option_to_list s.trailer ++ flat ts)) (all_head w s.header (s.body ++ (option_to_list s.trailer ++ flat ss)) e)
        (all_append w body (option_to_list s.trailer ++ flat ts) b
        (all_append w (option_to_list s.trailer) (flat ts) (all_left w (option_to_list s.trailer) (flat ss) after_body) f))

  damaged_whole : {ss ts : List Set} → Damaged d ss ts → all (is_whole d) (flat ss) ≡ true → all (is_whole d) (flat ts) ≡ true
  damaged_whole done e = e
  damaged_whole (kept {s} {ss} {ts} r) e =
      refill_whole s ss e s.body ts (body_whole s ss e) (damaged_whole r (rest_whole s ss e))
  damaged_whole (spoiled {s} {ss} {ts} body f r) e =
      refill_whole s ss e body ts (all_weaken (is_filling d) (is_whole d) (λ x. and_left (is_whole d x) (is_inner x)) body f)
      (damaged_whole r (rest_whole s ss e))

  count_stays : {ss ts : List Set} → Damaged d ss ts → length ts ≡ length ss
  count_stays done = refl
  count_stays (kept r) = ap suc (count_stays r)
  count_stays (spoiled body f r) = ap suc (count_stays r)

  null_stays : {ss ts : List Set} → Damaged d ss ts → null ts ≡ null ss
  null_stays done = refl
  null_stays (kept r) = refl
  null_stays (spoiled body f r) = refl

  headers_stay : {ss ts : List Set} → Damaged d ss ts → all (λ s. good_st d s.header) ts ≡ all (λ s. good_st d s.header) ss
  unfolding all
  headers_stay done = refl
  headers_stay (kept {s} r) = ap (λ (b : Bool). good_st d s.header && b) (headers_stay r)
  headers_stay (spoiled {s} body f r) = ap (λ (b : Bool). good_st d s.header && b) (headers_stay r)

  -- a set's block depends on the set, its table and the ST02 of earlier sets only
  abbrev written : (Set → Option Table) → List Bytes → List Set → List Bytes
  written table earlier ss = map (λ r. out d (block r)) (set_reports d table earlier ss)

  block_stays : (table : Set → Option Table) {ss ts : List Set} → Damaged d ss ts → (earlier : List Bytes) (k : ℕ) (x : Set) → get_or ts k x ≡ get_or ss k x
      → get_or (written table earlier ts) k [] ≡ get_or (written table earlier ss) k []
  unfolding set_reports
  block_stays table done earlier k x u = refl
  block_stays table (kept r) earlier zero x u = refl
  block_stays table (kept {s} r) earlier (suc k) x u = block_stays table r (control_of s ∷ earlier) k x u
  block_stays table (spoiled body f r) earlier zero x u = ap (λ (y : Set). out d (block (set_report d (table y) earlier y))) u
  block_stays table (spoiled {s} body f r) earlier (suc k) x u = block_stays table r (control_of s ∷ earlier) k x u

-- 2. The bytes of a 997 and of a response: what precedes the blocks or the 997s, these, and what follows them.
module _ (d : Delimiters) where
  out_blocks : (rs : List SetReport) → out d (blocks rs) ≡ joined (map (λ r. out d (block r)) rs)
  unfolding out blocks joined
  out_blocks [] = refl
  out_blocks (r ∷ rs) = rw (out_append d (block r) (blocks rs), out_blocks rs)

  -- three lists of segments, one after the other
  out_three : (xs ys zs : List Segment) → out d (xs ++ (ys ++ zs)) ≡ out d xs ++ out d ys ++ out d zs
  out_three xs ys zs = rw (out_append d xs (ys ++ zs), out_append d ys zs, append_assoc (out d xs) (out d ys) (out d zs))

  transaction_parts : (st02 : Bytes) (r : GroupReport) → transaction_set st02 r ≡ beginning st02 r ++ (blocks r.sets ++ ending st02 r)
  unfolding transaction_set told beginning ending
  transaction_parts st02 r = rw (append_assoc (blocks r.sets) (ak9 r ∷ []) (se_out (length (told st02 r) + 1) st02 ∷ []))

  -- A program that puts AK9 before the blocks, or leaves one out, is shut out.
  pub acknowledgment_parts : (n : ℕ) (g : Group)
      → acknowledgment_of d n g
      ≡ out d (beginning (padded 4 n) (group_report d g)) ++ joined (blocks_of d g) ++ out d (ending (padded 4 n) (group_report d g))
  unfolding acknowledgment_of blocks_of
  acknowledgment_parts n g =
      let r = group_report d g in
      ap (out d) (transaction_parts (padded 4 n) r)
      ∙ out_three (beginning (padded 4 n) r) (blocks r.sets) (ending (padded 4 n) r)
      ∙ rw (out_blocks r.sets)

  out_acknowledgments : (n : ℕ) (gs : List Group) → out d (transaction_sets n (map (group_report d) gs)) ≡ joined (acknowledgments_from d n gs)
  unfolding out transaction_sets joined acknowledgments_from acknowledgment_of
  out_acknowledgments n [] = refl
  out_acknowledgments n (g ∷ gs) =
      rw (
        out_append d (transaction_set (padded 4 n) (group_report d g)) (transaction_sets (n + 1) (map (group_report d) gs)),
        out_acknowledgments (n + 1) gs,
      )

respond_parts : (i : Bytes) (call : Call)
    → respond i (groups_in i) call ≡ opening i call ++ (transaction_sets 1 (map (group_report (delimiters i)) (groups_in i)) ++ closing i call)
unfolding respond opening closing
respond_parts i call = refl

-- A program that leaves the 997 of a group out, or puts it at another place, is shut out.
pub response_parts : (i : Bytes) (call : Call)
    → response i call
    ≡ out (delimiters i) (opening i call) ++ joined (acknowledgments_in i) ++ out (delimiters i) (closing i call)
unfolding response
response_parts i call =
    let d = delimiters i in
    let gs = groups_in i in
    ap (out d) (respond_parts i call)
    ∙ out_three d (opening i call) (transaction_sets 1 (map (group_report d) gs)) (closing i call)
    ∙ rw (out_acknowledgments d 1 gs)

-- 3. What damage to the sets of one group leaves alone.
-- The blocks of a group are what is reported of its sets, by its GS. A program in which a block depends on GE or on another group is shut out.
pub blocks_written : (d : Delimiters) (g : Group) → blocks_of d g ≡ map (λ r. out d (block r)) (set_reports d (table_in g.header) [] (sets g))
unfolding blocks_of group_report
blocks_written d g = refl

-- a group with its own sets in their place is itself
pub own_sets : {g : Group} → Made g → with_sets g (sets g) ≡ g
own_sets {g} m = ap (λ (body : List Segment). record { header = g.header; body = body; trailer = g.trailer }) (sym m.body)

module _ (d : Delimiters) {g : Group} (m : Made g) {after : List Set} (r : Damaged d (sets g) after) where
  well_after : Sets after
  well_after = damaged_sets d r m.cut

  -- the sets that were put into it are its sets
  pub sets_after : sets (with_sets g after) ≡ after
  sets_after = sets_flat well_after

  -- none of their segments is GE
  after_open : all is_open (flat after) ≡ true
  after_open = all_weaken is_outer is_open outer_open (flat after) (outer_flat well_after)

  -- what the refusals and the report read of it is as it was
  same_whole : is_whole_group (with_sets g after) ≡ is_whole_group g
  same_whole =
      ap (λ (b : Bool). is_named (ascii "GS") g.header && b)
      (outer_flat well_after ∙ sym (ap (all is_outer) m.body ∙ outer_flat m.cut))

  same_group_rules : group_rules d (with_sets g after) ≡ group_rules d g
  unfolding group_rules set_rules
  same_group_rules =
      let outside_before : outside g.body ≡ false = ap outside m.body ∙ outside_flat m.cut in
      rw (outside_flat well_after, sets_after, outside_before, null_stays d r, headers_stay d r)

  same_codes : (group_report d (with_sets g after)).codes ≡ (group_report d g).codes
  unfolding group_report group_codes
  same_codes = rw (sets_after, count_stays d r)

  same_received : (group_report d (with_sets g after)).received ≡ (group_report d g).received
  unfolding group_report
  same_received = rw (sets_after, count_stays d r)

  same_beginning : (st02 : Bytes) → beginning st02 (group_report d (with_sets g after)) ≡ beginning st02 (group_report d g)
  unfolding beginning group_report ak1
  same_beginning st02 = refl

  group_stays : (n : ℕ) → GroupStays d n g (with_sets g after)
  group_stays n = record {
    put = λ ss q e. ap sets e ∙ sets_flat (damaged_sets d q m.cut);
    written = acknowledgment_parts d n (with_sets g after) ∙ rw (same_beginning (padded 4 n));
    untouched = λ k x u.
        rw (blocks_written d (with_sets g after), blocks_written d g, sets_after)
        (block_stays d (table_in g.header) r [] k x (rw sets_after at u));
    received = same_received;
    codes = same_codes;
  }

-- 4. What damage to any groups leaves alone.
module _ (d : Delimiters) where
  pub groups_count : {gs hs : List Group} → DamagedGroups d gs hs → length hs ≡ length gs
  groups_count no_group = refl
  groups_count (next_group after r rs) = ap suc (groups_count rs)

  same_first : {gs hs : List Group} → DamagedGroups d gs hs → first_header hs ≡ first_header gs
  same_first no_group = refl
  same_first (next_group after r rs) = refl

  -- an untouched group has its old 997
  acknowledgment_stays : {gs hs : List Group} → DamagedGroups d gs hs → (n k : ℕ) (x : Group) → get_or hs k x ≡ get_or gs k x
      → get_or (acknowledgments_from d n hs) k [] ≡ get_or (acknowledgments_from d n gs) k []
  unfolding acknowledgments_from
  acknowledgment_stays no_group n k x u = refl
  acknowledgment_stays (next_group after r rs) n zero x u = ap (acknowledgment_of d n) u
  acknowledgment_stays (next_group after r rs) n (suc k) x u = acknowledgment_stays rs (n + 1) k x u

  -- the refusals stay
  all_whole : {gs hs : List Group} → DamagedGroups d gs hs → Each Made gs → all is_whole_group hs ≡ all is_whole_group gs
  unfolding Each all
  all_whole no_group m = refl
  all_whole (next_group after r rs) m = rw (same_whole d m.0 r, all_whole rs m.1)

  same_groups_rules : {gs hs : List Group} → DamagedGroups d gs hs → Each Made gs → groups_rules d hs ≡ groups_rules d gs
  unfolding Each groups_rules
  same_groups_rules no_group m = refl
  same_groups_rules (next_group after r rs) m = rw (same_group_rules d m.0 r, same_groups_rules rs m.1)

  -- the base's statement holds of each group
  groups_stay : {gs hs : List Group} → DamagedGroups d gs hs → Each Made gs → (n k : ℕ) (x : Group) → k < length gs
      → GroupStays d n (get_or gs k x) (get_or hs k x)
  unfolding Each
  groups_stay no_group m n k x h = absurd (not-suc-le-zero h)
  groups_stay (next_group after r rs) m n zero x h = group_stays d m.0 r n
  groups_stay (next_group after r rs) m n (suc k) x h = groups_stay rs m.1 n k x (le_of_suc-le-suc h)

  -- after ISA and before IEA they are cut into the same groups again
  chain_stays : {gs hs : List Group} → DamagedGroups d gs hs → Each Made gs → Chain gs → Chain hs
  unfolding Each
  chain_stays no_group m laws.no_group = laws.no_group
  chain_stays (next_group after r no_group) m (open_group g o) = open_group g (after_open d m.0 r)
  chain_stays (next_group after r rs) m (closed_group g o e c) = closed_group g (after_open d m.0 r) e (chain_stays rs m.1 c)

  -- and their segments are whole
  groups_whole : {gs hs : List Group} → DamagedGroups d gs hs → Each Made gs → all (is_whole d) (flat_groups gs) ≡ true → all (is_whole d) (flat_groups hs) ≡ true
  unfolding Each flat_groups
  groups_whole no_group m e = e
  groups_whole (next_group {g} {gs} {hs} after r rs) m e =
      let w = is_whole d in
      let rest = g.body ++ (option_to_list g.trailer ++ flat_groups gs) in
      let tail = all_tail w g.header rest e in
      let end = all_right w g.body (option_to_list g.trailer ++ flat_groups gs) tail in
      all_cons w g.header (flat after ++ (option_to_list g.trailer ++ flat_groups hs)) (all_head w g.header rest e)
      (all_append w (flat after) (option_to_list g.trailer ++ flat_groups hs)
      (damaged_whole d r (subst (λ (l : List Segment). all w l ≡ true) m.0.body (all_left w g.body (option_to_list g.trailer ++ flat_groups gs) tail)))
      (all_append w (option_to_list g.trailer) (flat_groups hs) (all_left w (option_to_list g.trailer) (flat_groups gs) end)
      (groups_whole rs m.1 (all_right w (option_to_list g.trailer) (flat_groups gs) end))))

-- 5. Two interchanges that differ in the sets of their groups alone: what they have in common.
record Spoiled (i j : Bytes) (before after : List Group) : Type 0 where
  head : take 106 j ≡ take 106 i
  sized : between 106 65536 (length j) ≡ between 106 65536 (length i)
  ended : last 0 j ≡ last 0 i
  is : Segment
  iea : Segment
  chain : Chain before
  made : Each Made before
  damaged : DamagedGroups (delimiters i) before after
  cut : segments (delimiters i) i ≡ around is iea before
  cut' : segments (delimiters i) j ≡ around is iea after

module _ {i j : Bytes} {before after : List Group} (h : Spoiled i j before after) where
  same_delimiters : delimiters j ≡ delimiters i
  same_delimiters = sym (delimiters_head j) ∙ ap delimiters h.head ∙ delimiters_head i

  same_isa : isa j ≡ isa i
  same_isa = sym (isa_head j) ∙ ap isa h.head ∙ isa_head i

  same_has_isa : has_isa j ≡ has_isa i
  same_has_isa = sym (has_isa_head j) ∙ ap has_isa h.head ∙ has_isa_head i

  groups_before : groups_in i ≡ before
  groups_before = ap groups_of h.cut ∙ groups_around h.is h.iea h.chain

  groups_after : groups_in j ≡ after
  groups_after =
      ap (λ (d : Delimiters). groups_of (segments d j)) same_delimiters ∙ ap groups_of h.cut'
      ∙ groups_around h.is h.iea (chain_stays (delimiters i) h.damaged h.made h.chain)

  same_rules : (call : Call) → refusal_rules j call ≡ refusal_rules i call
  unfolding refusal_rules head_rules end_rules envelope_rules enveloped
  same_rules call =
      rw (
        groups_after,
        groups_before,
        same_delimiters,
        same_isa,
        same_has_isa,
        h.sized,
        h.ended,
        h.cut',
        h.cut,
        last_around h.is h.iea after,
        last_around h.is h.iea before,
        groups_count (delimiters i) h.damaged,
        all_whole (delimiters i) h.damaged h.made,
        same_groups_rules (delimiters i) h.damaged h.made,
      )

  acknowledgments_after : acknowledgments_in j ≡ acknowledgments_from (delimiters i) 1 after
  acknowledgments_after = rw (groups_after, same_delimiters)

  same_opening : (call : Call) → opening j call ≡ opening i call
  unfolding opening
  same_opening call = rw (groups_after, groups_before, same_delimiters, same_isa, same_first (delimiters i) h.damaged)

  same_closing : (call : Call) → closing j call ≡ closing i call
  unfolding closing
  same_closing call = rw (groups_after, groups_before, groups_count (delimiters i) h.damaged)

-- 6. Every answered interchange and every damage to it are such a pair.
pub out_last : (d : Delimiters) (bs : Bytes) (ss : List Segment) (s : Segment) → is_whole d s ≡ true → last 0 (bs ++ out d (ss ++ s ∷ [])) ≡ d.terminator
unfolding out
out_last d bs ss [] e = absurd (false≢true e)
out_last d bs ss (f ∷ fs) e =
    ap (λ (l : Bytes). last 0 (bs ++ l)) (out_append d ss ((f ∷ fs) ∷ []) ∙ ap (λ (l : Bytes). out d ss ++ l) (append-nil (segment_out d (f ∷ fs))))
    ∙ rw (← append_assoc bs (out d ss) (segment_out d (f ∷ fs)), ← append_assoc (bs ++ out d ss) (f ++ fields_out d fs) (d.terminator ∷ []))
    (last_snoc 0 (bs ++ out d ss ++ (f ++ fields_out d fs)) d.terminator)

last_append : (x : ℕ) (xs : Bytes) (y : ℕ) (ys : Bytes) → last x (xs ++ y ∷ ys) ≡ last y ys
unfolding last
last_append x [] y ys = refl
last_append x (z ∷ zs) y ys = last_append z zs y ys

module _ (i : Bytes) (call : Call) (p : Passed i call) where
  abbrev iea : Segment
  iea = last [] (segments (delimiters i) i)

  abbrev inside : List Group → List Segment
  inside gs = flat_groups gs ++ iea ∷ []

  cut_before : segments (delimiters i) i ≡ get_or (segments (delimiters i) i) 0 [] ∷ inside (groups_in i)
  cut_before = (passed_parts i call p).whole

  pub inside_whole : all (is_whole (delimiters i)) (inside (groups_in i)) ≡ true
  inside_whole =
      all_tail (is_whole (delimiters i)) (get_or (segments (delimiters i) i) 0 []) (inside (groups_in i))
      (subst (λ (l : List Segment). all (is_whole (delimiters i)) l ≡ true) cut_before (segments_whole (delimiters i) i))

  inside_cut : inside (groups_in i) ≡ segments (delimiters i) (drop 106 i)
  inside_cut = ap (drop 1) (sym cut_before ∙ rest_cut i p.header)

  -- writing the segments after ISA again gives the bytes after it
  rest_joins : (rest : Bytes) → drop 106 i ≡ rest → out (delimiters i) (segments (delimiters i) rest) ≡ rest
  unfolding out segments pieces
  rest_joins [] e = refl
  rest_joins (b ∷ bs) e =
      out_segments (delimiters i) b bs
      (sym (last_append 0 (take 106 i) b bs) ∙ ap (λ (l : Bytes). last 0 (take 106 i ++ l)) (sym e) ∙ ap (last 0) (take-append-drop 106 i) ∙ p.ends)

  -- the interchange with its own groups is itself
  pub rebuilt_own : rebuilt i (groups_in i) ≡ i
  unfolding rebuilt
  rebuilt_own =
      ap (λ (l : List Segment). take 106 i ++ out (delimiters i) l) inside_cut
      ∙ ap (λ (l : Bytes). take 106 i ++ l) (rest_joins (drop 106 i) refl)
      ∙ take-append-drop 106 i

  module _ (made : Each Made (groups_in i)) (after : List Group) (damaged : DamagedGroups (delimiters i) (groups_in i) after) (short : length (rebuilt i after) ≤ 65536) where
    iea_whole : is_whole (delimiters i) iea ≡ true
    iea_whole =
        let w = is_whole (delimiters i) in
        all_head w iea [] (all_right w (flat_groups (groups_in i)) (iea ∷ []) inside_whole)

    after_whole : all (is_whole (delimiters i)) (inside after) ≡ true
    after_whole =
        let w = is_whole (delimiters i) in
        let groups = flat_groups (groups_in i) in
        all_append w (flat_groups after) (iea ∷ [])
        (groups_whole (delimiters i) damaged made (all_left w groups (iea ∷ []) inside_whole))
        (all_right w groups (iea ∷ []) inside_whole)

    head_after : take 106 (rebuilt i after) ≡ take 106 i
    unfolding rebuilt
    head_after = take_at (take 106 i) (out (delimiters i) (inside after)) 106 (length-take-le 106 i p.header.long)

    long_after : 106 ≤ length (rebuilt i after)
    unfolding rebuilt
    long_after = let l = length-take-le 106 i p.header.long in simp length-append (omega arith)

    cut_after : segments (delimiters i) (rebuilt i after) ≡ get_or (segments (delimiters i) i) 0 [] ∷ inside after
    unfolding rebuilt
    cut_after =
        rw (
          first_cut i p.header (out (delimiters i) (inside after)),
          segments_out (delimiters i) p.header.element≢ (inside after) after_whole,
          first_segment i p.header,
        )

    ends_after : last 0 (rebuilt i after) ≡ last 0 i
    unfolding rebuilt
    ends_after = out_last (delimiters i) (take 106 i) (flat_groups after) iea iea_whole ∙ sym p.ends

    pair : Spoiled i (rebuilt i after) (groups_in i) after
    pair = record {
      head = head_after;
      sized =
          rw (
            le-leb 106 (length (rebuilt i after)) long_after,
            le-leb (length (rebuilt i after)) 65536 short,
            le-leb 106 (length i) p.header.long,
            le-leb (length i) 65536 p.header.short,
          );
      ended = ends_after;
      is = get_or (segments (delimiters i) i) 0 [];
      iea = iea;
      chain = (passed_parts i call p).chain;
      made = made;
      damaged = damaged;
      cut = cut_before;
      cut' = cut_after;
    }

-- 7. The demand. Whatever the buffers: an interchange is answered; any sets of any of its groups get other segments between header and trailer;
-- where the result has at most 65,536 bytes and its response fits the buffer, it is answered, and what was not touched stays.
pub answered_clear : (i lent : Bytes) (call : Call) → number (answer (functional_acknowledgment i call) (length lent)) ≡ 0 → refusal i call ≡ 0
unfolding answer
answered_clear i lent call e = go (eqb (refusal i call) 0) refl
  where
    go : (b : Bool) → eqb (refusal i call) 0 ≡ b → refusal i call ≡ 0
    go true p = eqb-true (refusal i call) 0 p
    go false p = absurd (numbered_refusal (refused (refusal i call)) (rw p at e))

pub answer_written : (i lent : Bytes) (call : Call) → refusal i call ≡ 0
    → length (response i call) ≤ length lent → answer (functional_acknowledgment i call) (length lent) ≡ Ok (length (response i call))
unfolding answer
answer_written i lent call e fits =
    rw (e, le-leb (length (response i call)) (length lent) fits)

-- A program that lets a damaged set change the 997 of another group, or the block of another set, is shut out.
pub one_spoiled : (i lent : Bytes) (call : Call)
    → number (answer (functional_acknowledgment i call) (length lent)) ≡ 0
    → (after : List Group) → DamagedGroups (delimiters i) (groups_in i) after
    → length (rebuilt i after) ≤ 65536
    → (lent' : Bytes) → length (response (rebuilt i after) call) ≤ length lent'
    → Stays i (rebuilt i after) lent' after call
unfolding refusal pair
one_spoiled i lent call e after damaged short lent' fits =
    let d = delimiters i in
    let c = clear i call (answered_clear i lent call e) in
    let m = made i call c in
    let s = pair i call c.passed m after damaged short in
    let j = rebuilt i after in
    let zero : refusal j call ≡ 0 = ap first (same_rules s call) ∙ answered_clear i lent call e in
    let acknowledged = acknowledgments_after s in
    record {
      answered = ap number (answer_written j lent' call zero fits);
      written =
          ap (λ (a : Answer). buffer a (response j call) lent') (answer_written j lent' call zero fits)
          ∙ ap (λ (l : Bytes). l ++ drop (length (response j call)) lent') (response_parts j call)
          ∙ rw (same_opening s call, same_closing s call, same_delimiters s);
      acknowledgments = acknowledged;
      groups = λ k x h. groups_stay d damaged m (k + 1) k x h;
      untouched = λ k x u. rw acknowledged (acknowledgment_stays d damaged 1 k x u);
    }
