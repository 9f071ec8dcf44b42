-- Demand 3 in bytes, over two calls: the bytes between the header and the trailer of any sets of any groups of an interchange are replaced by
-- other bytes. These are whole segments with none of the six names (ISA, GS, ST, SE, GE, IEA). Nothing else is asked but that the result has at
-- most 65,536 bytes and that its response fits the buffer. A set without a trailer is covered: what follows its header up to the next ST or the
-- group's end is replaced, and it still has no trailer.
use mathlib.Core.Path.{◌≡◌, refl, sym, ap, ◌∙◌, subst, subst⁻¹}
use mathlib.Core.Bool.{true}
use mathlib.Core.List.{List, [], ◌∷◌, ◌++◌, map, append-nil}
use Rattle.std.specs.Prelude.{Option, None, Some, option_to_list}
use Prim.Native.Nat.{ℕ, zero, suc, ◌+◌, ◌≤◌, ◌<◌}
use native.Mathlib.Nat.{not-suc-le-zero, le_of_suc-le-suc}
use lib.ListN.{length, take, get_or}
use Rattle.rules.specs.Base.{Bytes, ascii, all, last}
use Rattle.rules.specs.Cutting.{Segment, pieces, segments, delimiters}
use Rattle.rules.specs.Numbers.{padded, decimal}
use Rattle.rules.specs.Sets.{Set}
use Rattle.rules.specs.Groups.{Group, sets, table_in, set_reports, group_codes, GroupReport, group_report}
use Rattle.rules.specs.Refusals.{refusal}
use Rattle.rules.specs.Response.{segment_out, out, block, ak9, response}
use Rattle.rules.specs.Answers.{functional_acknowledgment, Allowed, answer, number, buffer, Outcome, outcome, called}
use Rattle.rules.specs.Damage.{is_whole, is_inner, is_filling, refilled, Damaged, done, kept, spoiled, flat, with_sets, DamagedGroups, no_group, next_group, groups_in, flat_groups, rebuilt, acknowledgment_of, acknowledgments_in, beginning, ending, blocks_of, joined, GroupStays}
use Rattle.rules.specs.declared.Call.{Call}
use Rattle.rules.specs.declared.Delimiters.{Delimiters}
use Rattle.rules.proofs.Logic.{all_head, all_tail, Each, each_at}
use Rattle.rules.proofs.Cuts.{segments_whole, out_segments, out_append}
use Rattle.rules.proofs.Facts.{received_counts, allowed_outcome, functional_numbered}
use Rattle.rules.proofs.Envelope.{clear, Made, made}
use Rattle.rules.proofs.Damage.{acknowledgment_parts, blocks_written, sets_after, own_sets, groups_count, rebuilt_own, answered_clear}
use Rattle.rules.proofs.Placed.{blocks_counted, acknowledgments_counted, numbered_at}
use Rattle.promises.proofs.Demands.{in_parts, in_parts_since, OneSpoiled, calls}
use Rattle.promises.proofs.Demands as demands
use Rattle.acknowledgment.proofs.acknowledge.Reads as acknowledge
use Rattle.x12.proofs.x12_acknowledge.Reads as x12_acknowledge

-- 1. What may be put in.
-- whole segments in bytes: none, or ending in the terminator
pub data Whole (d : Delimiters) : Bytes → Type 0 where
  nothing : Whole d []
  ended : (b : ℕ) (bs : Bytes) → last b bs ≡ d.terminator → Whole d (b ∷ bs)

-- bytes that may stand between a header and its trailer: whole segments, and none of them has one of the six names
pub record Filling (d : Delimiters) (bs : Bytes) : Type 0 where
  pub whole : Whole d bs
  pub inner : all is_inner (segments d bs) ≡ true

-- what is chosen for each set of a group by its index: it keeps its bytes, or gets these
abbrev pub Choice : Type 0
Choice = ℕ → Option Bytes

-- what is chosen in each group by its index
abbrev pub Choices : Type 0
Choices = ℕ → Choice

-- what is chosen for a set may stand in it
abbrev pub Fills : Delimiters → Option Bytes → Type 0
Fills d None = Unit {0}
Fills d (Some bs) = Filling d bs

-- what is chosen for the sets, or in the groups, after the first
abbrev later : {A : Type 0} → (ℕ → A) → ℕ → A
later choice k = choice (suc k)

-- 2. The interchange that comes of it, in bytes.
-- what then stands between the header and the trailer of a set
abbrev pub inner_bytes : Delimiters → Set → Option Bytes → Bytes
inner_bytes d s None = out d s.body
inner_bytes d s (Some bs) = bs

-- the bytes of sets, one set after the other: its header, what stands between, and its trailer where it has one
unfoldable pub set_bytes : Delimiters → Choice → List Set → Bytes
set_bytes d choice [] = []
set_bytes d choice (s ∷ ss) =
    segment_out d s.header ++ (inner_bytes d s (choice 0) ++ (out d (option_to_list s.trailer) ++ set_bytes d (later choice) ss))

-- the bytes of groups, one group after the other: GS, its sets, and GE where it has one
unfoldable pub group_bytes : Delimiters → Choices → List Group → Bytes
group_bytes d choices [] = []
group_bytes d choices (g ∷ gs) =
    segment_out d g.header ++ (set_bytes d (choices 0) (sets g) ++ (out d (option_to_list g.trailer) ++ group_bytes d (later choices) gs))

-- the bytes of the interchange i with what is chosen in its sets: ISA, the groups, and IEA
unfoldable pub replaced : Bytes → Choices → Bytes
replaced i choices =
    let d = delimiters i in
    take 106 i ++ (group_bytes d choices (groups_in i) ++ segment_out d (last [] (segments d i)))

-- 3. The same as groups whose sets have other segments.
-- a set with what is chosen for it
abbrev refill : Delimiters → Set → Option Bytes → Set
refill d s None = s
refill d s (Some bs) = refilled s (segments d bs)

-- the sets with what is chosen in them
unfoldable pub chosen : Delimiters → Choice → List Set → List Set
chosen d choice [] = []
chosen d choice (s ∷ ss) = refill d s (choice 0) ∷ chosen d (later choice) ss

-- a group with what is chosen in its sets
abbrev pub chosen_group : Delimiters → Choice → Group → Group
chosen_group d choice g = with_sets g (chosen d choice (sets g))

-- the groups with what is chosen in them
unfoldable pub chosen_groups : Delimiters → Choices → List Group → List Group
chosen_groups d choices [] = []
chosen_groups d choices (g ∷ gs) = chosen_group d (choices 0) g ∷ chosen_groups d (later choices) gs

-- cut and written again, whole segments are themselves
whole_out : {d : Delimiters} {bs : Bytes} → Whole d bs → out d (segments d bs) ≡ bs
unfolding out segments pieces
whole_out nothing = refl
whole_out {d} (ended b bs e) = out_segments d b bs e

both_filling : (d : Delimiters) (ss : List Segment) → all (is_whole d) ss ≡ true → all is_inner ss ≡ true → all (is_filling d) ss ≡ true
unfolding all
both_filling d [] e f = refl
both_filling d (s ∷ ss) e f =
    rw (all_head (is_whole d) s ss e, all_head is_inner s ss f) (both_filling d ss (all_tail (is_whole d) s ss e) (all_tail is_inner s ss f))

chosen_damaged : (d : Delimiters) (choice : Choice) (ss : List Set) → ((k : ℕ) → Fills d (choice k)) → Damaged d ss (chosen d choice ss)
unfolding chosen
chosen_damaged d choice [] f = done
chosen_damaged d choice (s ∷ ss) f = go (choice 0) (f 0) (chosen_damaged d (later choice) ss (λ k. f (suc k)))
  where
    go : (c : Option Bytes) → Fills d c → {ts : List Set} → Damaged d ss ts → Damaged d (s ∷ ss) (refill d s c ∷ ts)
    go None h r = kept r
    go (Some bs) h r = spoiled (segments d bs) (both_filling d (segments d bs) (segments_whole d bs) h.inner) r

chosen_out : (d : Delimiters) (choice : Choice) (ss : List Set) → ((k : ℕ) → Fills d (choice k)) → out d (flat (chosen d choice ss)) ≡ set_bytes d choice ss
unfolding chosen set_bytes flat out
chosen_out d choice [] f = refl
chosen_out d choice (s ∷ ss) f = go (choice 0) (f 0) (chosen d (later choice) ss) _ (chosen_out d (later choice) ss (λ k. f (suc k)))
  where
    parts : (body : List Segment) (bs : Bytes) (ts : List Set) (rest : Bytes) → out d body ≡ bs → out d (flat ts) ≡ rest
        → segment_out d s.header ++ out d (body ++ (option_to_list s.trailer ++ flat ts))
        ≡ segment_out d s.header ++ (bs ++ (out d (option_to_list s.trailer) ++ rest))
    parts body bs ts rest e r =
        ap (λ (l : Bytes). segment_out d s.header ++ l)
        (out_append d body (option_to_list s.trailer ++ flat ts) ∙ rw (e, out_append d (option_to_list s.trailer) (flat ts), r))

    go : (c : Option Bytes) → Fills d c → (ts : List Set) (rest : Bytes) → out d (flat ts) ≡ rest
        → out d (flat (refill d s c ∷ ts)) ≡ segment_out d s.header ++ (inner_bytes d s c ++ (out d (option_to_list s.trailer) ++ rest))
    go None h ts rest r = parts s.body (out d s.body) ts rest refl r
    go (Some bs) h ts rest r = parts (segments d bs) bs ts rest (whole_out h.whole) r

chosen_kept : (d : Delimiters) (choice : Choice) (ss : List Set) (k : ℕ) (x : Set) → choice k ≡ None → get_or (chosen d choice ss) k x ≡ get_or ss k x
unfolding chosen
chosen_kept d choice [] k x e = refl
chosen_kept d choice (s ∷ ss) zero x e = ap (refill d s) e
chosen_kept d choice (s ∷ ss) (suc k) x e = chosen_kept d (later choice) ss k x e

chosen_own : (d : Delimiters) (choice : Choice) (ss : List Set) → ((k : ℕ) → choice k ≡ None) → chosen d choice ss ≡ ss
unfolding chosen
chosen_own d choice [] n = refl
chosen_own d choice (s ∷ ss) n = rw (n 0, chosen_own d (later choice) ss (λ k. n (suc k)))

-- The same for groups.
groups_damaged : (d : Delimiters) (choices : Choices) (gs : List Group) → ((m k : ℕ) → Fills d (choices m k)) → DamagedGroups d gs (chosen_groups d choices gs)
unfolding chosen_groups
groups_damaged d choices [] f = no_group
groups_damaged d choices (g ∷ gs) f =
    next_group (chosen d (choices 0) (sets g)) (chosen_damaged d (choices 0) (sets g) (f 0)) (groups_damaged d (later choices) gs (λ m. f (suc m)))

groups_out : (d : Delimiters) (choices : Choices) (gs : List Group) → ((m k : ℕ) → Fills d (choices m k))
    → out d (flat_groups (chosen_groups d choices gs)) ≡ group_bytes d choices gs
unfolding chosen_groups group_bytes flat_groups out
groups_out d choices [] f = refl
groups_out d choices (g ∷ gs) f =
    let ts = chosen d (choices 0) (sets g) in
    let rest = flat_groups (chosen_groups d (later choices) gs) in
    ap (λ (l : Bytes). segment_out d g.header ++ l)
    (out_append d (flat ts) (option_to_list g.trailer ++ rest)
    ∙ rw (chosen_out d (choices 0) (sets g) (f 0), out_append d (option_to_list g.trailer) rest, groups_out d (later choices) gs (λ m. f (suc m))))

group_at_lem : (d : Delimiters) (choices : Choices) (gs : List Group) (m : ℕ) (w : Group) → m < length gs
    → get_or (chosen_groups d choices gs) m w ≡ chosen_group d (choices m) (get_or gs m w)
unfolding chosen_groups
group_at_lem d choices [] m w h = absurd (not-suc-le-zero h)
group_at_lem d choices (g ∷ gs) zero w h = refl
group_at_lem d choices (g ∷ gs) (suc m) w h = group_at_lem d (later choices) gs m w (le_of_suc-le-suc h)

-- a group in which nothing is replaced is itself
group_own : (d : Delimiters) (choice : Choice) {g : Group} → Made g → ((k : ℕ) → choice k ≡ None) → chosen_group d choice g ≡ g
group_own d choice {g} made n = ap (with_sets g) (chosen_own d choice (sets g) n) ∙ own_sets made

group_kept : (d : Delimiters) (choices : Choices) (gs : List Group) (m : ℕ) (w : Group) → Each Made gs → ((k : ℕ) → choices m k ≡ None)
    → get_or (chosen_groups d choices gs) m w ≡ get_or gs m w
unfolding chosen_groups Each
group_kept d choices [] m w made n = refl
group_kept d choices (g ∷ gs) zero w made n = group_own d (choices 0) made.0 n
group_kept d choices (g ∷ gs) (suc m) w made n = group_kept d (later choices) gs m w made.1 n

groups_own : (d : Delimiters) (gs : List Group) → Each Made gs → chosen_groups d (λ m k. None) gs ≡ gs
unfolding chosen_groups Each
groups_own d [] made = refl
groups_own d (g ∷ gs) made = rw (group_own d (λ k. None) made.0 (λ k. refl), groups_own d gs made.1)

-- the groups of an interchange with what is chosen in them
abbrev pub chosen_in : Bytes → Choices → List Group
chosen_in i choices = chosen_groups (delimiters i) choices (groups_in i)

rebuilt_replaced : (i : Bytes) (choices : Choices) → ((m k : ℕ) → Fills (delimiters i) (choices m k)) → rebuilt i (chosen_in i choices) ≡ replaced i choices
unfolding rebuilt replaced out
rebuilt_replaced i choices f =
    let d = delimiters i in
    let iea = last [] (segments d i) in
    ap (λ (l : Bytes). take 106 i ++ l)
    (out_append d (flat_groups (chosen_in i choices)) (iea ∷ [])
    ∙ rw (groups_out d choices (groups_in i) f, append-nil (segment_out d iea)))

-- An interchange in whose sets nothing is replaced is itself, byte for byte. Shut out: a statement of demand 3 about other bytes than those of
-- the interchange.
pub replaced_nothing : (i : Bytes) (call : Call) → refusal i call ≡ 0 → replaced i (λ m k. None) ≡ i
replaced_nothing i call e =
    let c = clear i call e in
    sym (rebuilt_replaced i (λ m k. None) (λ m k. tt))
    ∙ ap (rebuilt i) (groups_own (delimiters i) (groups_in i) (made i call c))
    ∙ rebuilt_own i call c.passed

-- 4. What stays.
-- a set, and a group, without segments, where there is none
abbrev no_set : Set
no_set = record { header = []; body = []; trailer = None }

abbrev absent_group : Group
absent_group = record { header = []; body = []; trailer = None }

-- the numbers of a call by the face for C
abbrev pub call_of : ℕ → ℕ → ℕ → Call
call_of date time control = record { date = date; time = time; control = control }

-- the bytes of an AK9 with so many sets received and these codes; AK901, AK902 and AK904 are the report's own
abbrev pub ak9_with : Delimiters → GroupReport → ℕ → List ℕ → Bytes
ak9_with d r received codes =
    segment_out d (ascii "AK9" ∷ r.verdict ∷ decimal r.included ∷ decimal received ∷ decimal r.allowed ∷ map decimal codes)

-- What stays of the 997 of group g, number n of its interchange, where other bytes are chosen for some of its sets. It was the bytes b, and is then
-- the bytes b'.
pub record GroupSpared (d : Delimiters) (n : ℕ) (g : Group) (choice : Choice) (b b' : Bytes) : Type 0 where
  -- each has the same beginning, the blocks of its sets, and its ending
  pub before : b ≡ out d (beginning (padded 4 n) (group_report d g)) ++ joined (blocks_of d g) ++ out d (ending (padded 4 n) (group_report d g))
  pub since : b'
      ≡ out d (beginning (padded 4 n) (group_report d g)) ++ joined (blocks_of d (chosen_group d choice g))
      ++ out d (ending (padded 4 n) (group_report d (chosen_group d choice g)))
  -- there are as many blocks, and a set that keeps its bytes has the block that it had, at its place among them
  pub counted : length (blocks_of d (chosen_group d choice g)) ≡ length (blocks_of d g)
  pub untouched : (k : ℕ) → choice k ≡ None → get_or (blocks_of d (chosen_group d choice g)) k [] ≡ get_or (blocks_of d g) k []
  -- every block is what the law says of its set with what is chosen in it
  pub blocks : blocks_of d (chosen_group d choice g) ≡ map (λ r. out d (block r)) (set_reports d (table_in g.header) [] (chosen d choice (sets g)))
  -- AK9, the first segment of the ending: AK903 and the codes are the same bytes
  pub ak9_before : segment_out d (get_or (ending (padded 4 n) (group_report d g)) 0 []) ≡ ak9_with d (group_report d g) (length (sets g)) (group_codes g)
  pub ak9_since : segment_out d (get_or (ending (padded 4 n) (group_report d (chosen_group d choice g))) 0 [])
      ≡ ak9_with d (group_report d (chosen_group d choice g)) (length (sets g)) (group_codes g)

-- what stays of the outcome o of a call on i in the outcome o' of a call on j, which is i with other bytes in some of its sets
pub record Spared (i j : Bytes) (choices : Choices) (lent lent' : Bytes) (call : Call) (o o' : Outcome) : Type 0 where
  -- the second call is answered too
  pub answered : o'.number ≡ 0
  -- each buffer has the same opening, the 997s of its groups, the same closing, and what was lent
  pub before : o.buffer ≡ in_parts i lent call
  pub since : o'.buffer ≡ in_parts_since i j lent' call
  -- there are as many 997s, and a group all of whose sets keep their bytes has the 997 that it had, at its place among them
  pub counted : length (acknowledgments_in j) ≡ length (acknowledgments_in i)
  pub untouched : (m : ℕ) → ((k : ℕ) → choices m k ≡ None) → get_or (acknowledgments_in j) m [] ≡ get_or (acknowledgments_in i) m []
  -- in every group each set that keeps its bytes keeps its block
  pub groups : (m : ℕ) (w : Group) → m < length (groups_in i)
      → GroupSpared (delimiters i) (m + 1) (get_or (groups_in i) m w) (choices m) (get_or (acknowledgments_in i) m []) (get_or (acknowledgments_in j) m [])

first_ending : (d : Delimiters) (st02 : Bytes) (r : GroupReport) (n : ℕ) (codes : List ℕ) → r.received ≡ n → r.codes ≡ codes
    → segment_out d (get_or (ending st02 r) 0 []) ≡ ak9_with d r n codes
unfolding ending ak9
first_ending d st02 r n codes e f = rw (e, f)

own_codes : (d : Delimiters) (g : Group) → (group_report d g).codes ≡ group_codes g
unfolding group_report
own_codes d g = refl

-- one group
module _ (d : Delimiters) (n : ℕ) {g : Group} (made : Made g) (choice : Choice) (f : (k : ℕ) → Fills d (choice k)) where
  chosen_sets : sets (chosen_group d choice g) ≡ chosen d choice (sets g)
  chosen_sets = sets_after d made (chosen_damaged d choice (sets g) f)

  group_spared : {b b' : Bytes} → b ≡ acknowledgment_of d n g → b' ≡ acknowledgment_of d n (chosen_group d choice g)
      → GroupStays d n g (chosen_group d choice g) → GroupSpared d n g choice b b'
  group_spared e e' s =
      let h = chosen_group d choice g in
      record {
        before = e ∙ acknowledgment_parts d n g;
        since = e' ∙ s.written;
        counted = blocks_counted d h ∙ sym (received_counts d h) ∙ s.received ∙ received_counts d g ∙ sym (blocks_counted d g);
        untouched = λ k u.
            s.untouched k no_set (ap (λ (ss : List Set). get_or ss k no_set) chosen_sets ∙ chosen_kept d choice (sets g) k no_set u);
        blocks = blocks_written d h ∙ ap (λ (ss : List Set). map (λ r. out d (block r)) (set_reports d (table_in g.header) [] ss)) chosen_sets;
        ak9_before = first_ending d (padded 4 n) (group_report d g) _ _ (received_counts d g) (own_codes d g);
        ak9_since = first_ending d (padded 4 n) (group_report d h) _ _ (s.received ∙ received_counts d g) (s.codes ∙ own_codes d g);
      }

-- the second call, on j, has the outcome o'; j is not too long, and its response fits the buffer
abbrev Second : Bytes → Call → Outcome → Bytes → Type 0
Second lent' call o' j = (o' ≡ called (functional_acknowledgment j call) lent') × (length j ≤ 65536) × (length (response j call) ≤ length lent')

module _ {i lent : Bytes} {call : Call} {o : Outcome} (p : o ≡ called (functional_acknowledgment i call) lent) (e : o.number ≡ 0) (choices : Choices)
    (f : (m k : ℕ) → Fills (delimiters i) (choices m k)) {lent' : Bytes} {o' : Outcome} where
  spared_rebuilt : Second lent' call o' (rebuilt i (chosen_in i choices)) → Spared i (rebuilt i (chosen_in i choices)) choices lent lent' call o o'
  unfolding Allowed
  spared_rebuilt second =
      let d = delimiters i in
      let gs = groups_in i in
      let hs = chosen_in i choices in
      let j = rebuilt i hs in
      let a = answer (functional_acknowledgment i call) (length lent) in
      let a' = answer (functional_acknowledgment j call) (length lent') in
      let left = buffer a (response i call) lent in
      let left' = buffer a' (response j call) lent' in
      let first_call : o ≡ outcome a left = p ∙ sym (allowed_outcome (functional_acknowledgment i call) lent a (functional_numbered i call) (refl, refl)) in
      let second_call : o' ≡ outcome a' left' =
      second.0 ∙ sym (allowed_outcome (functional_acknowledgment j call) lent' a' (functional_numbered j call) (refl, refl)) in
      let zero : number a ≡ 0 = ap (λ (o : Outcome). o.number) (sym first_call) ∙ e in
      let damaged = groups_damaged d choices gs f in
      let each = made i call (clear i call (answered_clear i lent call zero)) in
      let q : OneSpoiled i j hs lent lent' call a' left left' =
      demands.spoiled i lent lent' call a a' left left' (refl, refl) zero hs damaged second.1 (refl, refl) second.2 in
      let s = q.stays in
      record {
        answered = ap (λ (o : Outcome). o.number) second_call ∙ q.answered;
        before = ap (λ (o : Outcome). o.buffer) first_call ∙ q.before;
        since = ap (λ (o : Outcome). o.buffer) second_call ∙ q.since;
        counted =
            ap (λ (bs : List Bytes). length bs) s.acknowledgments ∙ acknowledgments_counted d 1 hs ∙ groups_count d damaged
            ∙ sym (acknowledgments_counted d 1 gs);
        untouched = λ m n. s.untouched m absent_group (group_kept d choices gs m absent_group each n);
        groups = λ m w h.
            let same = group_at_lem d choices gs m w h in
            let since = ap (λ (bs : List Bytes). get_or bs m []) s.acknowledgments ∙ numbered_at d 1 hs m w (rw (groups_count d damaged) h) in
            group_spared d (m + 1) (each_at Made gs m w each h) (choices m) (f m) (numbered_at d 1 gs m w h) (since ∙ ap (acknowledgment_of d (m + 1)) same)
            (subst (GroupStays d (m + 1) (get_or gs m w)) same (s.groups m w h));
      }

  -- the same on bytes that are known to be those of i with what is chosen in its sets
  spared : (j : Bytes) → j ≡ replaced i choices → Second lent' call o' j → Spared i j choices lent lent' call o o'
  spared j same_bytes second =
      let known : j ≡ rebuilt i (chosen_in i choices) = same_bytes ∙ sym (rebuilt_replaced i choices f) in
      subst⁻¹ (λ (j : Bytes). Spared i j choices lent lent' call o o') known (spared_rebuilt (subst (Second lent' call o') known second))

-- 5. Two calls of the Rattle function, with the same date, time and control number. Shut out: a program in which a set's block depends on what stands inside another
-- set, AK903 or a group's code on what stands inside any, a group's 997 on what stands in another group, or in which a damaged set has the
-- interchange refused.
pub acknowledge_spared : (κs : _) (a : _) (r : _) (s : _) → acknowledge.Post κs a r s → number r ≡ 0
    → (choices : Choices) → ((m k : ℕ) → Fills (delimiters a.0.now) (choices m k))
    → (κs' : _) (a' : _) (r' : _) (s' : _) → acknowledge.Post κs' a' r' s' → a'.0.now ≡ replaced a.0.now choices → a'.1.1.0 ≡ a.1.1.0
    → length a'.0.now ≤ 65536 → length (response a'.0.now a.1.1.0) ≤ length a'.1.0.now
    → Spared a.0.now a'.0.now choices a.1.0.now a'.1.0.now a.1.1.0
    (outcome r s.1.0.now) (outcome r' s'.1.0.now)
acknowledge_spared κs a r s p e choices f κs' a' r' s' q same_bytes same-call short fits =
    spared (calls κs a r s p) e choices f a'.0.now same_bytes
    (calls κs' a' r' s' q ∙ ap (λ (c : Call). called (functional_acknowledgment a'.0.now c) a'.1.0.now) same-call, short, fits)

-- Two calls of the face for C. Shut out: the same programs behind it.
pub x12_acknowledge_spared : (κs : _) (a : _) (r : _) (s : _) → x12_acknowledge.Post κs a r s → r ≡ 0
    → (choices : Choices) → ((m k : ℕ) → Fills (delimiters a.0.now) (choices m k))
    → (κs' : _) (a' : _) (r' : _) (s' : _) → x12_acknowledge.Post κs' a' r' s' → a'.0.now ≡ replaced a.0.now choices
    → call_of a'.1.1.0 a'.1.1.1.0 a'.1.1.1.1.0 ≡ call_of a.1.1.0 a.1.1.1.0 a.1.1.1.1.0
    → length a'.0.now ≤ 65536
    → length (response a'.0.now (call_of a.1.1.0 a.1.1.1.0 a.1.1.1.1.0)) ≤ length a'.1.0.now
    → Spared a.0.now a'.0.now choices a.1.0.now a'.1.0.now (call_of a.1.1.0 a.1.1.1.0 a.1.1.1.1.0)
    (record { number = r; size = s.1.1.1.1.1.0.now; buffer = s.1.0.now })
    (record { number = r'; size = s'.1.1.1.1.1.0.now; buffer = s'.1.0.now })
x12_acknowledge_spared κs a r s p e choices f κs' a' r' s' q same_bytes same-call short fits =
    spared p e choices f a'.0.now same_bytes (q ∙ ap (λ (c : Call). called (functional_acknowledgment a'.0.now c) a'.1.0.now) same-call, short, fits)
