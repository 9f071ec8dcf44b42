-- Demand 3, "one spoiled set stays one spoiled set", group by group: what it is to put other segments into sets of any groups of an
-- interchange, and what then stays.
use Rattle.std.specs.Prelude.{◌≡◌, Bool, true, ◌&&◌, not, List, [], ◌∷◌, ◌++◌, map, ℕ, ◌+◌, ◌<◌, eqb, length, take, drop, get_or, option_to_list}
use Rattle.rules.specs.Base.{Bytes, all, null, last}
use Rattle.rules.specs.Cutting.{Segment, delimiters, isa, segments}
use Rattle.rules.specs.Sets.{Set, is_st, is_se}
use Rattle.rules.specs.Numbers.{padded}
use Rattle.rules.specs.Groups.{Group, groups_of, sets, GroupReport, group_report}
use Rattle.rules.specs.Refusals.{is_envelope}
use Rattle.rules.specs.Response.{out, block, ak1, ak9, st_out, se_out, told, transaction_set, isa_out, gs_out, ge_out, iea_out, first_header, response}
use Rattle.rules.specs.Answers.{functional_acknowledgment, answer, number, buffer}
use Rattle.rules.specs.declared.Call.{Call}
use Rattle.rules.specs.declared.Delimiters.{Delimiters}

-- 1. The damage.
-- no byte is t
abbrev pub free : ℕ → Bytes → Bool
free t = all (λ b. not (eqb b t))

-- a whole segment: it has an id, and no field holds a separator or a terminator
abbrev pub is_whole : Delimiters → Segment → Bool
is_whole d s = not (null s) && (all (free d.element) s && all (free d.terminator) s)

-- it is none of ISA, GS, GE, IEA, ST and SE
abbrev pub is_inner : Segment → Bool
is_inner s = not (is_envelope s) && (not (is_st s) && not (is_se s))

-- a segment that may be put between a header and its trailer
abbrev pub is_filling : Delimiters → Segment → Bool
is_filling d s = is_whole d s && is_inner s

-- the set with other segments between its header and its trailer
abbrev pub refilled : Set → List Segment → Set
refilled s body = record { header = s.header; body = body; trailer = s.trailer }

-- the same sets in the same order, but that any of them may be refilled
pub data Damaged (d : Delimiters) : List Set → List Set → Type 0 where
  done : Damaged d [] []
  kept : {s : Set} {ss ts : List Set} → Damaged d ss ts → Damaged d (s ∷ ss) (s ∷ ts)
  spoiled : {s : Set} {ss ts : List Set} (body : List Segment) → all (is_filling d) body ≡ true → Damaged d ss ts
      → Damaged d (s ∷ ss) (refilled s body ∷ ts)

-- the segments of sets, one set after the other
unfoldable pub flat : List Set → List Segment
flat [] = []
flat (s ∷ ss) = s.header ∷ (s.body ++ (option_to_list s.trailer ++ flat ss))

-- the group with these sets in the place of its own
abbrev pub with_sets : Group → List Set → Group
with_sets g ss = record { header = g.header; body = flat ss; trailer = g.trailer }

-- the same groups in the same order, but that sets of any of them may be refilled
pub data DamagedGroups (d : Delimiters) : List Group → List Group → Type 0 where
  no_group : DamagedGroups d [] []
  next_group : {g : Group} {gs hs : List Group} (ss : List Set) → Damaged d (sets g) ss → DamagedGroups d gs hs
      → DamagedGroups d (g ∷ gs) (with_sets g ss ∷ hs)

-- the groups of an interchange
abbrev pub groups_in : Bytes → List Group
groups_in i = groups_of (segments (delimiters i) i)

-- the segments of groups, one group after the other
unfoldable pub flat_groups : List Group → List Segment
flat_groups [] = []
flat_groups (g ∷ gs) = g.header ∷ (g.body ++ (option_to_list g.trailer ++ flat_groups gs))

-- the bytes of the interchange i with these groups in the place of its own
unfoldable pub rebuilt : Bytes → List Group → Bytes
rebuilt i after =
    let d = delimiters i in
    take 106 i ++ out d (flat_groups after ++ last [] (segments d i) ∷ [])

-- 2. The parts of a response.
-- the envelope around the 997s: before the first, and after the last
unfoldable pub opening : Bytes → Call → List Segment
opening i call = isa_out (delimiters i) (isa i) call ∷ (gs_out (first_header (groups_in i)) call ∷ [])

unfoldable pub closing : Bytes → Call → List Segment
closing i call = ge_out (length (groups_in i)) call.control ∷ (iea_out 1 call.control ∷ [])

-- the 997 of a group, in bytes; n is its number in the response
unfoldable pub acknowledgment_of : Delimiters → ℕ → Group → Bytes
acknowledgment_of d n g = out d (transaction_set (padded 4 n) (group_report d g))

-- the 997s of groups, numbered from n on
unfoldable pub acknowledgments_from : Delimiters → ℕ → List Group → List Bytes
acknowledgments_from d n [] = []
acknowledgments_from d n (g ∷ gs) = acknowledgment_of d n g ∷ acknowledgments_from d (n + 1) gs

-- the 997s of the response to an interchange
abbrev pub acknowledgments_in : Bytes → List Bytes
acknowledgments_in i = acknowledgments_from (delimiters i) 1 (groups_in i)

-- the segments of a 997 before its first block, and those after its last
unfoldable pub beginning : Bytes → GroupReport → List Segment
beginning st02 r = st_out st02 ∷ (ak1 r ∷ [])

unfoldable pub ending : Bytes → GroupReport → List Segment
ending st02 r = ak9 r ∷ (se_out (length (told st02 r) + 1) st02 ∷ [])

-- its blocks, AK2 to AK5, in bytes
unfoldable pub blocks_of : Delimiters → Group → List Bytes
blocks_of d g = map (λ r. out d (block r)) (group_report d g).sets

unfoldable pub joined : List Bytes → Bytes
joined [] = []
joined (b ∷ bs) = b ++ joined bs

-- the bytes of the buffer after a call
abbrev pub buffer_after : Bytes → Bytes → Call → Bytes
buffer_after i lent call = buffer (answer (functional_acknowledgment i call) (length lent)) (response i call) lent

-- 3. What stays.
-- Group number n was g; some of its sets were refilled, and it is now h. The sets that were put in are its sets. Its 997 has the old beginning,
-- the blocks of these sets and its ending; an untouched set has its old block at its old place; the number of sets received and the group's
-- codes are the old ones.
pub record GroupStays (d : Delimiters) (n : ℕ) (g h : Group) : Type 0 where
  pub put : (ss : List Set) → Damaged d (sets g) ss → h ≡ with_sets g ss → sets h ≡ ss
  pub written : acknowledgment_of d n h
      ≡ out d (beginning (padded 4 n) (group_report d g)) ++ joined (blocks_of d h) ++ out d (ending (padded 4 n) (group_report d h))
  pub untouched : (k : ℕ) (x : Set) → get_or (sets h) k x ≡ get_or (sets g) k x → get_or (blocks_of d h) k [] ≡ get_or (blocks_of d g) k []
  pub received : (group_report d h).received ≡ (group_report d g).received
  pub codes : (group_report d h).codes ≡ (group_report d g).codes

-- j, which is i with the groups after, is answered into the buffer lent. The buffer then has the opening of the response to i, the 997s, the
-- closing of the response to i and what was lent; each 997 is what stays of its group, and an untouched group has its old 997 at its old place.
pub record Stays (i j lent : Bytes) (after : List Group) (call : Call) : Type 0 where
  pub answered : number (answer (functional_acknowledgment j call) (length lent)) ≡ 0
  pub written : buffer_after j lent call
      ≡ out (delimiters i) (opening i call) ++ joined (acknowledgments_in j) ++ out (delimiters i) (closing i call)
      ++ drop (length (response j call)) lent
  pub acknowledgments : acknowledgments_in j ≡ acknowledgments_from (delimiters i) 1 after
  pub groups : (k : ℕ) (x : Group) → k < length (groups_in i) → GroupStays (delimiters i) (k + 1) (get_or (groups_in i) k x) (get_or after k x)
  pub untouched : (k : ℕ) (x : Group) → get_or after k x ≡ get_or (groups_in i) k x → get_or (acknowledgments_in j) k [] ≡ get_or (acknowledgments_in i) k []
