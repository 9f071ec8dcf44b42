-- Demand 2, group by group: what a buffer with a response tells of each set of each group, what it shows of its elements, and what it counts.
-- `Faces` carries it to both faces.
use Rattle.std.specs.Prelude.{if◌then◌else◌, Some}
use mathlib.Core.Path.{◌≡◌, refl, sym, ap, ◌∙◌, subst⁻¹}
use mathlib.Core.Logic.{◌↔◌}
use mathlib.Core.List.{List, [], ◌++◌, append_assoc}
use Prim.Native.Nat.{ℕ, ◌+◌, ◌≤◌, ◌<◌}
use lib.ListN.{length, take, drop, get_or}
use Rattle.rules.specs.Base.{Bytes, ascii, same, keep}
use Rattle.rules.specs.Cutting.{Segment, field, repetition_in, delimiters}
use Rattle.rules.specs.Numbers.{padded, decimal}
use Rattle.rules.specs.Sets.{Set, segments_of, SetReport, set_report, is_st}
use Rattle.rules.specs.Groups.{Group, sets, table_in, accepted_in, GroupReport, group_report}
use Rattle.rules.specs.Response.{segment_out, out, ak5, ak9, se_out, told, transaction_set, ge_out, response}
use Rattle.rules.specs.Damage.{groups_in, closing, beginning, ending, blocks_of, joined}
use Rattle.rules.specs.declared.Call.{Call}
use Rattle.rules.proofs.Facts.{allowed_counts, segments_counted}
use Rattle.rules.proofs.Damage.{acknowledgment_parts}
use Rattle.rules.proofs.Accepting.{Sound, accepting, before, report_at_lem, four_codes, received_headers}
use Rattle.rules.proofs.Echo.{Points, report_points}
use Rattle.rules.proofs.Repeating.{Ordered, Unrepeated, report_ordered, sound_unrepeated}
use Rattle.rules.proofs.Logic.{last_snoc, Each}
use Rattle.rules.proofs.Placed.{heading_of, up_to_set, beyond_set, acknowledgment_at, says_exactly, up_to_group, beyond_group, response_at}

-- group m of an interchange, counted from 0, and what is reported of it
abbrev pub group_numbered : Bytes → ℕ → Group → Group
group_numbered i m w = get_or (groups_in i) m w

abbrev pub report_of : Bytes → ℕ → Group → GroupReport
report_of i m w = group_report (delimiters i) (group_numbered i m w)

-- the sets of group m, and what is reported of set k of them
abbrev pub sets_at : Bytes → ℕ → Group → List Set
sets_at i m w = sets (group_numbered i m w)

abbrev pub report_at : Bytes → ℕ → Group → ℕ → SetReport → SetReport
report_at i m w k y = get_or (report_of i m w).sets k y

-- what a buffer tells of set k of group m of the interchange i
pub record Tells (i lent : Bytes) (call : Call) (m : ℕ) (w : Group) (k : ℕ) (x : Set) (y : SetReport) (left : Bytes) : Type 0 where
  -- its block stands in the 997 of group m, after the beginning and the blocks before it: AK2 with the notes, and then AK5; that 997 stands after
  -- the opening and the 997s before it
  pub stands : left
      ≡ up_to_group i call m ++ up_to_set (delimiters i) (m + 1) (group_numbered i m w) k
      ++ heading_of (delimiters i) (report_at i m w k y) ++ segment_out (delimiters i) (ak5 (report_at i m w k y))
      ++ beyond_set (delimiters i) (m + 1) (group_numbered i m w) k ++ beyond_group i call m
      ++ drop (length (response i call)) lent
  -- it is the block of set k: what is reported of its own segments, by its own group, after the ST02 of the sets before it in the group
  pub own : report_at i m w k y
      ≡ set_report (delimiters i) (table_in (group_numbered i m w).header (get_or (sets_at i m w) k x)) (before [] k (sets_at i m w)) (get_or (sets_at i m w) k x)
  -- the AK5 says A exactly when the set is sound after the sets before it in the group
  pub accepts : segment_out (delimiters i) (ak5 (report_at i m w k y)) ≡ accepting (delimiters i)
      ↔ Sound (delimiters i) (group_numbered i m w).header (take k (sets_at i m w)) (get_or (sets_at i m w) k x)
  -- it has at most four codes
  pub few : length (report_at i m w k y).codes ≤ 4
  -- the findings of each of its notes show elements of the segment at the note's position
  pub echoes : Each (Points (delimiters i) 1 (segments_of (get_or (sets_at i m w) k x))) (report_at i m w k y).notes
  -- and stand by place and then by code
  pub ordered : Each Ordered (report_at i m w k y).notes
  -- where it is sound, no element at a place of its table holds the repetition separator
  pub unrepeated : (b : ℕ) → repetition_in i ≡ Some b
      → (sound : Sound (delimiters i) (group_numbered i m w).header (take k (sets_at i m w)) (get_or (sets_at i m w) k x))
      → Unrepeated b sound.table (get_or (sets_at i m w) k x)

-- what a buffer counts of group m of the interchange i
pub record Counts (i lent : Bytes) (call : Call) (m : ℕ) (w : Group) (left : Bytes) : Type 0 where
  -- its 997 stands after the opening and the 997s before it; its ST02 is m + 1 in four digits; after its blocks stand AK9 and SE
  pub stands : left
      ≡ up_to_group i call m
      ++ out (delimiters i) (beginning (padded 4 (m + 1)) (report_of i m w)) ++ joined (blocks_of (delimiters i) (group_numbered i m w))
      ++ out (delimiters i) (ending (padded 4 (m + 1)) (report_of i m w))
      ++ beyond_group i call m
      ++ drop (length (response i call)) lent
  -- AK903 is the number of ST segments of the group
  pub ak903 : field (get_or (ending (padded 4 (m + 1)) (report_of i m w)) 0 []) 3 ≡ decimal (length (keep is_st (group_numbered i m w).body))
  -- AK904 is the number of its accepted sets, or 0 under AK901 R
  pub ak904 : field (get_or (ending (padded 4 (m + 1)) (report_of i m w)) 0 []) 4
      ≡ decimal (if same (report_of i m w).verdict (ascii "R") then 0 else accepted_in (report_of i m w).sets)
  -- SE01 is the number of segments of this 997
  pub se01 : field (get_or (ending (padded 4 (m + 1)) (report_of i m w)) 1 []) 1 ≡ decimal (length (transaction_set (padded 4 (m + 1)) (report_of i m w)))
  -- GE01 of the response is the number of groups
  pub ge01 : field (get_or (closing i call) 0 []) 1 ≡ decimal (length (groups_in i))

-- SE is the last segment of a 997
se01_counts : (st02 : Bytes) (r : GroupReport) → field (get_or (ending st02 r) 1 []) 1 ≡ decimal (length (transaction_set st02 r))
unfolding ending transaction_set
se01_counts st02 r =
    let se = se_out (length (told st02 r) + 1) st02 in
    ap (λ (s : Segment). field s 1) (sym (last_snoc [] (told st02 r) se)) ∙ segments_counted st02 r

module _ (i lent : Bytes) (call : Call) (left : Bytes) (answered : left ≡ response i call ++ drop (length (response i call)) lent) (m : ℕ) (w : Group)
    (among : m < length (groups_in i)) where
  -- The block of set k of group m, its verdict and its echoes. Shut out: "accepted" for all, the first set's verdict for each, a test left out, a
  -- set's verdict in another's block or another group's 997, an ST02 of an earlier group taken for one of this; an echo cut at 98 or 100, under
  -- code 6 or 12, without its minus, or of the element beside it; AK4 out of their order or twice, and a repeated element that is accepted.
  pub tells : (k : ℕ) (x : Set) (y : SetReport) → k < length (sets_at i m w) → Tells i lent call m w k x y left
  tells k x y h =
      let d = delimiters i in
      let g = group_numbered i m w in
      let s = get_or (sets g) k x in
      record {
        stands = answered ∙ rw (response_at i call m w among, acknowledgment_at d (m + 1) g k y h) (simp append_assoc);
        own = report_at_lem d g k x y h;
        accepts = says_exactly d g k x y h;
        few =
            subst⁻¹ (λ (r : SetReport). length r.codes ≤ 4) (report_at_lem d g k x y h)
            (four_codes d (table_in g.header s) (before [] k (sets g)) s);
        echoes = report_points d g k x y h;
        ordered = report_ordered d g k x y h;
        unrepeated = λ b r. sound_unrepeated i b r g.header (take k (sets g)) s;
      }

  -- The counts of group m. Shut out: AK903 or AK904 from thin air, AK903 from GE01 or of the sets that have a trailer only, a count over all
  -- groups in one 997, SE01 that counts on through the response, GE01 that stays 1.
  pub counts : Counts i lent call m w left
  unfolding closing ending ak9 ge_out
  counts = record {
    stands = answered ∙ rw (response_at i call m w among, acknowledgment_parts (delimiters i) (m + 1) (group_numbered i m w)) (simp append_assoc);
    ak903 = received_headers (delimiters i) (group_numbered i m w);
    ak904 = ap decimal (allowed_counts (delimiters i) (group_numbered i m w));
    se01 = se01_counts (padded 4 (m + 1)) (report_of i m w);
    ge01 = refl;
  }
