-- Where the 997 of group m stands in a response, where the block of set k stands in a 997, and in it the AK5.
use mathlib.Core.Path.{◌≡◌, refl, sym, ap, ◌∙◌}
use mathlib.Core.Logic.Iff
use mathlib.Core.Logic.{◌↔◌}
use mathlib.Core.List.{List, [], ◌∷◌, ◌++◌, map, append-nil, append_assoc}
use Prim.Native.Nat.{ℕ, zero, suc, ◌+◌, ◌<◌}
use native.Mathlib.Nat.{not-suc-le-zero, le_of_suc-le-suc}
use native.Mathlib.Omega.{arith}
use lib.ListN.{length, take, drop, get_or, length-map}
use lib.Seq.{split_at}
use Rattle.rules.specs.Base.{Bytes}
use Rattle.rules.specs.Cutting.{delimiters}
use Rattle.rules.specs.Numbers.{padded}
use Rattle.rules.specs.Sets.{Set, SetReport}
use Rattle.rules.specs.Groups.{Group, sets, group_report}
use Rattle.rules.specs.Response.{segment_out, out, ak2, ak3s, ak5, block, response}
use Rattle.rules.specs.Damage.{groups_in, opening, closing, acknowledgment_of, acknowledgments_from, acknowledgments_in, beginning, ending, blocks_of, joined}
use Rattle.rules.specs.declared.Call.{Call}
use Rattle.rules.specs.declared.Delimiters.{Delimiters}
use Rattle.rules.proofs.Cuts.{out_append}
use Rattle.rules.proofs.Facts.{every_reported}
use Rattle.rules.proofs.Damage.{acknowledgment_parts, response_parts}
use Rattle.rules.proofs.Accepting.{Sound, accepting, says_a, accepted_exactly}

-- 1. A block is AK2 with its notes, and then AK5.
-- the bytes of a block before its AK5
abbrev pub heading_of : Delimiters → SetReport → Bytes
heading_of d r = out d (ak2 r ∷ ak3s r.notes)

block_parts : (d : Delimiters) (r : SetReport) → out d (block r) ≡ heading_of d r ++ segment_out d (ak5 r)
unfolding block out
block_parts d r = out_append d (ak2 r ∷ ak3s r.notes) (ak5 r ∷ []) ∙ ap (λ (l : Bytes). heading_of d r ++ l) (append-nil (segment_out d (ak5 r)))

-- 2. One of several byte strings that stand one after the other.
joined_append : (xs ys : List Bytes) → joined (xs ++ ys) ≡ joined xs ++ joined ys
unfolding joined
joined_append [] ys = refl
joined_append (x ∷ xs) ys = rw (joined_append xs ys) (sym (append_assoc x (joined xs) (joined ys)))

joined_at : (bs : List Bytes) (k : ℕ) → k < length bs → joined bs ≡ joined (take k bs) ++ (get_or bs k [] ++ joined (drop (suc k) bs))
unfolding joined
joined_at bs k h = ap joined (split_at bs k [] h) ∙ joined_append (take k bs) (get_or bs k [] ∷ drop (suc k) bs)

map_at : {A B : Type 0} (f : A → B) (xs : List A) (k : ℕ) (x : A) (y : B) → k < length xs → get_or (map f xs) k y ≡ f (get_or xs k x)
map_at f [] k x y h = absurd (not-suc-le-zero h)
map_at f (z ∷ xs) zero x y h = refl
map_at f (z ∷ xs) (suc k) x y h = map_at f xs k x y (le_of_suc-le-suc h)

-- 3. In the 997 of a group block k stands after the beginning and the blocks before it.
-- each set has its block
pub blocks_counted : (d : Delimiters) (g : Group) → length (blocks_of d g) ≡ length (sets g)
unfolding blocks_of
blocks_counted d g = length-map (group_report d g).sets (λ r. out d (block r)) ∙ every_reported d g

module _ (d : Delimiters) (n : ℕ) (g : Group) (k : ℕ) where
  -- what stands before block k, and after it
  abbrev pub up_to_set : Bytes
  up_to_set = out d (beginning (padded 4 n) (group_report d g)) ++ joined (take k (blocks_of d g))

  abbrev pub beyond_set : Bytes
  beyond_set = joined (drop (suc k) (blocks_of d g)) ++ out d (ending (padded 4 n) (group_report d g))

  block_at : (y : SetReport) → k < length (sets g) → get_or (blocks_of d g) k [] ≡ out d (block (get_or (group_report d g).sets k y))
  unfolding blocks_of
  block_at y h = map_at (λ r. out d (block r)) (group_report d g).sets k y [] (rw (every_reported d g) h)

  -- A 997 is: what stands before block k, AK2 and the notes of set k, its AK5, and what stands after. A program that puts a block in another's
  -- place, or an AK5 before its notes, is shut out.
  pub acknowledgment_at : (y : SetReport) → k < length (sets g)
      → let r = get_or (group_report d g).sets k y in
      acknowledgment_of d n g ≡ up_to_set ++ heading_of d r ++ segment_out d (ak5 r) ++ beyond_set
  acknowledgment_at y h =
      let r = get_or (group_report d g).sets k y in
      acknowledgment_parts d n g
      ∙ rw (joined_at (blocks_of d g) k (rw (blocks_counted d g) h), block_at y h, block_parts d r) (simp append_assoc)

-- The AK5 of set k says A exactly when the set is sound. A program that writes the verdict of another set there is shut out.
pub says_exactly : (d : Delimiters) (g : Group) (k : ℕ) (x : Set) (y : SetReport) → k < length (sets g)
    → segment_out d (ak5 (get_or (group_report d g).sets k y)) ≡ accepting d ↔ Sound d g.header (take k (sets g)) (get_or (sets g) k x)
says_exactly d g k x y h = Iff.trans (says_a d (get_or (group_report d g).sets k y)) (accepted_exactly d g k x y h)

-- 4. In a response the 997 of group m stands after the opening and the 997s before it, and its ST02 is m + 1: m
-- counts from 0, ST02 from 1.
-- each group has its 997
pub acknowledgments_counted : (d : Delimiters) (n : ℕ) (gs : List Group) → length (acknowledgments_from d n gs) ≡ length gs
unfolding acknowledgments_from
acknowledgments_counted d n [] = refl
acknowledgments_counted d n (g ∷ gs) = ap suc (acknowledgments_counted d (n + 1) gs)

-- the 997 of group m among those that are numbered from n on
pub numbered_at : (d : Delimiters) (n : ℕ) (gs : List Group) (m : ℕ) (w : Group) → m < length gs
    → get_or (acknowledgments_from d n gs) m [] ≡ acknowledgment_of d (m + n) (get_or gs m w)
unfolding acknowledgments_from
numbered_at d n [] m w h = absurd (not-suc-le-zero h)
numbered_at d n (g ∷ gs) zero w h =
    let e : n ≡ 0 + n = omega arith in
    ap (λ (x : ℕ). acknowledgment_of d x g) e
numbered_at d n (g ∷ gs) (suc m) w h =
    let e : m + (n + 1) ≡ suc m + n = omega arith in
    numbered_at d (n + 1) gs m w (le_of_suc-le-suc h) ∙ ap (λ (x : ℕ). acknowledgment_of d x (get_or gs m w)) e

module _ (i : Bytes) (call : Call) (m : ℕ) where
  -- what stands before the 997 of group m, and after it
  abbrev pub up_to_group : Bytes
  up_to_group = out (delimiters i) (opening i call) ++ joined (take m (acknowledgments_in i))

  abbrev pub beyond_group : Bytes
  beyond_group = joined (drop (suc m) (acknowledgments_in i)) ++ out (delimiters i) (closing i call)

  -- The response is: what stands before the 997 of group m, that 997, and what stands after. A program that puts a 997 in another's place, or
  -- numbers it otherwise, is shut out.
  pub response_at : (w : Group) → m < length (groups_in i)
      → response i call ≡ up_to_group ++ acknowledgment_of (delimiters i) (m + 1) (get_or (groups_in i) m w) ++ beyond_group
  response_at w h =
      let d = delimiters i in
      response_parts i call
      ∙ rw (joined_at (acknowledgments_in i) m (rw (acknowledgments_counted d 1 (groups_in i)) h), numbered_at d 1 (groups_in i) m w h) (simp append_assoc)
