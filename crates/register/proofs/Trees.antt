-- What one turn of each loop does: of the reading of a bucket, and of the search along the links of a tree.
use Rattle.std.specs.Prelude.{Option, None, Some}
use Prim.Native.Nat.{ℕ, zero, suc, ◌+◌, ◌*◌, ◌%◌, ◌-◌, ◌<◌, ◌≤◌}
use mathlib.Core.Path.{◌≡◌, refl}
use mathlib.Core.Bool.{Bool, true, false}
use mathlib.Core.List.{List, [], ◌∷◌}
use native.Mathlib.Nat.{mod-lt}
use native.Mathlib.Omega.{arith}
use borrow.Author.Tests.{le-leb, lt-leb, leb-true, leb-false}
use lib.Dec.{leb}
use lib.ListN.{length, drop, get_or, drop_of_length-le}
use Rattle.rules.specs.Base.{Bytes, same}
use Rattle.rules.specs.declared.Delimiters.{Delimiters}
use Rattle.text.proofs.Loops.{left_cons}
use Rattle.sets.specs.Places.{control_at}
use Rattle.register.specs.Trees.{bucket_from, bucket_of, bits_at, slot_of, found_at, walk}

-- 1. Buckets and bits.
-- the bucket of the bytes that are left
pub bucket_step : (s : Bytes) (i n : ℕ) → i < length s → bucket_from n (drop i s) ≡ bucket_from ((n * 10 + get_or s i 0) % 1024) (drop (i + 1) s)
unfolding bucket_from
bucket_step s i n h = rw (left_cons s i h)

pub bucket_end : (s : Bytes) (i n : ℕ) → length s ≤ i → bucket_from n (drop i s) ≡ n
unfolding bucket_from
bucket_end s i n h = rw (drop_of_length-le s {i = i} h)

bucket_from_below : (n : ℕ) (c : Bytes) → n < 1024 → bucket_from n c < 1024
unfolding bucket_from
bucket_from_below n [] h = h
bucket_from_below n (b ∷ bs) h = bucket_from_below ((n * 10 + b) % 1024) bs (mod-lt _ (omega arith))

pub bucket_below : (c : Bytes) → bucket_of c < 1024
bucket_below c = bucket_from_below 0 c (omega arith)

pub bits_below : (c : Bytes) (i : ℕ) → bits_at c i < 4
unfolding bits_at
bits_below c i = mod-lt _ (omega arith)

-- 2. The search.
module _ (d : Delimiters) (body : Bytes) (first : ℕ) (starts links : List ℕ) (c : Bytes) where
  -- the link at the slot leads on or not, as p says, and the set that it leads to has the number, as q says
  pub walk_turn : (f slot last i : ℕ) (p q : Bool) → leb (get_or links slot 0) last ≡ p
      → same c (control_at d body (get_or starts (get_or links slot 0 - 1 - first) 0)) ≡ q
      → walk (suc f) d body first starts links c slot last i
      ≡ found_at p q slot (walk f d body first starts links c (slot_of (get_or links slot 0 - 1) (bits_at c i)) (get_or links slot 0) (i + 1))
  unfolding walk
  walk_turn f slot last i p q e g = rw (e, g)

  -- a link that leads nowhere
  pub walk_ends : (f slot last i : ℕ) → get_or links slot 0 ≤ last → walk f d body first starts links c slot last i ≡ Some slot
  unfolding walk
  walk_ends zero slot last i h = refl
  walk_ends (suc f) slot last i h = rw (le-leb (get_or links slot 0) last h)

  -- what holds in each of the three cases holds
  pub walk_cases : (P : Option ℕ → Type 0) (f slot last i : ℕ) → (get_or links slot 0 ≤ last → P (Some slot))
      → (last < get_or links slot 0 → same c (control_at d body (get_or starts (get_or links slot 0 - 1 - first) 0)) ≡ true → P None)
      → (last < get_or links slot 0 → same c (control_at d body (get_or starts (get_or links slot 0 - 1 - first) 0)) ≡ false
      → P (walk f d body first starts links c (slot_of (get_or links slot 0 - 1) (bits_at c i)) (get_or links slot 0) (i + 1)))
      → P (walk (suc f) d body first starts links c slot last i)
  walk_cases P f slot last i ends hits goes = go _ _ refl refl
    where
      go : (p q : Bool) → leb (get_or links slot 0) last ≡ p → same c (control_at d body (get_or starts (get_or links slot 0 - 1 - first) 0)) ≡ q
          → P (walk (suc f) d body first starts links c slot last i)
      go true q e g = rw (walk_turn f slot last i true q e g) (ends (leb-true (get_or links slot 0) last e))
      go false true e g = rw (walk_turn f slot last i false true e g) (hits (leb-false (get_or links slot 0) last e) g)
      go false false e g = rw (walk_turn f slot last i false false e g) (goes (leb-false (get_or links slot 0) last e) g)

  -- from what the calls of a turn ensure
  pub search_step : (slot : ℕ) {link last i bit start : ℕ} {earlier : Bytes} (q : Bool) → link < 65536 → i ≤ last → last < link
      → link ≡ get_or links slot 0 → bit ≡ bits_at c i → start ≡ get_or starts (link - 1 - first) 0 → earlier ≡ control_at d body start → same c earlier ≡ q
      → walk (65536 - i) d body first starts links c slot last i
      ≡ found_at false q slot (walk (65536 - (i + 1)) d body first starts links c (slot_of (link - 1) bit) link (i + 1))
  search_step slot {link} {last} {i} q h k l n b s e g =
      let left : 65536 - i ≡ suc (65536 - (i + 1)) = omega arith in
      rw (left, b, n) (walk_turn (65536 - (i + 1)) slot last i false q (lt-leb (get_or links slot 0) last (rw n at l)) (rw (e, s, n) at g))
