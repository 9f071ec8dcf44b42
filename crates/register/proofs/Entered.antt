-- The first n sets of a group in the trees of their buckets: what a search finds is what is found among all of them.
use Rattle.std.specs.Prelude.{Option, None, Some, is_none}
use Prim.Native.Nat.{ℕ, zero, suc, ◌+◌, ◌/◌, ◌-◌, ◌<◌, ◌≤◌}
use mathlib.Core.Path.{◌≡◌, refl, sym, ap, ◌∙◌}
use mathlib.Core.Bool.{Bool, true, false, ◌||◌, true≢false}
use mathlib.Core.List.{List, map-append}
use native.Mathlib.Numerals.{add-one}
use native.Mathlib.Nat.{add-zero}
use native.Mathlib.Omega.{arith}
use borrow.Author.Tests.{lt-leb}
use lib.ListN.{length, take, get_or, set, length-set}
use lib.Seq.{take-suc, take-set-le, get_or-set_same, get_or-set_other}
use Rattle.rules.specs.Base.{Bytes, same, any, member}
use Rattle.rules.specs.declared.Delimiters.{Delimiters}
use Rattle.rules.proofs.Logic.{same→eq, or_none, any_append}
use Rattle.std.proofs.Common.{inl, inr}
use Rattle.std.proofs.lemmas.Bool.{cases_eq, false_from_ne_true}
use Rattle.sets.specs.Places.{control_at, controls_at}
use Rattle.register.specs.Trees.{bucket_of, bits_at, slot_of, walk, search, linked_by}
use Rattle.register.proofs.Trees.{bucket_below, bits_below, walk_turn, walk_ends, walk_cases}

-- The links lead to the sets before n alone, of all groups.
pub record Linked (links : List ℕ) (n : ℕ) : Type 0 where
  pub linked : (s : ℕ) → get_or links s 0 ≤ n
  pub unlinked : (s : ℕ) → slot_of n 0 ≤ s → get_or links s 0 ≡ 0

-- The same after n sets of a group, the first of which is set number first; and a search finds a number where it is one of theirs.
pub record Entered (d : Delimiters) (body : Bytes) (first : ℕ) (starts links : List ℕ) (n : ℕ) : Type 0 where
  pub links_so : Linked links (first + n)
  pub finds : (c : Bytes) → is_none (search d body first starts links c) ≡ member c (controls_at d body (take n starts))

-- 1. A search.
-- the last set of each search that comes to a slot: one past the set that the slot belongs to, and the first for that of a bucket
abbrev owner_of : ℕ → ℕ → ℕ
owner_of first slot = first + ((slot - 1020) / 4 - first)

owner_next : (first k b : ℕ) → first < k → b < 4 → k ≡ owner_of first (slot_of (k - 1) b)
owner_next first k b h l = omega arith

abbrev slot_in : Option ℕ → ℕ
slot_in None = 0
slot_in (Some slot) = slot

-- the free slot that a search comes to: one of a bucket or of the sets before n, and its link leads nowhere
module _ (d : Delimiters) (body : Bytes) (first : ℕ) (starts links : List ℕ) (n : ℕ) (e : Linked links n) (c : Bytes) (s : ℕ) where
  walk_free : (f slot last i : ℕ) → first ≤ last → last ≤ n → n < f + last → last ≡ owner_of first slot → slot < slot_of n 0
      → walk f d body first starts links c slot last i ≡ Some s → (s < slot_of n 0) × (get_or links s 0 ≤ owner_of first s)
  walk_free zero slot last i g h k o l = absurd (omega arith)
  walk_free (suc f) slot last i g h k o l =
      let next = get_or links slot 0 in
      let most = e.linked slot in
      let bit = bits_below c i in
      walk_cases d body first starts links c (λ (r : Option ℕ). r ≡ Some s → (s < slot_of n 0) × (get_or links s 0 ≤ owner_of first s)) f slot last i
      (λ e p. rw (← ap slot_in p) (l, rw o at e))
      (λ e q p. absurd (true≢false (ap is_none p)))
      (λ e q. walk_free f (slot_of (next - 1) (bits_at c i)) next (i + 1) (omega arith) most (omega arith) (owner_next first next (bits_at c i) (omega arith) bit) (omega arith))

  search_free : first ≤ n → n < 65536 → search d body first starts links c ≡ Some s → (s < slot_of n 0) × (get_or links s 0 ≤ owner_of first s)
  unfolding search
  search_free g few p = let b = bucket_below c in walk_free 65536 (bucket_of c) first 0 (omega arith) g (omega arith) (omega arith) (omega arith) p

-- 2. A store into the starts past the first n sets.
module _ (d : Delimiters) (body : Bytes) (first : ℕ) (starts links : List ℕ) (n : ℕ) (e : Linked links (first + n)) (c : Bytes) (at : ℕ) where
  walk_start : (f slot last i : ℕ) → first ≤ last → walk f d body first (set starts n at) links c slot last i ≡ walk f d body first starts links c slot last i
  unfolding walk
  walk_start zero slot last i g = refl
  walk_start (suc f) slot last i g =
      let next = get_or links slot 0 in
      let most = e.linked slot in
      walk_cases d body first starts links c (λ (r : Option ℕ). walk (suc f) d body first (set starts n at) links c slot last i ≡ r) f slot last i
      (λ e. walk_ends d body first (set starts n at) links c (suc f) slot last i e)
      (λ e q. walk_turn d body first (set starts n at) links c f slot last i false true (lt-leb next last e) (rw (get_or-set_other starts n (next - 1 - first) at 0 (λ p. omega arith)) q))
      (λ e q. walk_turn d body first (set starts n at) links c f slot last i false false (lt-leb next last e) (rw (get_or-set_other starts n (next - 1 - first) at 0 (λ p. omega arith)) q) ∙ walk_start f (slot_of (next - 1) (bits_at c i)) next (i + 1) (omega arith))

entered_start : {d : Delimiters} {body : Bytes} {first : ℕ} {starts links : List ℕ} {n : ℕ}
    → Entered d body first starts links n → (at : ℕ) → Entered d body first (set starts n at) links n
unfolding search
entered_start {d} {body} {first} {starts} {links} {n} e at = record {
  links_so = e.links_so;
  finds = λ c. rw (walk_start d body first starts links n e.links_so c at 65536 (bucket_of c) first 0 (omega arith), take-set-le n starts n at (omega arith)) (e.finds c);
}

-- 3. Set n is entered at a free slot, or its number is there already.
module _ (d : Delimiters) (body : Bytes) (first : ℕ) (starts links : List ℕ) (n : ℕ) (e : Entered d body first starts links n) where
  -- the number of set n
  abbrev number_of : Bytes
  number_of = control_at d body (get_or starts n 0)

  -- one more of the first sets
  all_next : (c : Bytes) → n < length starts
      → member c (controls_at d body (take (n + 1) starts)) ≡ is_none (search d body first starts links c) || same c number_of
  unfolding controls_at any
  all_next c h =
      rw (e.finds c, add-one, take-suc starts n 0 h, map-append, any_append (same c), or_none)

  -- the search for c where the link at the free slot s leads to set n; the search for its number comes to s
  module _ (s : ℕ) (inside : s < slot_of (first + n) 0) (free : get_or links s 0 ≤ owner_of first s) (room : s < length links) (c : Bytes) where
    abbrev links' : List ℕ
    links' = set links s (first + n + 1)

    walk_here : (f last i : ℕ) → last ≤ first + n → is_none (walk (suc f) d body first starts links' c s last i) ≡ same c number_of
    walk_here f last i h =
        let bit = bits_below c i in
        let next : get_or links' s 0 ≡ first + n + 1 = get_or-set_same links s (first + n + 1) 0 room in
        let k : get_or links' s 0 - 1 ≡ first + n = omega (arith, next) in
        let here : get_or links' s 0 - 1 - first ≡ n = omega (arith, next) in
        let none : get_or links' (slot_of (first + n) (bits_at c i)) 0 ≡ 0 =
        get_or-set_other links s (slot_of (first + n) (bits_at c i)) (first + n + 1) 0 (λ p. omega arith) ∙ e.links_so.unlinked (slot_of (first + n) (bits_at c i)) (omega arith) in
        walk_cases d body first starts links' c (λ (r : Option ℕ). is_none r ≡ same c number_of) f s last i
        (λ l. absurd (omega (arith, next)))
        (λ l q. sym (rw here at q))
        (λ l q. rw (k, walk_ends d body first starts links' c f (slot_of (first + n) (bits_at c i)) (get_or links' s 0) (i + 1) (omega (arith, none))) (sym (rw here at q)))

    walk_link : (f slot last i : ℕ) → first ≤ last → last ≤ first + n → first + n < f + last → last ≡ owner_of first slot
        → (same c number_of ≡ true → walk f d body first starts links c slot last i ≡ Some s)
        → is_none (walk f d body first starts links' c slot last i) ≡ is_none (walk f d body first starts links c slot last i) || same c number_of
    walk_link zero slot last i g h k o = absurd (omega arith)
    walk_link (suc f) slot last i g h k o =
        let next = get_or links slot 0 in
        let most = e.links_so.linked slot in
        let bit = bits_below c i in
        elim (cases_eq slot s) [
          | inl here ↦ (λ at-s. rw (here, walk_here f last i h, walk_ends d body first starts links c (suc f) s last i (omega arith)))
          | inr other ↦ (let link : get_or links' slot 0 ≡ next = get_or-set_other links s slot (first + n + 1) 0 other in
              walk_cases d body first starts links c
              (λ (r : Option ℕ). (same c number_of ≡ true → r ≡ Some s) → is_none (walk (suc f) d body first starts links' c slot last i) ≡ is_none r || same c number_of)
              f slot last i
              (λ l at-s. rw (walk_ends d body first starts links' c (suc f) slot last i (omega arith)) (sym (false_from_ne_true (same c number_of) (λ q. other (ap slot_in (at-s q))))))
              (λ l q at-s. rw (walk_turn d body first starts links' c f slot last i false true (rw link (lt-leb next last l)) (rw link q)))
              (λ l q at-s.
              rw (walk_turn d body first starts links' c f slot last i false false (rw link (lt-leb next last l)) (rw link q), link)
              (walk_link f (slot_of (next - 1) (bits_at c i)) next (i + 1) (omega arith) most (omega arith) (owner_next first next (bits_at c i) (omega arith) bit) at-s)))
        ]

  module _ (few : first + n < 65536) (in_starts : n < length starts) (in_links : slot_of (first + n) 0 ≤ length links) where
    free_here : {s : ℕ} → search d body first starts links number_of ≡ Some s → (s < slot_of (first + n) 0) × (get_or links s 0 ≤ owner_of first s)
    free_here {s} p = search_free d body first starts links (first + n) e.links_so number_of s (omega arith) few p

    free_inside : {s : ℕ} → search d body first starts links number_of ≡ Some s → s < length links
    free_inside p = omega (arith, (free_here p).0)

    entered_by : (r : Option ℕ) → r ≡ search d body first starts links number_of → Entered d body first starts (linked_by r (first + n) links) (n + 1)
    unfolding search
    entered_by None p = record {
      links_so = record {
        linked = λ t. omega (arith, e.links_so.linked t);
        unlinked = λ t h. e.links_so.unlinked t (omega arith);
      };
      finds = λ c. rw (all_next c in_starts) (again c _ refl);
    }
      where
        again : (c : Bytes) (q : Bool) → same c number_of ≡ q → is_none (search d body first starts links c) ≡ is_none (search d body first starts links c) || q
        again c true g = rw (same→eq c number_of g, ← p)
        again c false g = sym (or_none (is_none (search d body first starts links c)))
    entered_by (Some s) p = record {
      links_so = record {
        linked = λ t. elim (cases_eq t s) [ inl h ↦ rw h (omega (arith, here)) | inr h ↦ omega (arith, other t h, e.links_so.linked t) ];
        unlinked = λ t h. other t (λ q. omega (arith, f.0)) ∙ e.links_so.unlinked t (omega arith);
      };
      finds = λ c.
          rw (all_next c in_starts)
          (walk_link s f.0 f.1 room c 65536 (bucket_of c) first 0 (omega arith) (omega arith) (omega arith) (omega (arith, bucket_below c)) (λ q. rw (same→eq c number_of q) (sym p)));
    }
      where
        f : (s < slot_of (first + n) 0) × (get_or links s 0 ≤ owner_of first s)
        f = free_here (sym p)

        room : s < length links
        room = free_inside (sym p)

        here : get_or (set links s (first + n + 1)) s 0 ≡ first + n + 1
        here = get_or-set_same links s (first + n + 1) 0 room

        other : (t : ℕ) → (t ≡ s → ⊥) → get_or (set links s (first + n + 1)) t 0 ≡ get_or links t 0
        other t h = get_or-set_other links s t (first + n + 1) 0 h

-- 4. What a caller needs: no set of the group is entered; the next one is.
pub entered_none : (d : Delimiters) (body : Bytes) (first : ℕ) (starts links : List ℕ) → Linked links first → Entered d body first starts links 0
unfolding search controls_at any
entered_none d body first starts links h = record {
  links_so = rw add-zero h;
  finds = λ c. rw (walk_ends d body first starts links c 65536 (bucket_of c) first 0 (h.linked (bucket_of c)));
}

module _ {d : Delimiters} {body : Bytes} {first : ℕ} {starts links : List ℕ} {n : ℕ} (e : Entered d body first starts links n)
    (few : first + n < 65536) (in_starts : n < length starts) (in_links : slot_of (first + n) 0 ≤ length links)
    (at : ℕ) (r : Option ℕ) (p : r ≡ search d body first (set starts n at) links (control_at d body at)) where
  started : Entered d body first (set starts n at) links n
  started = entered_start e at

  stored : n < length (set starts n at)
  stored = rw length-set in_starts

  found : r ≡ search d body first (set starts n at) links (control_at d body (get_or (set starts n at) n 0))
  found = rw (get_or-set_same starts n at 0 in_starts) p

  pub entered_finds : is_none r ≡ member (control_at d body at) (controls_at d body (take n starts))
  entered_finds = rw (p, ← take-set-le n starts n at (omega arith)) (started.finds (control_at d body at))

  pub entered_inside : {s : ℕ} → r ≡ Some s → s < length links
  entered_inside q = free_inside d body first (set starts n at) links n started few stored in_links (sym found ∙ q)

  pub entered_next : Entered d body first (set starts n at) (linked_by r (first + n) links) (n + 1)
  entered_next = entered_by d body first (set starts n at) links n started few stored in_links r found
