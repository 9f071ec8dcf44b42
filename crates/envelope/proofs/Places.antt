-- Offsets and segments: what stands at an offset, and where the first segment of the envelope starts.
use Rattle.std.specs.Prelude.{None, Some}
use mathlib.Core.Path.{◌≡◌, refl, sym, ap, ◌∙◌}
use mathlib.Core.Bool.{Bool, true, false, true≢false}
use mathlib.Core.List.{[], ◌∷◌}
use Prim.Native.Nat.{ℕ, zero, suc, ◌+◌, ◌-◌, ◌<◌, ◌≤◌}
use native.Mathlib.Nat.{add-zero, sub_self, not-suc-le-zero}
use native.Mathlib.Omega.{arith}
use borrow.Author.Tests.{ltb-true, ltb-false}
use lib.Dec.{ltb}
use lib.ListN.{length, drop, get_or, length-drop, drop_of_length-le}
use lib.Seq.{length-take-le, take-nil}
use Rattle.std.specs.List.{slice_get}
use Rattle.std.proofs.lemmas.Option.{slice_get-get_or}
use Rattle.rules.specs.Base.{Bytes, ascii, same, any}
use Rattle.rules.specs.Cutting.{field, is_named, pieces, split}
use Rattle.rules.specs.Refusals.{is_envelope}
use Rattle.text.specs.Text.{index_of, part}
use Rattle.text.proofs.Search.{find_end}
use Rattle.segments.proofs.Fields.{named_other}
use Rattle.segments.proofs.Pieces.{pieces_at, pieces_none}
use Rattle.rules.specs.Groups.{is_ge}
use Rattle.rules.specs.declared.Delimiters.{Delimiters}
use Rattle.envelope.specs.Places.{end_of, segment_at, is_envelope_name, until_envelope, trailer_at, group_after, ended_at, groups_end}
use Rattle.envelope.specs.declared.GroupAt.{GroupAt}

-- 1. A part that starts past the end is empty.
pub part_past : (i : Bytes) (at end : ℕ) → length i ≤ at → part i at end ≡ []
part_past i at end h = rw (drop_of_length-le i {i = at} h) (take-nil (end - at))

-- what has a name is there
pub named_within : (name : Bytes) (e : ℕ) (i : Bytes) (at end : ℕ) → same [] name ≡ false → is_named name (split e (part i at end)) ≡ true
    → at < length i
unfolding split
named_within name e i at end n g = go (ltb at (length i)) refl
  where
    go : (c : Bool) → ltb at (length i) ≡ c → at < length i
    go true k = ltb-true at (length i) k
    go false k = absurd (true≢false (sym g ∙ ap (λ (s : Bytes). is_named name (split e s)) (part_past i at end (ltb-false at (length i) k)) ∙ n))

-- so it ends in the bytes
pub named_there : (name : Bytes) (d : Delimiters) (i : Bytes) (at : ℕ) {end : ℕ} → end ≡ end_of d i at → 0 < length name
    → true ≡ is_named name (split d.element (part i at end)) → (at < length i) × (end ≤ length i)
unfolding same
named_there [] d i at q l g = absurd (not-suc-le-zero l)
named_there (b ∷ name) d i at {end} q l g =
    let within = named_within (b ∷ name) d.element i at end refl (sym g) in
    (within, find_end d.terminator i at end q within)

-- no name of the envelope starts as the segment does
pub envelope_other : (e : ℕ) (s : Bytes) → (0 < length s → get_or s 0 0 ≡ get_or (ascii "ISA") 0 0 → ⊥) → (0 < length s → get_or s 0 0 ≡ get_or (ascii "GS") 0 0 → ⊥)
    → is_envelope_name (field (split e s) 0) ≡ false
unfolding any
envelope_other e s i g =
    simp (named_other e s (ascii "ISA") (omega arith) i, named_other e s (ascii "GS") (omega arith) g, named_other e s (ascii "GE") (omega arith) g, named_other e s (ascii "IEA") (omega arith) i)

-- the same of its first byte, where there is one
pub envelope_starts : (e : ℕ) (s : Bytes) → (slice_get s 0 ≡ Some 73 → ⊥) → (slice_get s 0 ≡ Some 71 → ⊥) → is_envelope_name (field (split e s) 0) ≡ false
envelope_starts e s i g =
    envelope_other e s
    (λ l p. i (slice_get-get_or s 0 0 l ∙ ap Some p))
    (λ l p. g (slice_get-get_or s 0 0 l ∙ ap Some p))

-- 2. The walk to the first segment of the envelope.
module _ (e t : ℕ) (i : Bytes) (at end : ℕ) (h : at < length i) (q : end ≡ at + index_of t (drop at i)) where
  pub part_length : length (part i at end) ≡ end - at
  part_length =
      let within = find_end t i at end q h in
      length-take-le (end - at) (drop at i) (omega (arith, length-drop at i))

  pub until_here : is_envelope (split e (part i at end)) ≡ true → at + until_envelope e (pieces t (drop at i)) ≡ at
  unfolding until_envelope
  until_here g = rw (pieces_at t i at end h q, g, add-zero)

  pub until_later : is_envelope (split e (part i at end)) ≡ false
      → at + until_envelope e (pieces t (drop at i)) ≡ end + 1 + until_envelope e (pieces t (drop (end + 1) i))
  unfolding until_envelope
  until_later g = rw (pieces_at t i at end h q, g, part_length) (omega arith)

pub until_none : (e t : ℕ) (i : Bytes) (at : ℕ) → length i ≤ at → at + until_envelope e (pieces t (drop at i)) ≡ at
unfolding until_envelope
until_none e t i at h = rw (pieces_none t i at h, add-zero)

-- 3. GE ends in the bytes.
pub trailer_within : (d : Delimiters) (i : Bytes) (at : ℕ) {end : ℕ} → trailer_at d i at ≡ Some end → end ≤ length i
unfolding trailer_at segment_at same
trailer_within d i at {end} p = go (is_ge (segment_at d i at)) refl
  where
    go : (b : Bool) → is_ge (segment_at d i at) ≡ b → end ≤ length i
    go true g =
        let e : end ≡ end_of d i at = cc (rw g at p) in
        rw e (named_there (ascii "GE") d i at refl (omega arith) (sym g)).1
    go false g = absurd (cc (rw g at p))

-- 4. One turn of the count: n groups came before, and so many more than n may not
module _ (d : Delimiters) (i : Bytes) (n at : ℕ) where
  pub count_none : (k : ℕ) → groups_end k d i n at None ≡ ended_at n at
  unfolding groups_end
  count_none zero = refl
  count_none (suc k) = refl

  pub count_full : {limit : ℕ} (g : GroupAt) → n ≡ limit → groups_end (limit - n) d i n at (Some g) ≡ None
  unfolding groups_end
  count_full g e = rw (e, sub_self)

  pub count_one : {limit : ℕ} (g : GroupAt) → n < limit
      → groups_end (limit - n) d i n at (Some g) ≡ groups_end (limit - (n + 1)) d i (n + 1) g.next (group_after d i g)
  unfolding groups_end
  count_one {limit} g h =
      let more : limit - n ≡ suc (limit - (n + 1)) = omega arith in
      rw more
