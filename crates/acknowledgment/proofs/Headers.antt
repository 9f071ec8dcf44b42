-- The header of a set that can be answered: its id has two bytes and ST01 three, so ST01 and ST02 start three and seven bytes on.
use Rattle.std.specs.Prelude.{if◌then◌else◌}
use mathlib.Core.Path.{◌≡◌, refl, sym, ap, ◌∙◌}
use mathlib.Core.Bool.{Bool, true, false}
use mathlib.Core.List.{[], ◌∷◌, ◌++◌, append-nil}
use Prim.Native.Nat.{ℕ, zero, suc, ◌+◌, ◌-◌, ◌<◌, ◌≤◌}
use native.Mathlib.Nat.{le_of_suc-le-suc, not-suc-le-zero, sub-zero}
use native.Mathlib.Omega.{arith}
use lib.Dec.{eqb}
use lib.ListN.{length, get_or, take, drop, length-take, length-drop}
use lib.Seq.{drop-drop, drop_at, take-take, take-nil, take-append-add}
use Rattle.rules.specs.Base.{Bytes}
use Rattle.rules.specs.Cutting.{field, split, pieces}
use Rattle.rules.specs.Response.{fields_out}
use Rattle.rules.specs.declared.Delimiters.{Delimiters}
use Rattle.text.specs.Text.{index_where, index_of, part}
use Rattle.text.proofs.Search.{find_le}
use Rattle.segments.proofs.Cursor.{found_cut}
use Rattle.segments.proofs.Fields.{FieldAt, field_first, field_at}
use Rattle.segments.proofs.Pieces.{segments_at, pieces_at}
use Rattle.sets.specs.Places.{control_at}
use Rattle.sets.proofs.Headers.{field_ends, id_ends, kind_at, kind_length, kind_ends, number_at, header_long}
use Rattle.register.specs.Fields.{field_in}
use Rattle.register.proofs.Fields.{piece_field}
use Rattle.acknowledgment.specs.Surveys.{header_at, Headed}

-- 1. Parts of parts.
pub drop_take : (j n : ℕ) (xs : Bytes) → drop j (take n xs) ≡ take (n - j) (drop j xs)
drop_take zero n xs = rw sub-zero
drop_take (suc j) zero xs = let z : 0 - suc j ≡ 0 = omega arith in rw z
drop_take (suc j) (suc n) [] = rw take-nil
drop_take (suc j) (suc n) (x ∷ xs) = let z : suc n - suc j ≡ n - j = omega arith in rw z (drop_take j n xs)

index_drop : (b j : ℕ) (xs : Bytes) → j ≤ index_of b xs → index_of b (drop j xs) ≡ index_of b xs - j
unfolding index_where
index_drop b zero xs h = rw sub-zero
index_drop b (suc j) [] h = absurd (not-suc-le-zero h)
index_drop b (suc j) (x ∷ xs) h = go (eqb x b) h (index_drop b j xs)
  where
    go : (c : Bool) → suc j ≤ (if c then 0 else suc (index_of b xs)) → (j ≤ index_of b xs → index_of b (drop j xs) ≡ index_of b xs - j)
        → index_of b (drop j xs) ≡ (if c then 0 else suc (index_of b xs)) - suc j
    go true k f = absurd (not-suc-le-zero k)
    go false k f = let z : suc (index_of b xs) - suc j ≡ index_of b xs - j = omega arith in rw z (f (le_of_suc-le-suc k))

-- the first field is what the bytes begin with
pub field_begins : (d : Delimiters) (xs : Bytes) → take (length (field_in d 0 xs)) xs ≡ field_in d 0 xs
unfolding field_in
field_begins d [] = refl
field_begins d (x ∷ xs) = go (eqb x d.terminator) (eqb x d.element) (field_begins d xs)
  where
    go : (b c : Bool) → take (length (field_in d 0 xs)) xs ≡ field_in d 0 xs
        → take (length (if b then [] else (if c then [] else x ∷ field_in d 0 xs))) (x ∷ xs) ≡ (if b then [] else (if c then [] else x ∷ field_in d 0 xs))
    go true c h = refl
    go false true h = refl
    go false false h = ap (λ (l : Bytes). x ∷ l) h

pub field_short : (d : Delimiters) (xs : Bytes) → length (field_in d 0 xs) ≤ length xs
field_short d xs = omega (arith, ap length (field_begins d xs), length-take (length (field_in d 0 xs)) xs)

-- 2. The fields of a header at their places.
module _ {d : Delimiters} {body : Bytes} {at : ℕ} (h : Headed d body at) where
  abbrev left : Bytes
  left = drop at body

  -- how long the header is, and its bytes
  abbrev size : ℕ
  size = index_of d.terminator left

  abbrev bytes : Bytes
  bytes = take size left

  abbrev e : ℕ
  e = d.element

  size_is : length bytes ≡ size
  size_is = omega (arith, length-take size left, find_le d.terminator left 0 (omega arith))

  kind_place : FieldAt e bytes 1 3
  kind_place = kind_at d bytes h.named

  -- where ST01 ends
  kind_end : 6 ≡ 3 + index_of e (drop 3 bytes)
  kind_end = sym (kind_ends d bytes h.named h.good)

  number_place : FieldAt e bytes 2 7
  number_place = number_at d bytes h.named h.good

  pub header_size : 11 ≤ size
  header_size = omega (arith, size_is, header_long d bytes h.named h.good)

  -- there are so many bytes
  pub header_inside : at + 7 ≤ length body
  header_inside = omega (arith, header_size, find_le d.terminator left 0 (omega arith), length-drop at body, h.inside)

  -- ST01
  pub header_kind : part body (at + 3) (at + 6) ≡ field (header_at d body at) 1
  header_kind =
      let three : at + 6 - (at + 3) ≡ 3 = omega arith in
      sym (field_at kind_place kind_end ∙ rw (drop_take 3 size left, take-take 3 (size - 3) (drop 3 left) (omega (arith, header_size)), drop-drop 3 at body, three))

  -- it has three bytes
  pub header_three : length (field (header_at d body at) 1) ≡ 3
  header_three = kind_length d bytes h.named h.good

  -- ST02
  control_field : control_at d body at ≡ field (split e bytes) 2
  unfolding control_at
  control_field =
      let z : at + size - at ≡ size = omega arith in
      rw (segments_at d body at (at + size) h.inside refl, z)

  -- the bytes from there on to the terminator
  number_bytes : take (index_of d.terminator (drop 7 left)) (drop 7 left) ≡ drop 7 bytes
  number_bytes = rw (drop_take 7 size left, index_drop d.terminator 7 left (omega (arith, header_size)))

  first_field : field (split e (get_or (pieces d.terminator (drop 7 left)) 0 [])) 0 ≡ take (index_of e (drop 7 bytes)) (drop 7 bytes)
  first_field =
      let end = index_of d.terminator (drop 7 left) in
      let some : 0 < length (drop 7 left) = omega (arith, length-drop 7 left, header_size, find_le d.terminator left 0 (omega arith)) in
      let p : get_or (pieces d.terminator (drop 7 left)) 0 [] ≡ drop 7 bytes = rw (pieces_at d.terminator (drop 7 left) 0 end some (omega arith), sub-zero) number_bytes in
      rw p (field_at {end = index_of e (drop 7 bytes)} (field_first {e = e} {s = drop 7 bytes}) (omega arith) ∙ rw sub-zero)

  pub header_control : field_in d 0 (drop (at + 7) body) ≡ control_at d body at
  header_control =
      let z : 7 + index_of e (drop 7 bytes) - 7 ≡ index_of e (drop 7 bytes) = omega arith in
      rw (← drop-drop 7 at body)
      (piece_field d 0 (drop 7 left) ∙ first_field ∙ sym (control_field ∙ field_at number_place refl ∙ rw z))

  -- where ST02 ends, by how long it is
  number_end : length (control_at d body at) ≡ index_of e (drop 7 bytes)
  number_end = omega (arith, ap length control_field, field_ends number_place (omega (arith, size_is, header_size)))

  -- what follows the id
  elements : drop 2 bytes ≡ e ∷ (field (split e bytes) 1 ++ e ∷ drop 7 bytes)
  elements =
      let id = found_cut e bytes 0 2 (id_ends d bytes h.named) (omega (arith, size_is, header_size)) in
      let kind = found_cut e bytes 3 6 kind_end (omega (arith, size_is, header_size)) in
      let short : length (take 2 bytes) ≡ 2 = omega (arith, length-take 2 bytes, size_is, header_size) in
      ap (drop 2) id ∙ drop_at (take 2 bytes) (e ∷ drop 3 bytes) 2 short
      ∙ ap (λ (l : Bytes). e ∷ l) (kind ∙ ap (λ (l : Bytes). l ++ e ∷ drop 7 bytes) (sym (field_at kind_place kind_end)))

  -- ST01 and ST02, each after its separator
  pub header_fields : (end : ℕ) → end ≡ at + 7 + length (control_at d body at)
      → take (end - (at + 2)) (drop (at + 2) body) ≡ fields_out d (field (header_at d body at) 1 ∷ control_at d body at ∷ [])
  unfolding fields_out
  header_fields end q =
      let c = length (control_at d body at) in
      let k : end - (at + 2) ≡ 5 + c = omega arith in
      let fits : 5 + c ≤ size - 2 = omega (arith, number_end, size_is, header_size, find_le e bytes 7 (omega (arith, size_is, header_size))) in
      let inside : take (5 + c) (drop 2 left) ≡ take (5 + c) (drop 2 bytes) = rw (drop_take 2 size left, take-take (5 + c) (size - 2) (drop 2 left) fits) in
      let kind = field (split e bytes) 1 in
      let long : 5 + c ≡ length (e ∷ kind) + (1 + c) = omega (arith, header_three) in
      let z : 7 + index_of e (drop 7 bytes) - 7 ≡ c = omega (arith, number_end) in
      let number : take c (drop 7 bytes) ≡ control_at d body at = sym (control_field ∙ field_at number_place refl ∙ ap (λ (n : ℕ). take n (drop 7 bytes)) z) in
      rw (k, ← drop-drop 2 at body)
      (inside
      ∙ rw (elements, long)
      (take-append-add (e ∷ kind) (e ∷ drop 7 bytes) (1 + c)
      ∙ ap (λ (l : Bytes). e ∷ (kind ++ l)) (take-append-add (e ∷ []) (drop 7 bytes) c ∙ rw (number, append-nil))))
