-- How many sets a group can have: each header that can be answered takes twelve bytes with its terminator.
use Rattle.std.specs.Prelude.{if◌then◌else◌}
use mathlib.Core.Path.{◌≡◌, refl, ap}
use mathlib.Core.Bool.{Bool, true, false, ◌&&◌}
use mathlib.Core.List.{List, [], ◌∷◌, map}
use Prim.Native.Nat.{ℕ, suc, ◌+◌, ◌*◌, ◌<◌, ◌≤◌}
use native.Mathlib.Nat.{not-suc-le-zero}
use native.Mathlib.Omega.{arith}
use lib.Dec.{eqb}
use lib.ListN.{length}
use Rattle.rules.specs.Base.{Bytes, ascii, between, all}
use Rattle.rules.specs.Cutting.{Segment, field, cut_at, split, pieces, segments, valid, text}
use Rattle.rules.specs.Numbers.{digits}
use Rattle.rules.specs.Sets.{Set, is_st, body_of, trailer_of, sets_of}
use Rattle.rules.specs.Refusals.{good_st}
use Rattle.rules.specs.declared.Delimiters.{Delimiters}
use Rattle.rules.proofs.Logic.{and_left, and_right, all_head, all_tail, same→eq}
use Rattle.text.proofs.Digits.{between_true, digits_length}
use Rattle.sets.proofs.Refused.{good}

-- the bytes of pieces, or of fields, each with the byte that ends it
unfoldable weight : List Bytes → ℕ
weight [] = 0
weight (p ∷ ps) = length p + 1 + weight ps

cut_weight : (c : Bool) (b n : ℕ) (ps : List Bytes) → weight ps ≤ n + 1 → weight (cut_at c b ps) ≤ suc n + 1
unfolding weight
cut_weight true b n ps h = omega arith
cut_weight false b n [] h = omega arith
cut_weight false b n (p ∷ ps) h = omega arith

pieces_weight : (t : ℕ) (bs : Bytes) → weight (pieces t bs) ≤ length bs + 1
unfolding pieces weight
pieces_weight t [] = omega arith
pieces_weight t (b ∷ bs) = cut_weight (eqb b t) b (length bs) (pieces t bs) (pieces_weight t bs)

split_weight : (s : ℕ) (bs : Bytes) → weight (split s bs) ≤ length bs + 1
unfolding split weight
split_weight s [] = omega arith
split_weight s (b ∷ bs) = cut_weight (eqb b s) b (length bs) (split s bs) (split_weight s bs)

three_fields : (fs : Segment) → 0 < length (field fs 2) → length (field fs 0) + length (field fs 1) + length (field fs 2) + 3 ≤ weight fs
unfolding weight
three_fields [] h = absurd (not-suc-le-zero h)
three_fields (f ∷ []) h = absurd (not-suc-le-zero h)
three_fields (f ∷ (g ∷ [])) h = absurd (not-suc-le-zero h)
three_fields (f ∷ (g ∷ (k ∷ fs))) h = omega arith

header_weight : (d : Delimiters) (st : Segment) → is_st st ≡ true → good_st d st ≡ true → 12 ≤ weight st
unfolding good_st text
header_weight d st e g =
    let sized = and_right (digits 3 3 (field st 1)) (between 4 9 (length (field st 2)) && all (valid d) (field st 2)) g in
    let number = between_true 4 9 (length (field st 2)) (and_left (between 4 9 (length (field st 2))) (all (valid d) (field st 2)) sized) in
    let kind = digits_length 3 3 (field st 1) (and_left (digits 3 3 (field st 1)) _ g) in
    omega (arith, ap length (same→eq (field st 0) (ascii "ST") e), number.0, kind.0, three_fields st (omega (arith, number.0)))

sets_weight : (d : Delimiters) (ps : List Bytes) → good d (sets_of (map (split d.element) ps)) ≡ true
    → 12 * length (sets_of (map (split d.element) ps)) ≤ weight ps
unfolding sets_of weight
sets_weight d [] e = omega arith
sets_weight d (p ∷ ps) e = go (is_st (split d.element p)) refl e (sets_weight d ps)
  where
    st : Segment
    st = split d.element p

    rest : List Segment
    rest = map (split d.element) ps

    set : Set
    set = record { header = st; body = body_of rest; trailer = trailer_of rest }

    go : (b : Bool) → is_st st ≡ b → good d (if b then set ∷ sets_of rest else sets_of rest) ≡ true
        → (good d (sets_of rest) ≡ true → 12 * length (sets_of rest) ≤ weight ps)
        → 12 * length (if b then set ∷ sets_of rest else sets_of rest) ≤ length p + 1 + weight ps
    go true s e f =
        let head = all_head (λ x. good_st d x.header) set (sets_of rest) e in
        omega (
          arith,
          f (all_tail (λ x. good_st d x.header) set (sets_of rest) e),
          header_weight d st s head,
          split_weight d.element p,
        )
    go false s e f = omega (arith, f e)

pub sets_number : (d : Delimiters) (body : Bytes) → good d (sets_of (segments d body)) ≡ true → 12 * length (sets_of (segments d body)) ≤ length body + 1
unfolding segments
sets_number d body e =
    omega (arith, sets_weight d (pieces d.terminator body) e, pieces_weight d.terminator body)
