-- The code of an element's value, test by test.
use Rattle.std.proofs.Common.{◌≡◌, Option, Some, None, Bool, true, false, not, ◌&&◌, eqb, ltb, leb, [], ◌∷◌, length, sym, refl, ap, ◌∙◌, true≢false, arith, le-ltb, ne_eqb, leb-true, if◌then◌else◌}
use Rattle.std.specs.Prelude.{MatchOption}
use Rattle.rules.specs.Base.{Bytes, null, all, any, ◌⇒◌, first}
use Rattle.rules.specs.Cutting.{valid}
use Rattle.rules.specs.Codes.{element_number}
use Rattle.rules.specs.declared.ElementCode.{ElementCode}
use Rattle.rules.proofs.Codes.{some_number}
use Rattle.rules.specs.Elements.{is_n0, is_dt, is_tm, value_length, repeats, element_code}
use Rattle.rules.specs.Numbers.{is_date, is_time}
use Rattle.rules.specs.Tables.{Row}
use Rattle.rules.specs.declared.Delimiters.{Delimiters}
use Rattle.rules.specs.declared.Kind.{Kind}
use Rattle.rules.specs.declared.Kind.TheVariants.{AN, ID, N0, DT, TM}
use Rattle.rules.proofs.Cuts.{valid_apart}
use Rattle.rules.proofs.Logic.{and_left, and_right, all_head, all_tail, or_else}
use Rattle.elements.specs.Values.{is_text, unlisted, spelled_as, value_code, takes_length, byte_code, row_code}

filled : (e : Bytes) → (length e ≡ 0 → ⊥) → null e ≡ false
filled [] h = absurd (h refl)
filled (b ∷ e) h = refl

empty : (e : Bytes) → length e ≡ 0 → e ≡ []
empty [] h = refl
empty (b ∷ e) h = absurd (omega arith)

-- the tests in their order: no repetition, valid bytes, spelled, too short, too long, unlisted, no date, no time
in_order : (p v s a b u x y : Bool)
    → first ((p ⇒ 12) ∷ (not (v && s) ⇒ 6) ∷ (a ⇒ 4) ∷ (b ⇒ 5) ∷ (u ⇒ 7) ∷ (x ⇒ 8) ∷ (y ⇒ 9) ∷ [])
    ≡ (let n = first ((p ⇒ 12) ∷ (not v ⇒ 6) ∷ []) in
    or_else n (eqb n 0) (if s then (if a then 4 else (if b then 5 else (if u then 7 else first ((x ⇒ 8) ∷ (y ⇒ 9) ∷ [])))) else 6))
unfolding first
in_order true v s a b u x y = refl
in_order false false s a b u x y = refl
in_order false true false a b u x y = refl
in_order false true true true b u x y = refl
in_order false true true false true u x y = refl
in_order false true true false false true x y = refl
in_order false true true false false false x y = refl

-- the code of an element of valid bytes, where it is empty and where it is not
module _ (r : Row) (e : Bytes) where
  pub valid_empty : length e ≡ 0 → row_code r e ≡ first ((r.mandatory ⇒ 1) ∷ [])
  unfolding row_code
  valid_empty h = rw (empty e h)

  pub valid_filled : (length e ≡ 0 → ⊥) → row_code r e ≡ value_code r e
  unfolding row_code
  valid_filled h = rw (filled e h)

-- the code of an element by its bytes alone
module _ (d : Delimiters) where
  -- a value of valid bytes repeats nothing
  valid_single : (e : Bytes) → all (valid d) e ≡ true → repeats d e ≡ false
  unfolding any
  valid_single [] h = refl
  valid_single (b ∷ e) h = rw (valid_apart d b (all_head (valid d) b e h)).3 (valid_single e (all_tail (valid d) b e h))

  module _ (e : Bytes) where
    pub bytes_valid : all (valid d) e ≡ true → byte_code d e ≡ 0
    unfolding byte_code first
    bytes_valid h = rw (valid_single e h, h)

    pub bytes_repeat : repeats d e ≡ true → byte_code d e ≡ 12
    unfolding byte_code first
    bytes_repeat h = rw h

    pub bytes_bad : repeats d e ≡ false → all (valid d) e ≡ false → byte_code d e ≡ 6
    unfolding byte_code first
    bytes_bad p h = rw (p, h)

-- the code of an element by document 01
module _ (d : Delimiters) (r : Row) where
  pub code_empty : (e : Bytes) → length e ≡ 0 → element_code d r e ≡ first ((r.mandatory ⇒ 1) ∷ [])
  unfolding element_code
  code_empty e h = rw (empty e h)

  code_filled : (e : Bytes) → (length e ≡ 0 → ⊥) → element_code d r e ≡ or_else (byte_code d e) (eqb (byte_code d e) 0) (value_code r e)
  unfolding element_code byte_code value_code
  code_filled [] h = absurd (h refl)
  code_filled (b ∷ e) h =
      let k = r.kind in
      let bs = b ∷ e in
      in_order (repeats d bs) (all (valid d) bs) (spelled_as k bs) (ltb (value_length k bs) r.shortest) (ltb r.longest (value_length k bs))
      (unlisted r bs) (is_dt k && not (is_date bs)) (is_tm k && not (is_time bs))

  -- it is that of the bytes where they have one
  pub code_bytes : (e : Bytes) → (length e ≡ 0 → ⊥) → (byte_code d e ≡ 0 → ⊥) → element_code d r e ≡ byte_code d e
  code_bytes e h n = code_filled e h ∙ rw (ne_eqb (byte_code d e) 0 n)

  -- and else that of the value
  pub code_value : (e : Bytes) → (length e ≡ 0 → ⊥) → byte_code d e ≡ 0 → element_code d r e ≡ value_code r e
  code_value e h z = code_filled e h ∙ rw z

  -- where all bytes are valid, no byte needs to be looked at
  pub code_is : (e : Bytes) → all (valid d) e ≡ true → row_code r e ≡ element_code d r e
  unfolding row_code element_code
  code_is [] h = refl
  code_is (b ∷ e) h = sym (code_value (b ∷ e) (λ z. omega arith) (bytes_valid d (b ∷ e) h))

plain : (k : Kind) → is_text k ≡ true → (is_n0 k ≡ false) × (is_dt k ≡ false) × (is_tm k ≡ false)
plain AN e = (refl, refl, refl)
plain ID e = (refl, refl, refl)
plain N0 e = absurd (true≢false (sym e))
plain DT e = absurd (true≢false (sym e))
plain TM e = absurd (true≢false (sym e))

-- a text whose length is taken has no code
pub takes_length_lem : (r : Row) (e : Bytes) → takes_length r (length e) ≡ true → value_code r e ≡ 0
unfolding takes_length value_code first
takes_length_lem r e h =
    let text = is_text r.kind in
    let none = null r.codes in
    let low = leb r.shortest (length e) in
    let high = leb (length e) r.longest in
    let rest = and_right text (none && (low && high)) h in
    let sized = and_right none (low && high) rest in
    let p = plain r.kind (and_left text (none && (low && high)) h) in
    rw (
      p.0,
      p.1,
      p.2,
      and_left none (low && high) rest,
      le-ltb (length e) r.shortest (leb-true r.shortest (length e) (and_left low high sized)),
      le-ltb r.longest (length e) (leb-true (length e) r.longest (and_right low high sized)),
    )

pub code_else : (d : Delimiters) (r : Row) (e : Bytes) → (length e ≡ 0 → ⊥) → (b : Option ElementCode) → element_number b ≡ byte_code d e
    → (o : Option ElementCode) {P : Type 0} → MatchOption b P (λ x. o ≡ Some x) → (P → element_number o ≡ value_code r e)
    → element_number o ≡ element_code d r e
code_else d r e h None n o m k = k m ∙ sym (code_value d r e h (sym n))
code_else d r e h (Some c) n o m k = ap element_number m ∙ n ∙ sym (code_bytes d r e h (λ z. some_number c (n ∙ z)))
