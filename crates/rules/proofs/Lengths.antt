-- How long the parts of a response are: numbers, lists of codes, and each segment by what it is made of.
use Rattle.std.specs.Prelude.{if◌then◌else◌}
use Prim.Native.Nat.{ℕ, zero, suc, ◌+◌, ◌*◌, ◌/◌, ◌≤◌}
use mathlib.Core.Path.{◌≡◌, refl}
use mathlib.Core.Bool.{Bool, true, false}
use mathlib.Core.List.{List, [], ◌∷◌, ◌++◌, map}
use native.Mathlib.Omega.{arith}
use lib.Dec.{ltb, eqb}
use lib.ListN.{length, length-append, length-drop, length-take}
use Rattle.rules.specs.Base.{Bytes, Rule, ◌⇒◌, every, ascii}
use Rattle.rules.specs.Cutting.{Segment, field, separators, fields_at, isa}
use Rattle.rules.specs.Numbers.{padded, digits_of, decimal}
use Rattle.rules.specs.Elements.{Finding}
use Rattle.rules.specs.Segments.{Note}
use Rattle.rules.specs.Sets.{SetReport, accepted}
use Rattle.rules.specs.Groups.{GroupReport}
use Rattle.rules.specs.Response.{fields_out, segment_out, out, trailing, ak4, ak3, ak3s, ak2, ak5, block, blocks, ak1, ak9, st_out, se_out, told, transaction_set, isa_out, gs_out}
use Rattle.rules.specs.declared.Call.{Call}
use Rattle.rules.specs.declared.Delimiters.{Delimiters}

-- what holds of both branches
pub either : {A : Type 0} (P : A → Type 0) (b : Bool) {x y : A} → P x → P y → P (if b then x else y)
either P true p q = p
either P false p q = q

pub if_short : (b : Bool) (x y : Bytes) → length (if b then x else y) ≤ length x + length y
if_short true x y = omega arith
if_short false x y = omega arith

-- 1. Numbers and codes.
pub padded_length : (w n : ℕ) → length (padded w n) ≡ w
unfolding padded
padded_length zero n = refl
padded_length (suc w) n = simp length-append (omega (arith, padded_length w (n / 10)))

digits_of_short : (f n : ℕ) → length (digits_of f n) ≤ suc f
unfolding digits_of
digits_of_short zero n = omega arith
digits_of_short (suc f) n =
    either (λ (bs : Bytes). length bs ≤ suc (suc f)) (ltb n 10)
    (omega arith)
    (simp length-append (omega (arith, digits_of_short f (n / 10))))

pub decimal_short : (n : ℕ) → length (decimal n) ≤ 20
unfolding decimal
decimal_short n = digits_of_short 19 n

pub every_short : (rs : List Rule) → length (every rs) ≤ length rs
unfolding every
every_short [] = omega arith
every_short ((true ⇒ n) ∷ rs) = omega (arith, every_short rs)
every_short ((false ⇒ n) ∷ rs) = omega (arith, every_short rs)

-- room for the AK4 of findings: for each 67 bytes, a separator and the echo
unfoldable pub weight : List Finding → ℕ
weight [] = 0
weight (f ∷ fs) = 68 + length f.echo + weight fs

pub weight_append : (a b : List Finding) → weight (a ++ b) ≡ weight a + weight b
unfolding weight
weight_append [] b = omega arith
weight_append (f ∷ a) b = omega (arith, weight_append a b)

module _ (d : Delimiters) where
  codes_short : (cs : List ℕ) → length (fields_out d (map decimal cs)) ≤ 21 * length cs
  unfolding fields_out
  codes_short [] = omega arith
  codes_short (c ∷ cs) = simp length-append (omega (arith, decimal_short c, codes_short cs))

  -- 2. Segments, and a field of one.
  pub out_nil : length (out d []) ≡ 0
  unfolding out
  out_nil = refl

  pub out_cons : (s : Segment) (ss : List Segment) → length (out d (s ∷ ss)) ≡ length (segment_out d s) + length (out d ss)
  unfolding out
  out_cons s ss = length-append (segment_out d s) (out d ss)

  pub length_out_append : (a b : List Segment) → length (out d (a ++ b)) ≡ length (out d a) + length (out d b)
  unfolding out
  length_out_append [] b = omega arith
  length_out_append (s ∷ a) b = simp length-append (omega (arith, length_out_append a b))

  fields_out_short : (fs : List Bytes) (n : ℕ) → length (field fs n) ≤ length (fields_out d fs)
  unfolding fields_out
  fields_out_short [] n = omega arith
  fields_out_short (f ∷ fs) zero = simp length-append (omega arith)
  fields_out_short (f ∷ fs) (suc n) = simp length-append (omega (arith, fields_out_short fs n))

  pub field_short : (s : Segment) (n : ℕ) → length (field s n) ≤ length (segment_out d s)
  field_short [] n = omega arith
  field_short (f ∷ fs) zero = simp length-append (omega arith)
  field_short (f ∷ fs) (suc n) = simp length-append (omega (arith, fields_out_short fs n))

  -- 3. AK1 to AK9.
  trailing_short : (e : Bytes) → length (fields_out d (trailing e)) ≤ 1 + length e
  unfolding fields_out trailing
  trailing_short [] = omega arith
  trailing_short (b ∷ e) = simp length-append (omega arith)

  ak4_short : (f : Finding) → length (segment_out d (ak4 f)) ≤ 68 + length f.echo
  unfolding ak4 fields_out
  ak4_short f =
      simp length-append
      (omega (
        arith,
        decimal_short f.place,
        if_short (eqb f.reference 0) [] (decimal f.reference),
        decimal_short f.reference,
        decimal_short f.code,
        trailing_short f.echo,
      ))

  ak4s_short : (fs : List Finding) → length (out d (map ak4 fs)) ≤ weight fs
  unfolding out weight
  ak4s_short [] = omega arith
  ak4s_short (f ∷ fs) = simp length-append (omega (arith, ak4_short f, ak4s_short fs))

  pub ak3_short : (n : Note) → length (out d (ak3 n)) ≤ 28 + length n.id + 21 * length n.codes + weight n.findings
  unfolding out ak3 fields_out
  ak3_short n =
      simp length-append
      (omega (arith, decimal_short n.position, codes_short n.codes, ak4s_short n.findings))

  pub ak3s_append : (a b : List Note) → length (out d (ak3s (a ++ b))) ≡ length (out d (ak3s a)) + length (out d (ak3s b))
  unfolding out ak3s
  ak3s_append [] b = omega arith
  ak3s_append (n ∷ a) b = simp length_out_append (omega (arith, ak3s_append a b))

  pub ak2_short : (r : SetReport) → length (segment_out d (ak2 r)) ≤ 6 + length r.st01 + length r.st02
  unfolding ak2 fields_out
  ak2_short r = simp length-append (omega arith)

  pub ak5_short : (r : SetReport) → length (segment_out d (ak5 r)) ≤ 7 + 21 * length r.codes
  unfolding ak5 fields_out
  ak5_short r =
      simp length-append (omega (arith, if_short (accepted r) (ascii "A") (ascii "R"), codes_short r.codes))

  pub ak1_short : (r : GroupReport) → length (segment_out d (ak1 r)) ≤ 6 + length r.gs01 + length r.gs06
  unfolding ak1 fields_out
  ak1_short r = simp length-append (omega arith)

  pub ak9_short : (r : GroupReport) → length (segment_out d (ak9 r)) ≤ 68 + length r.verdict + 21 * length r.codes
  unfolding ak9 fields_out
  ak9_short r =
      simp length-append
      (omega (
        arith,
        decimal_short r.included,
        decimal_short r.received,
        decimal_short r.allowed,
        codes_short r.codes,
      ))

  -- 4. The envelope.
  fields_at_short : (start : ℕ) (es : List ℕ) (i : Bytes) (n : ℕ) → length (field (fields_at start es i) n) ≤ length i
  unfolding fields_at
  fields_at_short start [] i n = omega arith
  fields_at_short start (e ∷ es) i zero = simp (length-drop, length-take) (omega arith)
  fields_at_short start (e ∷ es) i (suc n) = fields_at_short (e + 1) es i n

  pub isa_out_short : (i : Bytes) (call : Call) → length (segment_out d (isa_out d (isa i) call)) ≤ 80 + 5 * length i
  unfolding isa_out fields_out isa
  isa_out_short i call =
      let short = fields_at_short 0 separators i in
      simp (length-append, padded_length) (omega (arith, short 5, short 6, short 7, short 8, short 15))

  pub gs_out_short : (gs : Segment) (call : Call) → length (segment_out d (gs_out gs call)) ≤ 60 + 2 * length (segment_out d gs)
  unfolding gs_out fields_out
  gs_out_short gs call =
      simp (length-append, padded_length) (omega (arith, field_short gs 2, field_short gs 3, decimal_short call.control))

  -- 5. Segments are no more than their bytes.
  abbrev Counted : List Segment → Type 0
  Counted ss = length ss ≤ length (out d ss)

  ak4s_counted : (fs : List Finding) → Counted (map ak4 fs)
  unfolding ak4
  ak4s_counted [] = omega arith
  ak4s_counted (f ∷ fs) = simp (out_cons, length-append) (omega (arith, ak4s_counted fs))

  ak3_counted : (n : Note) → Counted (ak3 n)
  unfolding ak3
  ak3_counted n = simp (out_cons, length-append) (omega (arith, ak4s_counted n.findings))

  ak3s_counted : (ns : List Note) → Counted (ak3s ns)
  unfolding ak3s
  ak3s_counted [] = omega arith
  ak3s_counted (n ∷ ns) = simp (length_out_append, length-append) (omega (arith, ak3_counted n, ak3s_counted ns))

  block_counted : (r : SetReport) → Counted (block r)
  unfolding block ak2 ak5
  block_counted r = simp (out_cons, length_out_append, length-append) (omega (arith, ak3s_counted r.notes))

  blocks_counted : (rs : List SetReport) → Counted (blocks rs)
  unfolding blocks
  blocks_counted [] = omega arith
  blocks_counted (r ∷ rs) = simp (length_out_append, length-append) (omega (arith, block_counted r, blocks_counted rs))

  told_counted : (st02 : Bytes) (g : GroupReport) → Counted (told st02 g)
  unfolding told st_out ak1 ak9
  told_counted st02 g = simp (out_cons, length_out_append, length-append) (omega (arith, blocks_counted g.sets))

  pub transaction_counted : (st02 : Bytes) (g : GroupReport) → Counted (transaction_set st02 g)
  unfolding transaction_set se_out
  transaction_counted st02 g = simp (out_cons, length_out_append, length-append) (omega (arith, told_counted st02 g))
