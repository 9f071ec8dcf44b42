-- `verdicts::closes` meets its contract: each field starts after the one before it.
use mathlib.Core.Path.{◌≡◌, refl, sym, ap, ◌∙◌}
use Prim.Native.Nat.{ℕ, ◌+◌, ◌-◌, ◌≤◌}
use native.Mathlib.Omega.{arith}
use lib.ListN.{length, drop, length-drop}
use lib.Seq.{length-take-le}
use Rattle.rules.specs.Base.{Bytes}
use Rattle.text.specs.Text.{index_of, part}
use Rattle.text.proofs.Search.{find_le}
use Rattle.segments.proofs.Fields.{field_first, field_at, field_next}
use Rattle.verdicts.proofs.closes.Goals as goal

-- the id ends inside the segment
id_within : (e : ℕ) (s : Bytes) (r : ℕ) → r ≡ 0 + index_of e (drop 0 s) → r ≤ length s
id_within e s r q = omega (arith, find_le e s 0 (omega arith))

-- the field f at the cursor ends where the search did, and has no more bytes than are left
module _ (e : ℕ) (s f : Bytes) (at : ℕ) (q : f ≡ part s at (at + index_of e (drop at s))) where
  inside : index_of e (drop at s) ≤ length (drop at s)
  inside = omega (arith, find_le e (drop at s) 0 (omega arith))

  long : length f ≡ index_of e (drop at s)
  long =
      let n : at + index_of e (drop at s) - at ≡ index_of e (drop at s) = omega arith in
      ap length (rw n at q) ∙ length-take-le (index_of e (drop at s)) (drop at s) inside

  ends : at + length f ≡ at + index_of e (drop at s)
  ends = ap (λ (n : ℕ). at + n) long

  fits : length f ≤ length s - at
  fits = omega (arith, long, inside, length-drop at s)

pub overflow_add-first : goal.overflow_add-first
overflow_add-first c = omega (arith, id_within _ _ _ c.find_near-first.ensures)

pub overflow_add-first-then-declares : goal.overflow_add-first-then-declares
overflow_add-first-then-declares c = omega (arith, id_within _ _ _ c.find_near-first.ensures, fits _ _ _ _ c.field_at-se01.ensures)

pub overflow_add-first-then-declares-2 : goal.overflow_add-first-then-declares-2
overflow_add-first-then-declares-2 c = omega (arith, id_within _ _ _ c.find_near-first.ensures, fits _ _ _ _ c.field_at-se01.ensures)

pub returns-then-declares : goal.returns-then-declares
returns-then-declares c =
    let found = c.find_near-first.ensures in
    let se01 = c.field_at-se01.ensures in
    let first = field_next field_first found in
    let second = field_next first (ends _ _ _ _ se01) in
    rw (
      field_at first refl ∙ sym se01,
      ← c.declares.ensures,
      c.if-declares.true,
      field_at second refl ∙ sym c.field_at.ensures,
    )
    c.same_bytes.ensures

pub returns-else-declares : goal.returns-else-declares
returns-else-declares c =
    let first = field_next field_first c.find_near-first.ensures in
    rw (field_at first refl ∙ sym c.field_at-se01.ensures, ← c.declares.ensures, c.if-declares.false)
