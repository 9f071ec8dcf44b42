-- Rows of pieces that are segments, and rows of blocks that are lists of segments: no text is regrouped in a writer's own proof.
use mathlib.Core.Path.{◌≡◌, refl, sym, ap, ◌∙◌}
use mathlib.Core.List.{List, [], ◌∷◌, ◌++◌, append-nil, append_assoc, map}
use Prim.Native.Nat.{ℕ, suc, ◌+◌, ◌≤◌, ◌<◌}
use native.Mathlib.Numerals.{add-one}
use native.Mathlib.Omega.{arith}
use lib.ListN.{length, drop, get_or, drop_of_length-le}
use lib.Seq.{drop-cons}
use Rattle.rules.specs.Base.{Bytes}
use Rattle.rules.specs.Cutting.{Segment}
use Rattle.rules.specs.Numbers.{decimal}
use Rattle.rules.specs.Response.{fields_out, segment_out, trailing, out}
use Rattle.rules.specs.declared.Delimiters.{Delimiters}
use Rattle.rules.proofs.Cuts.{out_append}
use Rattle.writing.specs.Over.{From}
use Rattle.writing.proofs.Laws.{seq, said}

-- 1. Elements.
-- an element on its own
pub field_out : (d : Delimiters) (f : Bytes) → fields_out d (f ∷ []) ≡ d.element ∷ f
unfolding fields_out
field_out d f = ap (λ (l : Bytes). d.element ∷ l) (append-nil f)

pub fields_append : (d : Delimiters) (fs gs : Segment) → fields_out d (fs ++ gs) ≡ fields_out d fs ++ fields_out d gs
unfolding fields_out
fields_append d [] gs = refl
fields_append d (f ∷ fs) gs =
    ap (λ (l : Bytes). d.element ∷ (f ++ l)) (fields_append d fs gs) ∙ ap (λ (l : Bytes). d.element ∷ l) (sym (append_assoc f (fields_out d fs) (fields_out d gs)))

-- a separator and a text after it are an element
pub field : (d : Delimiters) {f o o₁ o₂ : Bytes} {n m r : ℕ} → From n (d.element ∷ []) m o o₁ → From m f r o₁ o₂ → From n (fields_out d (f ∷ [])) r o o₂
field d {f} a b = said (field_out d f) (seq a b)

-- an element at the end, which is left off where it is empty
pub trailing_none : (e : Bytes) → length e ≡ 0 → trailing e ≡ []
unfolding trailing
trailing_none [] h = refl
trailing_none (b ∷ e) h = absurd (omega arith)

pub trailing_some : (e : Bytes) → (length e ≡ 0 → ⊥) → trailing e ≡ e ∷ []
unfolding trailing
trailing_some [] h = absurd (h refl)
trailing_some (b ∷ e) h = refl

-- elements after elements
pub also : (d : Delimiters) (fs gs : Segment) {o o₁ o₂ : Bytes} {n m r : ℕ}
    → From n (fields_out d fs) m o o₁ → From m (fields_out d gs) r o₁ o₂ → From n (fields_out d (fs ++ gs)) r o o₂
also d fs gs a b = said (fields_append d fs gs) (seq a b)

-- 2. A segment: its id, elements, and the terminator.
-- A piece wrote, after s bytes, its id and then the elements fs: it has come to n, and leaves o as o'.
pub record Begun (s : ℕ) (d : Delimiters) (id : Bytes) (fs : Segment) (n : ℕ) (o o' : Bytes) : Type 0 where
  pub text : From s (id ++ fields_out d fs) n o o'

pub begin : (d : Delimiters) {id o o₁ : Bytes} {s n : ℕ} → From s id n o o₁ → Begun s d id [] n o o₁
unfolding fields_out
begin d {id} a = record { text = said (append-nil id) a }

pub more : {d : Delimiters} {id o o₁ o₂ : Bytes} {fs : Segment} {s n m : ℕ}
    → Begun s d id fs n o o₁ → (gs : Segment) → From n (fields_out d gs) m o₁ o₂ → Begun s d id (fs ++ gs) m o o₂
more {d} {id} {o} {o₁} {o₂} {fs} a gs b =
    record {
      text =
          said (ap (λ (l : Bytes). id ++ l) (fields_append d fs gs) ∙ sym (append_assoc id (fields_out d fs) (fields_out d gs))) (seq a.text b);
    }

pub end : {d : Delimiters} {id o o₁ o₂ : Bytes} {fs : Segment} {s n r : ℕ}
    → Begun s d id fs n o o₁ → From n (d.terminator ∷ []) r o₁ o₂ → From s (segment_out d (id ∷ fs)) r o o₂
end a b = seq a.text b

-- 3. A list of segments.
-- a piece that is a segment
pub one : (d : Delimiters) (s : Segment) {o o₁ : Bytes} {n r : ℕ} → From n (segment_out d s) r o o₁ → From n (out d (s ∷ [])) r o o₁
unfolding out
one d s a = said (append-nil (segment_out d s)) a

-- a piece after a piece
pub then : (d : Delimiters) (ss us : List Segment) {o o₁ o₂ : Bytes} {n m r : ℕ}
    → From n (out d ss) m o o₁ → From m (out d us) r o₁ o₂ → From n (out d (ss ++ us)) r o o₂
then d ss us a b = said (out_append d ss us) (seq a b)

-- 4. Codes as elements: a loop's turn and its end.
pub codes_turn : (d : Delimiters) (cs : Bytes) (i : ℕ) → i < length cs
    → fields_out d (map decimal (drop i cs)) ≡ fields_out d (decimal (get_or cs i 0) ∷ []) ++ fields_out d (map decimal (drop (i + 1) cs))
codes_turn d cs i h = rw (add-one, drop-cons cs i 0) (fields_append d (decimal (get_or cs i 0) ∷ []) (map decimal (drop (suc i) cs)))

pub codes_end : (d : Delimiters) (cs : Bytes) (i : ℕ) → length cs ≤ i → fields_out d (map decimal (drop i cs)) ≡ []
unfolding fields_out
codes_end d cs i h = rw drop_of_length-le
