-- Laws of cutting: what is cut is whole, cutting and writing undo each other, and which bytes are valid.
use mathlib.Core.Path.{◌≡◌, refl, sym, ◌∙◌, ap}
use mathlib.Core.Bool.{Bool, true, false, ◌||◌, not, false≢true, true≢false}
use mathlib.Core.List.{List, [], ◌∷◌, ◌++◌, map, append-nil, append_assoc}
use Prim.Native.Nat.{ℕ, ◌≤◌}
use native.Mathlib.Omega.{arith}
use borrow.Author.Tests.{not-true, eq-eqb, eqb-true, eqb-false, leb-true, le-leb}
use lib.Dec.{leb, eqb}
use Rattle.rules.specs.Base.{Bytes, between, is_digit, is_upper, is_lower, all, any, null, push, last}
use Rattle.rules.specs.Cutting.{Segment, cut_at, pieces, split, segments, marks, separates_repetitions, valid}
use Rattle.rules.specs.Refusals.{plain}
use Rattle.rules.specs.Response.{fields_out, segment_out, out}
use Rattle.rules.specs.Damage.{free, is_whole}
use Rattle.rules.specs.declared.Delimiters.{Delimiters}
use Rattle.rules.proofs.Logic.{and_left, and_right, or_left, or_right, all_head, all_tail, all_cons, all_append}

free_head : (t x : ℕ) (xs : Bytes) → free t (x ∷ xs) ≡ true → eqb x t ≡ false
free_head t x xs e = not-true (eqb x t) (all_head (λ b. not (eqb b t)) x xs e)

free_tail : (t x : ℕ) (xs : Bytes) → free t (x ∷ xs) ≡ true → free t xs ≡ true
free_tail t x xs e = all_tail (λ b. not (eqb b t)) x xs e

free_cons : (t x : ℕ) (xs : Bytes) → eqb x t ≡ false → free t xs ≡ true → free t (x ∷ xs) ≡ true
free_cons t x xs e f = all_cons (λ b. not (eqb b t)) x xs (rw e) f

-- 1. A piece, or a field, and what follows it.
pub pieces_step : (t : ℕ) (xs ys : Bytes) → free t xs ≡ true → pieces t (xs ++ t ∷ ys) ≡ xs ∷ pieces t ys
unfolding pieces
pieces_step t [] ys e = rw (eq-eqb t t refl)
pieces_step t (x ∷ xs) ys e = rw (free_head t x xs e, pieces_step t xs ys (free_tail t x xs e))

pub split_step : (s : ℕ) (xs ys : Bytes) → free s xs ≡ true → split s (xs ++ s ∷ ys) ≡ xs ∷ split s ys
unfolding split
split_step s [] ys e = rw (eq-eqb s s refl)
split_step s (x ∷ xs) ys e = rw (free_head s x xs e, split_step s xs ys (free_tail s x xs e))

pub split_end : (s : ℕ) (xs : Bytes) → free s xs ≡ true → split s xs ≡ xs ∷ []
unfolding split
split_end s [] e = refl
split_end s (x ∷ xs) e = rw (free_head s x xs e, split_end s xs (free_tail s x xs e))

-- 2. Cutting undoes writing.
module _ (d : Delimiters) (ne : eqb d.element d.terminator ≡ false) where
  split_out : (f : Bytes) (fs : List Bytes) → all (free d.element) (f ∷ fs) ≡ true → split d.element (f ++ fields_out d fs) ≡ f ∷ fs
  unfolding fields_out
  split_out f [] e = rw (append-nil f) (split_end d.element f (all_head (free d.element) f [] e))
  split_out f (g ∷ gs) e =
      split_step d.element f (g ++ fields_out d gs) (all_head (free d.element) f (g ∷ gs) e)
      ∙ ap (λ (l : List Bytes). f ∷ l) (split_out g gs (all_tail (free d.element) f (g ∷ gs) e))

  free_out : (fs : List Bytes) → all (free d.terminator) fs ≡ true → free d.terminator (fields_out d fs) ≡ true
  unfolding fields_out all
  free_out [] e = refl
  free_out (f ∷ fs) e =
      rw ne
      (all_append (λ b. not (eqb b d.terminator)) f (fields_out d fs) (all_head (free d.terminator) f fs e)
      (free_out fs (all_tail (free d.terminator) f fs e)))

  pub segments_out : (ss : List Segment) → all (is_whole d) ss ≡ true → segments d (out d ss) ≡ ss
  unfolding segments out pieces
  segments_out [] e = refl
  segments_out ([] ∷ ss) e = absurd (false≢true (all_head (is_whole d) [] ss e))
  segments_out ((f ∷ fs) ∷ ss) e =
      let t = d.terminator in
      let el = all (free d.element) (f ∷ fs) in
      let te = all (free t) (f ∷ fs) in
      let w = all_head (is_whole d) (f ∷ fs) ss e in
      let ft = and_right el te w in
      let fr = all_append (λ b. not (eqb b t)) f (fields_out d fs) (all_head (free t) f fs ft) (free_out fs (all_tail (free t) f fs ft)) in
      rw (
        append_assoc (f ++ fields_out d fs) (t ∷ []) (out d ss),
        pieces_step t (f ++ fields_out d fs) (out d ss) fr,
        split_out f fs (and_left el te w),
      )
      (ap (λ (l : List Segment). (f ∷ fs) ∷ l) (segments_out ss (all_tail (is_whole d) (f ∷ fs) ss e)))

-- 3. What is cut is whole.
push_free : (t b : ℕ) (ps : List Bytes) → eqb b t ≡ false → all (free t) ps ≡ true → all (free t) (push b ps) ≡ true
unfolding all
push_free t b [] h e = rw h
push_free t b (p ∷ ps) h e = all_cons (free t) (b ∷ p) ps (free_cons t b p h (all_head (free t) p ps e)) (all_tail (free t) p ps e)

-- a byte that cuts, or is not t
cut_at_free : (t b : ℕ) (c : Bool) → (c ≡ false → eqb b t ≡ false) → (ps : List Bytes) → all (free t) ps ≡ true → all (free t) (cut_at c b ps) ≡ true
unfolding all
cut_at_free t b true h ps e = e
cut_at_free t b false h ps e = push_free t b ps (h refl) e

pieces_free : (t : ℕ) (bs : Bytes) → all (free t) (pieces t bs) ≡ true
unfolding pieces all
pieces_free t [] = refl
pieces_free t (b ∷ bs) = cut_at_free t b (eqb b t) (λ e. e) (pieces t bs) (pieces_free t bs)

split_free : (s : ℕ) (bs : Bytes) → all (free s) (split s bs) ≡ true
unfolding split all
split_free s [] = refl
split_free s (b ∷ bs) = cut_at_free s b (eqb b s) (λ e. e) (split s bs) (split_free s bs)

-- a byte t that is not among the bytes is not among the pieces, nor among the fields
pieces_other : (u t : ℕ) (bs : Bytes) → free t bs ≡ true → all (free t) (pieces u bs) ≡ true
unfolding pieces all
pieces_other u t [] e = refl
pieces_other u t (b ∷ bs) e =
    cut_at_free t b (eqb b u) (λ h. free_head t b bs e) (pieces u bs) (pieces_other u t bs (free_tail t b bs e))

split_other : (s t : ℕ) (bs : Bytes) → free t bs ≡ true → all (free t) (split s bs) ≡ true
unfolding split all
split_other s t [] e = refl
split_other s t (b ∷ bs) e =
    cut_at_free t b (eqb b s) (λ h. free_head t b bs e) (split s bs) (split_other s t bs (free_tail t b bs e))

cut_at_some : (c : Bool) (b : ℕ) (ps : List Bytes) → null (cut_at c b ps) ≡ false
cut_at_some true b ps = refl
cut_at_some false b [] = refl
cut_at_some false b (p ∷ ps) = refl

pub split_some : (s : ℕ) (bs : Bytes) → null (split s bs) ≡ false
unfolding split
split_some s [] = refl
split_some s (b ∷ bs) = cut_at_some (eqb b s) b (split s bs)

whole_split : (d : Delimiters) (ps : List Bytes) → all (free d.terminator) ps ≡ true → all (is_whole d) (map (split d.element) ps) ≡ true
unfolding all
whole_split d [] e = refl
whole_split d (p ∷ ps) e =
    rw (
      split_some d.element p,
      split_free d.element p,
      split_other d.element d.terminator p (all_head (free d.terminator) p ps e),
    )
    (whole_split d ps (all_tail (free d.terminator) p ps e))

pub segments_whole : (d : Delimiters) (i : Bytes) → all (is_whole d) (segments d i) ≡ true
unfolding segments
segments_whole d i = whole_split d (pieces d.terminator i) (pieces_free d.terminator i)

pub segments_other : (d : Delimiters) (t : ℕ) (bs : Bytes) → free t bs ≡ true → all (all (free t)) (segments d bs) ≡ true
unfolding segments all
segments_other d t bs e = go (pieces d.terminator bs) (pieces_other d.terminator t bs e)
  where
    go : (ps : List Bytes) → all (free t) ps ≡ true → all (all (free t)) (map (split d.element) ps) ≡ true
    go [] e = refl
    go (p ∷ ps) e = rw (split_other d.element t p (all_head (free t) p ps e)) (go ps (all_tail (free t) p ps e))

-- 4. Writing undoes cutting, where the last byte ends a segment.
push_out : (d : Delimiters) (b : ℕ) (ps : List Bytes) → null ps ≡ false → segment_out d (push b ps) ≡ b ∷ segment_out d ps
push_out d b [] e = absurd (false≢true (sym e))
push_out d b (p ∷ ps) e = refl

split_joins : (d : Delimiters) (bs : Bytes) → segment_out d (split d.element bs) ≡ bs ++ d.terminator ∷ []
unfolding split fields_out
split_joins d [] = refl
split_joins d (b ∷ bs) = go (eqb b d.element) refl (split_joins d bs)
  where
    go : (c : Bool) → eqb b d.element ≡ c → segment_out d (split d.element bs) ≡ bs ++ d.terminator ∷ []
        → segment_out d (cut_at c b (split d.element bs)) ≡ b ∷ (bs ++ d.terminator ∷ [])
    go true h e = rw (eqb-true b d.element h) (cut_out (split d.element bs) (split_some d.element bs) e)
      where
        cut_out : (ps : Segment) → null ps ≡ false → segment_out d ps ≡ bs ++ d.terminator ∷ []
            → segment_out d ([] ∷ ps) ≡ d.element ∷ (bs ++ d.terminator ∷ [])
        cut_out [] n e = absurd (false≢true (sym n))
        cut_out (p ∷ ps) n e = ap (λ (l : Bytes). d.element ∷ l) e
    go false h e = push_out d b (split d.element bs) (split_some d.element bs) ∙ ap (λ (l : Bytes). b ∷ l) e

pieces_some : (t b : ℕ) (bs : Bytes) → null (pieces t (b ∷ bs)) ≡ false
unfolding pieces
pieces_some t b bs = cut_at_some (eqb b t) b (pieces t bs)

-- one byte more in front of the pieces is one byte more in front of what they are written as
cut_rejoins : (d : Delimiters) (b : ℕ) (c : Bool) → eqb b d.terminator ≡ c → (ps : List Bytes) → (c ≡ false → null ps ≡ false)
    → out d (map (split d.element) (cut_at c b ps)) ≡ b ∷ out d (map (split d.element) ps)
unfolding out split fields_out
cut_rejoins d b true h ps n = rw (eqb-true b d.terminator h)
cut_rejoins d b false h [] n = absurd (false≢true (sym (n refl)))
cut_rejoins d b false h (p ∷ ps) n =
    ap (λ (l : Bytes). l ++ out d (map (split d.element) ps)) (split_joins d (b ∷ p) ∙ sym (ap (λ (l : Bytes). b ∷ l) (split_joins d p)))

pub out_segments : (d : Delimiters) (b : ℕ) (bs : Bytes) → last b bs ≡ d.terminator → out d (segments d (b ∷ bs)) ≡ b ∷ bs
unfolding segments pieces out last
out_segments d b [] e = cut_rejoins d b (eqb b d.terminator) refl [] (λ f. absurd (eqb-false b d.terminator f e))
out_segments d b (x ∷ xs) e =
    cut_rejoins d b (eqb b d.terminator) refl (pieces d.terminator (x ∷ xs)) (λ f. pieces_some d.terminator x xs)
    ∙ ap (λ (l : Bytes). b ∷ l) (out_segments d x xs e)

-- 5. Segments one after the other.
pub out_append : (d : Delimiters) (xs ys : List Segment) → out d (xs ++ ys) ≡ out d xs ++ out d ys
unfolding out
out_append d [] ys = refl
out_append d (x ∷ xs) ys = rw (out_append d xs ys) (sym (append_assoc (segment_out d x) (out d xs) (out d ys)))

-- 6. A valid byte differs from each delimiter.
pub valid_apart : (d : Delimiters) (b : ℕ) → valid d b ≡ true
    → (eqb b d.element ≡ false) × (eqb b d.component ≡ false) × (eqb b d.terminator ≡ false) × (separates_repetitions d b ≡ false)
unfolding valid marks any separates_repetitions
valid_apart d b e =
    let r = separates_repetitions d b in
    let t = eqb b d.terminator || r in
    let c = eqb b d.component || t in
    let none = not-true (eqb b d.element || c) (and_right (between 32 126 b) (not (eqb b d.element || c)) e) in
    let other = or_right (eqb b d.element) c none in
    let last = or_right (eqb b d.component) t other in
    (or_left (eqb b d.element) c none, or_left (eqb b d.component) t other, or_left (eqb b d.terminator) r last, or_right (eqb b d.terminator) r last)

-- 7. A letter, a digit and a space are valid, where no mark is one.
pub plain_other : (t b : ℕ) → plain t ≡ true → plain b ≡ false → eqb b t ≡ false
plain_other t b p q = go (eqb b t) refl
  where
    go : (c : Bool) → eqb b t ≡ c → eqb b t ≡ false
    go false e = e
    go true e = absurd (true≢false (sym p ∙ ap plain (sym (eqb-true b t e)) ∙ q))

pub digit_common : (b : ℕ) → is_digit b ≡ true → not (plain b) ≡ true
digit_common b e = rw e (go (is_upper b) (is_lower b) (eqb b 32))
  where
    go : (u l s : Bool) → not (not (u || l || true || s)) ≡ true
    go true l s = refl
    go false true s = refl
    go false false s = refl

within : (lo hi c : ℕ) → 32 ≤ lo → hi ≤ 126 → between lo hi c ≡ true → between 32 126 c ≡ true
within lo hi c l h e =
    let low = leb-true lo c (and_left (leb lo c) (leb c hi) e) in
    let high = leb-true c hi (and_right (leb lo c) (leb c hi) e) in
    rw (le-leb 32 c (omega (arith, l, low)), le-leb c 126 (omega (arith, h, high)))

common_range : (c : ℕ) → plain c ≡ false → between 32 126 c ≡ true
common_range c e = go (is_upper c) refl (is_lower c) refl (is_digit c) refl (eqb c 32) refl e
  where
    go : (u : Bool) → is_upper c ≡ u → (l : Bool) → is_lower c ≡ l → (n : Bool) → is_digit c ≡ n → (s : Bool) → eqb c 32 ≡ s
        → not (u || l || n || s) ≡ false → between 32 126 c ≡ true
    go true p l q n r s t e = within 65 90 c (omega arith) (omega arith) p
    go false p true q n r s t e = within 97 122 c (omega arith) (omega arith) q
    go false p false q true r s t e = within 48 57 c (omega arith) (omega arith) r
    go false p false q false r true t e = rw (eqb-true c 32 t)
    go false p false q false r false t e = absurd (true≢false e)

common_apart : (ms : List ℕ) (c : ℕ) → all plain ms ≡ true → plain c ≡ false → any (eqb c) ms ≡ false
unfolding any
common_apart [] c p e = refl
common_apart (m ∷ ms) c p e = rw (plain_other m c (all_head plain m ms p) e) (common_apart ms c (all_tail plain m ms p) e)

pub common_valid : (d : Delimiters) → all plain (marks d) ≡ true → (c : ℕ) → not (plain c) ≡ true → valid d c ≡ true
unfolding valid
common_valid d p c e = let q = not-true (plain c) e in rw (common_range c q, common_apart (marks d) c p q)
