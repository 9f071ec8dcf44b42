-- Syntax notes: the relations test by test, the notes of an entry at a cursor, and which code a broken note gives.
use Rattle.std.proofs.Common.{◌≡◌, eqb, ℕ, ◌+◌, ◌-◌, ◌≤◌, Bool, true, false, not, ◌&&◌, ◌||◌, cond, ltb, suc, ◌∙◌, None, Some, if◌then◌else◌, List, [], ◌∷◌, length, get_or, take, drop, sym, refl, true≢false, add-one, arith, length-drop, drop_of_length-le, take_all}
use Rattle.std.proofs.lemmas.Bool.Decides.{nat_tests}
use Rattle.std.specs.List.{list_any, position, position_or_len}
use mathlib.Core.Bool.{beq}
use borrow.Author.Tests.{ltb-false}
use Rattle.rules.specs.Base.{any}
use Rattle.rules.specs.Cutting.{Segment}
use Rattle.rules.specs.Elements.{present, is_place, after_present, lacking, excluded, shuts_out}
use Rattle.rules.specs.Tables.{Syntax}
use Rattle.tables.specs.Rows.{is_row, syntax_in}
use Rattle.rules.specs.declared.Relation.{Relation}
use Rattle.rules.specs.declared.Relation.TheVariants.{P, R, E, C, L}
use Rattle.text.proofs.Loops.{and_false}
use Rattle.tables.specs.Reading.{Guide, note_at}
use Rattle.tables.proofs.Laws.{notes_here, notes_skip, notes_stop, notes_end}
use Rattle.elements.specs.Notes.{breaks, is_e}

-- 1. The places after the first present one.
module _ (s : Segment) where
  after_is : (ps : List ℕ) → after_present s ps ≡ drop (suc (position_or_len (present s) ps)) ps
  unfolding after_present
  after_is [] = refl
  after_is (p ∷ ps) = go (present s p) (after_is ps)
    where
      r : ℕ
      r = position_or_len (present s) ps

      go : (b : Bool) → after_present s ps ≡ drop (suc r) ps → (if b then ps else after_present s ps) ≡ drop (suc (cond (not b) (1 + r) 0)) (p ∷ ps)
      go true e = refl
      go false e = let more : 1 + r ≡ suc r = omega arith in rw (e, more)

  module _ (ps : List ℕ) where
    abbrev p : ℕ
    p = position_or_len (present s) ps

    pub after_some : {i : ℕ} → position (present s) ps ≡ Some i → after_present s ps ≡ drop (i + 1) ps
    after_some {i} h = go (ltb p (length ps)) h
      where
        go : (b : Bool) → cond b (Some p) None ≡ Some i → after_present s ps ≡ drop (i + 1) ps
        go true e = let same : p ≡ i = cc in rw (after_is ps, add-one, same)
        go false e = absurd (cc)

    pub after_none : position (present s) ps ≡ None → after_present s ps ≡ []
    after_none h = go (ltb p (length ps)) refl h
      where
        go : (b : Bool) → ltb p (length ps) ≡ b → cond b (Some p) None ≡ None → after_present s ps ≡ []
        go true l e = absurd (cc)
        go false l e = let past = ltb-false p (length ps) l in after_is ps ∙ drop_of_length-le ps {i = suc p} (omega arith)

-- 2. The relations.
-- one of the places is n, as `contains` says it
turned_test : (a b : ℕ) → eqb a b ≡ eqb b a
turned_test a b = grind (arith, nat_tests)

pub member-is : (n : ℕ) (ps : List ℕ) → list_any (λ p. eqb p n) ps ≡ is_place n ps
unfolding any
member-is n [] = refl
member-is n (p ∷ ps) = rw (turned_test p n, member-is n ps)

pub rest : (ps : List ℕ) (k : ℕ) → take (length ps - k) (drop k ps) ≡ drop k ps
rest ps k = take_all (length ps - k) (drop k ps) (simp length-drop (omega arith))

pub turned : (a b c : Bool) → a && b && c ≡ b && (c && a)
turned true true true = refl
turned true true false = refl
turned true false c = refl
turned false true true = refl
turned false true false = refl
turned false false c = refl

module _ (s : Segment) (n : ℕ) where
  pub pair : (ps : List ℕ) → lacking s P ps n ≡ is_place n ps && (not (present s n) && any (present s) ps)
  pair ps = turned (any (present s) ps) (is_place n ps) (not (present s n))

-- 3. A note asks only for what is absent, and shuts out only what is present.
module _ (s : Segment) (n : ℕ) where
  pub excluded_absent : (r : Relation) (ps : List ℕ) → present s n ≡ false → excluded s r ps n ≡ false
  excluded_absent E ps e = rw e (and_false (is_place n (after_present s ps)))
  excluded_absent P ps e = refl
  excluded_absent R ps e = refl
  excluded_absent C ps e = refl
  excluded_absent L ps e = refl

  pub shuts_absent : (notes : List Syntax) → present s n ≡ false → shuts_out notes s n ≡ false
  unfolding shuts_out any
  shuts_absent [] e = refl
  shuts_absent (c ∷ notes) e = rw (excluded_absent c.relation c.places e) (shuts_absent notes e)

  -- so E is not broken where an element is absent, nor another relation where it is present
  pub breaks_not : (b : Bool) (r : Relation) (ps : List ℕ) → not (beq (is_e r) b) ≡ true → breaks b s n (record { relation = r; places = ps }) ≡ false
  breaks_not true E ps e = absurd (true≢false (sym e))
  breaks_not true P ps e = refl
  breaks_not true R ps e = refl
  breaks_not true C ps e = refl
  breaks_not true L ps e = refl
  breaks_not false E ps e = refl
  breaks_not false P ps e = absurd (true≢false (sym e))
  breaks_not false R ps e = absurd (true≢false (sym e))
  breaks_not false C ps e = absurd (true≢false (sym e))
  breaks_not false L ps e = absurd (true≢false (sym e))

-- no difference
pub alike : (a b : Bool) → not (beq a b) ≡ false → a ≡ b
alike true true e = refl
alike true false e = absurd (true≢false e)
alike false true e = absurd (true≢false e)
alike false false e = refl

-- 4. The notes of an entry at a cursor: the one at row k passes as q says, and the rest decides.
module _ (p : Syntax → Bool) (rows : Guide) (k : ℕ) where
  pub notes_step : (q : Bool) → is_row 1 (get_or rows k []) ≡ false → q ≡ (is_row 4 (get_or rows k []) && p (note_at rows k))
      → any p (syntax_in (drop k rows)) ≡ q || any p (syntax_in (drop (k + 1) rows))
  unfolding any
  notes_step q e f = rw f (go (is_row 4 (get_or rows k [])) refl)
    where
      go : (b : Bool) → is_row 4 (get_or rows k []) ≡ b
          → any p (syntax_in (drop k rows)) ≡ (b && p (note_at rows k)) || any p (syntax_in (drop (k + 1) rows))
      go true g = rw (notes_here rows k g)
      go false g = rw (notes_skip rows k e g)

  pub notes_over : is_row 1 (get_or rows k []) ≡ true → any p (syntax_in (drop k rows)) ≡ false
  unfolding any
  notes_over e = rw (notes_stop rows k e)

  pub notes_past : length rows ≤ k → any p (syntax_in (drop k rows)) ≡ false
  unfolding any
  notes_past h = rw (notes_end rows k h)
