-- A guide at a cursor: what stands at row k and what is left from the next row on.
use Rattle.std.specs.Prelude.{if◌then◌else◌}
use Prim.Native.Nat.{ℕ, zero, suc, ◌+◌, ◌%◌, ◌<◌, ◌≤◌, suc-le-suc}
use mathlib.Core.Path.{◌≡◌, refl, sym, ap, ◌∙◌}
use mathlib.Core.Bool.{Bool, true, false, ◌||◌, not}
use mathlib.Core.List.{List, [], ◌∷◌}
use native.Mathlib.Nat.{mod-eq_of_lt, le_of_suc-le-suc, not-suc-le-zero}
use native.Mathlib.Numerals.{add-one}
use native.Mathlib.Omega.{arith}
use borrow.Author.Tests.{ne_eqb, eqb-true, ltb-true, ltb-false}
use lib.Dec.{ltb, lit<}
use lib.ListN.{length, get_or, take, drop, drop_of_length-le}
use lib.Seq.{drop-cons, get_or-drop, get_or-take}
use Rattle.rules.specs.Base.{Bytes, same, null, all, any, member}
use Rattle.tables.specs.Rows.{column, is_row, filled, codes_in, rows_in, syntax_in}
use Rattle.rules.proofs.Logic.{and_left, and_right, all_at}
use Rattle.text.proofs.Search.{find_le}
use Rattle.tables.specs.declared.Places.{Places}
use Rattle.tables.specs.Reading.{Guide, is_byte, entry_at, row_at, note_at, codes_at, row_below, places_at, id_in, id_at, id_bytes, ids_are_bytes, followed}
use Rattle.tables.proofs.Numbers.{filled_take}

-- 1. What is left from row k on.
-- a row that is something stands before the end
pub row_within : (what : ℕ) → 0 < what → (rows : Guide) (k : ℕ) → is_row what (get_or rows k []) ≡ true → k < length rows
row_within what w [] zero e = let z : 0 ≡ what = eqb-true 0 what e in omega arith
row_within what w [] (suc k) e = let z : 0 ≡ what = eqb-true 0 what e in omega arith
row_within what w (r ∷ rows) zero e = omega arith
row_within what w (r ∷ rows) (suc k) e = suc-le-suc (row_within what w rows k e)

-- what is one thing is not another
other : (r : List ℕ) (a b : ℕ) → (a ≡ b → ⊥) → is_row a r ≡ true → is_row b r ≡ false
other r a b n e = ne_eqb (get_or r 0 0) b (λ (f : get_or r 0 0 ≡ b). n (sym (eqb-true (get_or r 0 0) a e) ∙ f))

module _ (rows : Guide) (k : ℕ) where
  here : k < length rows → drop k rows ≡ get_or rows k [] ∷ drop (k + 1) rows
  here h = rw add-one (drop-cons rows k [] h)

  none : length rows ≤ k → drop k rows ≡ []
  none h = drop_of_length-le rows {i = k} h

  either : {X : Type 0} → (k < length rows → X) → (length rows ≤ k → X) → X
  either {X} f g = go (ltb k (length rows)) refl
    where
      go : (b : Bool) → ltb k (length rows) ≡ b → X
      go true e = f (ltb-true _ _ e)
      go false e = g (ltb-false _ _ e)

  past : length rows ≤ k → drop k rows ≡ drop (k + 1) rows
  past h = none h ∙ sym (drop_of_length-le rows {i = k + 1} (omega arith))

  -- from the row below on, what follows row k is left
  pub below_rest : {below : ℕ} → below ≡ row_below rows k → drop below rows ≡ drop (k + 1) rows
  below_rest h = rw h (go (ltb k (length rows)) refl)
    where
      go : (b : Bool) → ltb k (length rows) ≡ b → drop (if b then k + 1 else k) rows ≡ drop (k + 1) rows
      go true e = refl
      go false e = past (ltb-false _ _ e)

  -- the elements of a segment
  pub rows_here : is_row 2 (get_or rows k []) ≡ true → rows_in (drop k rows) ≡ row_at rows k ∷ rows_in (drop (k + 1) rows)
  unfolding rows_in
  rows_here e = rw (here (row_within 2 (lit< tt) rows k e), other (get_or rows k []) 2 1 (λ x. omega arith) e, e)

  pub rows_skip : is_row 1 (get_or rows k []) ≡ false → is_row 2 (get_or rows k []) ≡ false → rows_in (drop k rows) ≡ rows_in (drop (k + 1) rows)
  unfolding rows_in
  rows_skip e f = either (λ h. rw (here h, e, f)) (λ h. ap rows_in (past h))

  pub rows_stop : is_row 1 (get_or rows k []) ≡ true → rows_in (drop k rows) ≡ []
  unfolding rows_in
  rows_stop e = rw (here (row_within 1 (lit< tt) rows k e), e)

  pub rows_end : length rows ≤ k → rows_in (drop k rows) ≡ []
  unfolding rows_in
  rows_end h = ap rows_in (none h)

  -- the syntax notes of a segment
  pub notes_here : is_row 4 (get_or rows k []) ≡ true → syntax_in (drop k rows) ≡ note_at rows k ∷ syntax_in (drop (k + 1) rows)
  unfolding syntax_in
  notes_here e = rw (here (row_within 4 (lit< tt) rows k e), other (get_or rows k []) 4 1 (λ x. omega arith) e, e)

  pub notes_skip : is_row 1 (get_or rows k []) ≡ false → is_row 4 (get_or rows k []) ≡ false → syntax_in (drop k rows) ≡ syntax_in (drop (k + 1) rows)
  unfolding syntax_in
  notes_skip e f = either (λ h. rw (here h, e, f)) (λ h. ap syntax_in (past h))

  pub notes_stop : is_row 1 (get_or rows k []) ≡ true → syntax_in (drop k rows) ≡ []
  unfolding syntax_in
  notes_stop e = rw (here (row_within 1 (lit< tt) rows k e), e)

  pub notes_end : length rows ≤ k → syntax_in (drop k rows) ≡ []
  unfolding syntax_in
  notes_end h = ap syntax_in (none h)

  -- the code values of an element
  pub codes_here : is_row 3 (get_or rows k []) ≡ true → codes_at rows k ≡ filled (drop 1 (get_or rows k [])) ∷ codes_at rows (k + 1)
  unfolding codes_in
  codes_here e = rw (here (row_within 3 (lit< tt) rows k e), e)

  pub codes_stop : is_row 3 (get_or rows k []) ≡ false → codes_at rows k ≡ []
  unfolding codes_in
  codes_stop e = either (λ h. rw (here h, e)) (λ h. ap codes_in (none h))

  -- a value is the code at k as q says, and the rest decides
  pub listed_step : (value : Bytes) (q : Bool) → is_row 3 (get_or rows k []) ≡ true → same value (filled (drop 1 (get_or rows k []))) ≡ q
      → member value (codes_at rows k) ≡ q || member value (codes_at rows (k + 1))
  unfolding any
  listed_step value q e f = rw (codes_here e, f)

  pub listed_end : (value : Bytes) → is_row 3 (get_or rows k []) ≡ false → member value (codes_at rows k) ≡ false
  unfolding any
  listed_end value e = rw (codes_stop e)

  pub codes_any : not (null (codes_at rows k)) ≡ is_row 3 (get_or rows k [])
  codes_any = go (is_row 3 (get_or rows k [])) refl
    where
      go : (b : Bool) → is_row 3 (get_or rows k []) ≡ b → not (null (codes_at rows k)) ≡ b
      go true e = rw (codes_here e)
      go false e = rw (codes_stop e)

-- 2. The places of a note by value.
four : (r : List ℕ) → filled (column r 2 ∷ column r 3 ∷ column r 4 ∷ column r 5 ∷ []) ≡ filled (take 4 (drop 2 r))
unfolding filled
four [] = refl
four (a ∷ []) = refl
four (a ∷ (b ∷ [])) = refl
four (a ∷ (b ∷ (c ∷ []))) = refl
four (a ∷ (b ∷ (c ∷ (d ∷ [])))) = refl
four (a ∷ (b ∷ (c ∷ (d ∷ (e ∷ []))))) = refl
four (a ∷ (b ∷ (c ∷ (d ∷ (e ∷ (f ∷ r)))))) = refl

module _ (rows : Guide) (k : ℕ) {p : Places} (e : p ≡ places_at rows k) where
  -- the count is within the numbers
  pub places_within : p.count ≤ length p.numbers
  places_within = rw e (omega (arith, find_le 0 (places_at rows k).numbers 0 (omega arith)))

  -- as many of them as it says are the note's places
  pub places_named : take p.count p.numbers ≡ (note_at rows k).places
  places_named = rw e (filled_take (places_at rows k).numbers ∙ four (get_or rows k []))

-- 3. An id by value.
byte_at : (xs : List ℕ) (i : ℕ) → all is_byte xs ≡ true → get_or xs i 0 < 256
unfolding all
byte_at [] zero e = lit< tt
byte_at [] (suc i) e = lit< tt
byte_at (x ∷ xs) zero e = ltb-true x 256 (and_left (is_byte x) (all is_byte xs) e)
byte_at (x ∷ xs) (suc i) e = byte_at xs i (and_right (is_byte x) (all is_byte xs) e)

three : (xs : List ℕ) → filled (get_or xs 0 0 ∷ get_or xs 1 0 ∷ get_or xs 2 0 ∷ []) ≡ filled (take 3 xs)
unfolding filled
three [] = refl
three (a ∷ []) = refl
three (a ∷ (b ∷ [])) = refl
three (a ∷ (b ∷ (c ∷ xs))) = refl

low : (r : List ℕ) (i : ℕ) → i < 3 → all is_byte (id_in r) ≡ true → get_or r (1 + i) 0 % 256 ≡ get_or (drop 1 r) i 0
low r i h e =
    let s : get_or (drop 1 r) i 0 < 256 = rw (get_or-take 3 (drop 1 r) i 0 h) at (byte_at (id_in r) i e) in
    rw (← get_or-drop 1 r i 0) (mod-eq_of_lt s)

-- where the numbers of the ids are bytes, the id of a segment by value is the entry's
pub id_bytes_lem : (rows : Guide) (k : ℕ) → ids_are_bytes rows ≡ true → is_row 1 (get_or rows k []) ≡ true
    → id_bytes (id_at rows k) ≡ (entry_at rows k).id
unfolding id_bytes id_at ids_are_bytes
id_bytes_lem rows k e h =
    let r = get_or rows k [] in
    let b : all is_byte (id_in r) ≡ true = rw h at (all_at _ rows [] k e (row_within 1 (lit< tt) rows k h)) in
    rw (low r 0 (lit< tt) b, low r 1 (lit< tt) b, low r 2 (lit< tt) b) (three (drop 1 r))

-- what follows each row of a kind, from a row on and at one of them
module _ (what : ℕ) (p : Guide → Bool) where
  pub followed_from : (rows : Guide) (k : ℕ) → followed what p rows ≡ true → followed what p (drop k rows) ≡ true
  unfolding followed
  followed_from rows zero h = h
  followed_from [] (suc k) h = refl
  followed_from (r ∷ rows) (suc k) h = followed_from rows k (and_right (not (is_row what r) || p rows) (followed what p rows) h)

  pub followed_at : (rows : Guide) (k : ℕ) → followed what p rows ≡ true → k < length rows → is_row what (get_or rows k []) ≡ true → p (drop (suc k) rows) ≡ true
  unfolding followed
  followed_at [] k h l e = absurd (not-suc-le-zero l)
  followed_at (r ∷ rows) zero h l e = rw e at (and_left (not (is_row what r) || p rows) (followed what p rows) h)
  followed_at (r ∷ rows) (suc k) h l e = followed_at rows k (and_right (not (is_row what r) || p rows) (followed what p rows) h) (le_of_suc-le-suc l) e
