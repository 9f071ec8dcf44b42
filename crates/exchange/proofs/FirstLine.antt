-- The call of an input: where its first line ends, the numbers of the line, and what is printed for it.
use Rattle.std.specs.Prelude.{if◌then◌else◌, cond, not, Option, None, Some, option_map}
use Rattle.std.specs.List.{position, position_or_len}
use Rattle.std.proofs.lemmas.Bool.Decides.{nat_tests}
use Rattle.std.proofs.lemmas.Option.{cond_some}
use Rattle.std.proofs.lemmas.List.{drop-take}
use Prim.Native.Nat.{ℕ, suc, ◌+◌, ◌-◌, ◌<◌, ◌≤◌}
use mathlib.Core.Path.{◌≡◌, refl, ap, ◌∙◌}
use mathlib.Core.Bool.{Bool, true, false, ◌&&◌}
use mathlib.Core.List.{[], ◌∷◌}
use native.Mathlib.Nat.{zero-add, suc-add, lt_of_lt_of_le, pow-le-pow_right}
use native.Mathlib.Numerals.{add-one}
use native.Mathlib.Omega.{arith}
use borrow.Author.Tests.{ltb-true, ltb-false, lt-ltb, le-ltb}
use lib.Dec.{eqb, ltb, lit<}
use lib.ListN.{length, get_or, take, drop, length-drop, drop_of_length-le}
use lib.Seq.{take_all, length-take-le, slice}
use Rattle.rules.specs.Base.{Bytes}
use Rattle.rules.specs.Numbers.{digits, value}
use Rattle.rules.specs.Program.{Input, parted, behind_byte, is_call, refused_text, printed_reply, printed_call, printed_for}
use Rattle.rules.specs.Answers.{Replies}
use Rattle.rules.proofs.Logic.{and_left, and_right}
use Rattle.text.specs.Text.{index_of, up_to_ten}
use Rattle.text.proofs.Digits.{digits_length, value_of, value_below}
use Rattle.text.proofs.Library.{position-is}
use Rattle.std.proofs.Math.Bool.{and-false}
use Rattle.exchange.specs.Calls.{line_on, line_for, line_in}
use Rattle.exchange.specs.declared.first_line.FirstLine.{FirstLine}

-- 1. Parts of bytes.
-- the part from a place to the end
pub rest : (at : ℕ) (l : Bytes) → take (length l - at) (drop at l) ≡ drop at l
rest at l = take_all (length l - at) (drop at l) (simp length-drop (omega arith))

-- 2. The line.
-- the tests on what stands before the control number
abbrev opening : Bytes → Bool
opening l = digits 8 8 (take 8 l) && eqb (get_or l 8 0) 32 && digits 4 4 (slice 9 13 l) && eqb (get_or l 13 0) 32

too_short : (l : Bytes) → length l ≤ 14 → is_call l ≡ false
unfolding is_call digits
too_short l h = rw (drop_of_length-le l {i = 14} h) (and-false (opening l))

-- a line by its tests, on the parts as the code cuts them
pub by_tests : (l : Bytes)
    → is_call l
    ≡ ltb 14 (length l) && digits 8 8 (take 8 l) && eqb (get_or l 8 0) 32 && digits 4 4 (take 4 (drop 9 l)) && eqb (get_or l 13 0) 32
    && digits 1 9 (take (length l - 14) (drop 14 l))
unfolding is_call
by_tests l = go (ltb 14 (length l)) refl
  where
    go : (q : Bool) → ltb 14 (length l) ≡ q
        → is_call l
        ≡ q && digits 8 8 (take 8 l) && eqb (get_or l 8 0) 32 && digits 4 4 (take 4 (drop 9 l)) && eqb (get_or l 13 0) 32
        && digits 1 9 (take (length l - 14) (drop 14 l))
    go true h = rw (drop-take 9 4 l, rest 14 l)
    go false h = too_short l (ltb-false 14 (length l) h)

-- what a line that passes says of its parts
pub record CallLine (l : Bytes) : Type 0 where
  pub date : digits 8 8 (take 8 l) ≡ true
  pub time : digits 4 4 (take 4 (drop 9 l)) ≡ true
  pub control : digits 1 9 (take (length l - 14) (drop 14 l)) ≡ true
  pub long : 14 < length l
  pub short : length l ≤ 23

pub call_line : (l : Bytes) → is_call l ≡ true → CallLine l
unfolding is_call
call_line l e =
    let date = digits 8 8 (take 8 l) in
    let space = eqb (get_or l 8 0) 32 in
    let time = digits 4 4 (slice 9 13 l) in
    let control = and_right (opening l) (digits 1 9 (drop 14 l)) e in
    let size = digits_length 1 9 (drop 14 l) control in
    let timed = and_left (date && space && time) (eqb (get_or l 13 0) 32) (and_left (opening l) (digits 1 9 (drop 14 l)) e) in
    record {
      date = and_left date space (and_left (date && space) time timed);
      time = rw (drop-take 9 4 l) at (and_right (date && space) time timed);
      control = rw rest control;
      long = omega (arith, size, length-drop 14 l);
      short = omega (arith, size, length-drop 14 l);
    }

pub long : (l : Bytes) → is_call l ≡ true → 14 < length l
long l e = (call_line l e).long

-- a number of at most nine digits
nine_digits : (lo hi : ℕ) (s : Bytes) → digits lo hi s ≡ true → hi ≤ 9 → up_to_ten s < 1000000000
nine_digits lo hi s e h =
    let small : value s < 1000000000 = lt_of_lt_of_le (value_below lo hi s e) (pow-le-pow_right {n = 10} (lit< tt) {i = hi} {j = 9} h) in
    let same = value_of lo hi s e (omega arith) in
    omega arith

pub small_date : (l : Bytes) → is_call l ≡ true → up_to_ten (take 8 l) < 1000000000
small_date l e = nine_digits 8 8 _ (call_line l e).date (omega arith)

pub small_time : (l : Bytes) → is_call l ≡ true → up_to_ten (take 4 (drop 9 l)) < 1000000000
small_time l e = nine_digits 4 4 _ (call_line l e).time (omega arith)

pub small_control : (l : Bytes) → is_call l ≡ true → up_to_ten (take (length l - 14) (drop 14 l)) < 1000000000
small_control l e = nine_digits 1 9 _ (call_line l e).control (omega arith)

pub numbers_on : (l : Bytes) (date time control : ℕ) → is_call l ≡ true
    → date ≡ up_to_ten (take 8 l) → time ≡ up_to_ten (take 4 (drop 9 l)) → control ≡ up_to_ten (take (length l - 14) (drop 14 l))
    → line_on l ≡ Some (record { call = record { date = date; time = time; control = control }; interchange = length l + 1 })
numbers_on l date time control e d t c =
    let p = call_line l e in
    rw (e, d ∙ value_of 8 8 _ p.date (omega arith), t ∙ value_of 4 4 _ p.time (omega arith), c ∙ value_of 1 9 _ p.control (omega arith), rest, drop-take 9 4 l)

-- 3. The input.
-- where its first line ends
abbrev pub is_lf : ℕ → Bool
is_lf b = eqb b 10

abbrev pub line_end : Bytes → Option ℕ
line_end s = position is_lf s

-- by what `find` ensures
module _ (s : Bytes) (end : ℕ) (found : end ≡ 0 + index_of 10 (drop 0 s)) where
  pub ends_nowhere : length s ≤ end → line_end s ≡ None
  ends_nowhere h = let e : index_of 10 s ≡ end = omega arith in rw (position-is is_lf s, e, le-ltb end (length s) h)

  pub ends_there : end < length s → line_end s ≡ Some end
  ends_there h = let e : index_of 10 s ≡ end = omega arith in rw (position-is is_lf s, e, lt-ltb end (length s) h)

-- what stands before and after the byte at n
abbrev cut_at : Bytes → ℕ → Input
cut_at s n = record { line = take n s; interchange = drop (suc n) s }

parted_is : (s : Bytes) → parted s ≡ option_map (cut_at s) (line_end s)
unfolding parted
parted_is [] = refl
parted_is (b ∷ bs) = rw (parted_is bs) (go (eqb b 10) (position_or_len is_lf bs))
  where
    go : (q : Bool) (k : ℕ)
        → (if q then Some (record { line = []; interchange = bs }) else behind_byte b (option_map (cut_at bs) (cond (ltb k (length bs)) (Some k) None)))
        ≡ option_map (cut_at (b ∷ bs)) (cond (ltb (cond (not q) (1 + k) 0) (suc (length bs))) (Some (cond (not q) (1 + k) 0)) None)
    go true k = grind (arith, nat_tests)
    go false k = rw (suc-add, zero-add) (grind (arith, nat_tests))

ends_within : (s : Bytes) {n : ℕ} → line_end s ≡ Some n → n < length s
ends_within s e =
    let p = cond_some (ltb (position_or_len is_lf s) (length s)) _ _ e in
    omega (arith, ltb-true _ _ p.0, p.1)

module _ (s : Bytes) where
  pub no_call : line_end s ≡ None → line_in s ≡ None
  unfolding line_in
  no_call e = rw (parted_is s, e)

  pub call_at : {n : ℕ} → line_end s ≡ Some n → line_in s ≡ line_on (take n s)
  unfolding line_in
  call_at e = rw (parted_is s, e)

-- 4. What callers use.
-- what is printed of an acknowledgment for a call, with so much room for the response
abbrev pub printed_by : Replies → Option FirstLine → Bytes → ℕ → Bytes
printed_by replies (Some line) input room = printed_reply (replies (drop line.interchange input) line.call) room
printed_by replies None input room = refused_text 1

-- where the interchange of a call starts
abbrev start_of : Option FirstLine → ℕ
start_of (Some line) = line.interchange
start_of None = 0

module _ (input : Bytes) where
  pub printed_by_lem : (replies : Replies) (room : ℕ) (c : Option FirstLine) → c ≡ line_in input
      → printed_for replies (parted input) room ≡ printed_by replies c input room
  unfolding line_in printed_call
  printed_by_lem replies room c e = rw (e, parted_is input) (go (line_end input) refl)
    where
      called : (n : ℕ) (l : Bytes) (q : Bool) → length l ≡ n → is_call l ≡ q
          → printed_for replies (Some (record { line = l; interchange = drop (suc n) input })) room ≡ printed_by replies (line_on l) input room
      called n l true k e = rw (e, k, add-one)
      called n l false k e = rw e

      go : (o : Option ℕ) → line_end input ≡ o
          → printed_for replies (option_map (cut_at input) o) room ≡ printed_by replies (line_for (option_map (cut_at input) o)) input room
      go None e = refl
      go (Some n) e = called n (take n input) (is_call (take n input)) (length-take-le n input (omega (arith, ends_within input e))) refl

  start_within : start_of (line_in input) ≤ length input
  unfolding line_in
  start_within = rw parted_is (go (line_end input) refl)
    where
      called : (l : Bytes) (q : Bool) → length l < length input → is_call l ≡ q → start_of (line_on l) ≤ length input
      called l true k e = rw e (omega arith)
      called l false k e = rw e (omega arith)

      go : (o : Option ℕ) → line_end input ≡ o → start_of (line_for (option_map (cut_at input) o)) ≤ length input
      go None e = omega arith
      go (Some n) e =
          let within = ends_within input e in
          called (take n input) (is_call (take n input)) (omega (arith, length-take-le n input (omega arith))) refl

  pub starts_within : {line : FirstLine} → Some line ≡ line_in input → line.interchange ≤ length input
  starts_within e = omega (arith, ap start_of e, start_within)
