-- How writers are put together: lending the rest, one after the other, loops, the measuring pass, the exact length.
use mathlib.Core.Path.{◌≡◌, sym, ap, ◌∙◌}
use mathlib.Core.List.{[], ◌++◌, append-nil}
use Prim.Native.Nat.{ℕ, ◌+◌, ◌-◌, ◌<◌, min}
use native.Mathlib.Omega.{arith}
use lib.ListN.{length, take, drop, length-append, length-drop, drop_of_length-le}
use lib.Seq.{take_all}
use borrow.Rule.Slice.PartMut.{mid_of, put_mid}
use Rattle.rules.specs.Base.{Bytes}
use Rattle.writing.specs.Over.{over, from, sat, Wrote, From}
use Rattle.writing.proofs.Over.{over_none, over_nil, length_over, from_zero, from_none, length_from, from_split, from_sat, from_seq}

-- 1. The rest of the buffer.
-- the part from k on is the rest
rest_of : (k : ℕ) (o : Bytes) → mid_of k (length o - k) o ≡ drop k o
rest_of k o = take_all (length o - k) (drop k o) (simp length-drop (omega arith))

-- and nothing lies after it
past_rest : (k : ℕ) (o : Bytes) → drop (length o - k) (drop k o) ≡ []
past_rest k o = drop_of_length-le (drop k o) {i = length o - k} (simp length-drop (omega arith))

-- a block that is lent the rest after n bytes is a piece
pub lend : {t o p : Bytes} {n m k r : ℕ}
    → k ≡ min n (length o) → Wrote t m (mid_of k (length o - k) o) p → r ≡ sat (n + m) → length o < 9223372036854775808
    → From n t r o (put_mid k (length o - k) o p)
lend {t} {o} {p} {n} {m} {k} {r} kk b rr small =
    let bn = b.count in
    record {
      count = omega arith;
      bytes =
          ap (λ (l : Bytes). take k o ++ l) (ap (λ (l : Bytes). p ++ l) (past_rest k o) ∙ append-nil p ∙ b.bytes ∙ ap (over t) (rest_of k o))
          ∙ from_split n k t o kk;
      room = small;
    }

-- 2. A row of pieces.
-- a block that starts a row
pub start : {t o o₁ : Bytes} {n : ℕ} → Wrote t n o o₁ → length o < 9223372036854775808 → From 0 t n o o₁
start {t} {o} {o₁} {n} a small =
    let an = a.count in
    record { count = omega arith; bytes = a.bytes ∙ sym (from_zero t o); room = small }

-- one piece after the other
pub seq : {t s o o₁ o₂ : Bytes} {n m r : ℕ} → From n t m o o₁ → From m s r o₁ o₂ → From n (t ++ s) r o o₂
seq {t} {s} {o} {o₁} {o₂} {n} {m} {r} a b =
    let an = a.count in
    let bn = b.count in
    let small = a.room in
    record { count = simp length-append (omega arith); bytes = step; room = small }
  where
    l : length o₁ < 9223372036854775808
    l = omega (arith, a.room, ap length a.bytes, length_from n t o)

    step : o₂ ≡ from n (t ++ s) o
    step = b.bytes ∙ from_sat (n + length t) m s o₁ a.count l ∙ ap (from (n + length t) s) a.bytes ∙ from_seq n t s o

-- a row from 0 is a block
pub whole : {t o o₁ : Bytes} {n : ℕ} → From 0 t n o o₁ → Wrote t n o o₁
whole {t} {o} {o₁} {n} a =
    let an = a.count in
    record { count = omega arith; bytes = a.bytes ∙ from_zero t o }

-- nothing written by a block
pub nothing : (o : Bytes) → Wrote [] 0 o o
nothing o = record { count = omega arith; bytes = sym (over_none o) }

-- nothing written by a piece: any usize is a count
pub none : (n : ℕ) (o : Bytes) → n < 18446744073709551616 → length o < 9223372036854775808 → From n [] n o o
none n o fits small = record { count = omega arith; bytes = sym (from_none n o); room = small }

-- the same text in other words, of a block and of a piece
pub same : {t s o o₁ : Bytes} {n : ℕ} → s ≡ t → Wrote t n o o₁ → Wrote s n o o₁
same e a = rw e a

pub said : {t s o o₁ : Bytes} {n r : ℕ} → s ≡ t → From n t r o o₁ → From n s r o o₁
said e a = rw e a

-- the buffer keeps its length, under a block and under a piece
pub stays : {t o o₁ : Bytes} {n : ℕ} → Wrote t n o o₁ → length o₁ ≡ length o
stays {t} {o} {o₁} a = ap length a.bytes ∙ length_over t o

pub kept : {t o o₁ : Bytes} {n r : ℕ} → From n t r o o₁ → length o₁ ≡ length o
kept {t} {o} {o₁} {n} {r} a = ap length a.bytes ∙ length_from n t o

-- 3. A loop's invariant. m bytes are written and the buffer is o₁; who writes t after them will have written w over o from n on.
-- A loop starts with `all`, pays with each piece that a turn writes, and is done where nothing is left.
abbrev pub Owes : Bytes → ℕ → Bytes → ℕ → Bytes → Bytes → Type 0
Owes t m o₁ n w o = (r : ℕ) (o₂ : Bytes) → From m t r o₁ o₂ → From n w r o o₂

pub all : (n : ℕ) (w o : Bytes) → Owes w n o n w o
all n w o r o₂ f = f

pub pay : {u t s w o o₁ o₂ : Bytes} {n m k : ℕ} → Owes u m o₁ n w o → From m t k o₁ o₂ → u ≡ t ++ s → Owes s k o₂ n w o
pay owes f e r o₃ g = owes r o₃ (said e (seq f g))

pub done : {u w o o₁ : Bytes} {n m : ℕ} → Owes u m o₁ n w o → u ≡ [] → m < 18446744073709551616 → length o₁ < 9223372036854775808 → From n w m o o₁
done {u} {w} {o} {o₁} {n} {m} owes e fits small = owes m o₁ (said e (none m o₁ fits small))

-- 4. Two passes.
-- the measuring pass, on the part from 0 to 0, changes nothing
pub measured : (o : Bytes) {t p : Bytes} {n : ℕ} → Wrote t n (mid_of 0 0 o) p → put_mid 0 0 o p ≡ o
measured o {t} {p} a = ap (λ (l : Bytes). l ++ o) (a.bytes ∙ over_nil t)

-- the answer is the length itself where a usize holds it
pub exact : {t o o₁ : Bytes} {n : ℕ} → Wrote t n o o₁ → length t < 18446744073709551616 → n ≡ length t
exact {t} {o} {o₁} {n} a fits = let an = a.count in omega arith
