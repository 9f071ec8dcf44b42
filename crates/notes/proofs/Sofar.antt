-- A loop that writes segments and counts them: how far it has come, what a step adds, and its end.
use mathlib.Core.Path.{◌≡◌, refl, ap, ◌∙◌}
use mathlib.Core.List.{List, [], ◌∷◌, ◌++◌, append-nil}
use Prim.Native.Nat.{ℕ, ◌+◌, ◌<◌}
use native.Mathlib.Omega.{arith}
use lib.ListN.{length, length-append}
use Rattle.rules.specs.Base.{Bytes}
use Rattle.rules.specs.Cutting.{Segment}
use Rattle.rules.specs.Response.{segment_out, out}
use Rattle.rules.specs.declared.Delimiters.{Delimiters}
use Rattle.rules.proofs.Cuts.{out_append}
use Rattle.writing.specs.Over.{sat, From}
use Rattle.writing.proofs.Laws.{Owes, all, pay, done, seq, whole, none, said, kept}
use Rattle.notes.specs.declared.Told.{Told}
use Rattle.notes.specs.Saying.{Adds, Tells}

-- 1. What is added.
-- no segment
pub adds_none : (d : Delimiters) (t : Told) (o : Bytes)
    → t.length < 18446744073709551616 → t.segments < 18446744073709551616 → length o < 9223372036854775808 → Adds d [] t t o o
unfolding out
adds_none d t o long many small = record { text = none t.length o long small; number = omega arith }

-- one segment
pub adds_one : {d : Delimiters} {s : Segment} {t r : Told} {m : ℕ} {o o₁ : Bytes}
    → From t.length (segment_out d s) m o o₁ → r ≡ record { length = m; segments = sat (t.segments + 1) } → Adds d (s ∷ []) t r o o₁
unfolding out
adds_one {d} {s} w e = rw e (record { text = said (append-nil (segment_out d s)) w; number = refl })

-- some, and then more
pub adds_more : {d : Delimiters} {us vs : List Segment} {t r q : Told} {o o₁ o₂ : Bytes}
    → Adds d us t r o o₁ → Adds d vs r q o₁ o₂ → Adds d (us ++ vs) t q o o₂
adds_more {d} {us} {vs} a b =
    let first = a.number in
    let then = b.number in
    record { text = said (out_append d us vs) (seq a.text b.text); number = omega (arith, length-append us vs) }

-- the same segments in other words
pub adds_same : {d : Delimiters} {us vs : List Segment} {t r : Told} {o o₁ : Bytes} → us ≡ vs → Adds d us t r o o₁ → Adds d vs t r o o₁
adds_same e a = rw e at a

-- 2. How far a loop has come.
-- Of the segments ss, which come after what t₀ tells, those of `rest` are still to be written: t tells what is, and the buffer, o₀ at first, is o.
pub record Sofar (d : Delimiters) (t₀ : Told) (ss rest : List Segment) (t : Told) (o₀ o : Bytes) : Type 0 where
  pub owes : Owes (out d rest) t.length o t₀.length (out d ss) o₀
  pub number : sat (t.segments + length rest) ≡ sat (t₀.segments + length ss)
  pub length_fits : t.length < 18446744073709551616
  pub number_fits : t.segments < 18446744073709551616
  pub room : length o < 9223372036854775808
  pub stays : length o ≡ length o₀

-- none is written
pub begin : (d : Delimiters) (t : Told) (ss : List Segment) (o : Bytes)
    → t.length < 18446744073709551616 → t.segments < 18446744073709551616 → length o < 9223372036854775808 → Sofar d t ss ss t o o
begin d t ss o long many small = record {
  owes = all t.length (out d ss) o;
  number = refl;
  length_fits = long;
  number_fits = many;
  room = small;
  stays = refl;
}

-- the next ones are written and counted
pub onward : {d : Delimiters} {t₀ : Told} {ss rest us vs : List Segment} {t r : Told} {o₀ o o₁ : Bytes}
    → Sofar d t₀ ss us t o₀ o → us ≡ vs ++ rest → Adds d vs t r o o₁ → Sofar d t₀ ss rest r o₀ o₁
onward {d} {t₀} {ss} {rest} {us} {vs} {t} {r} {o₀} {o} {o₁} f e w =
    let longer = w.text.count in
    let more = w.number in
    let same = kept w.text in
    record {
      owes = pay f.owes w.text (ap (out d) e ∙ out_append d vs rest);
      number = omega (arith, f.number, ap length e ∙ length-append vs rest);
      length_fits = omega arith;
      number_fits = omega arith;
      room = omega (arith, f.room);
      stays = omega (arith, f.stays);
    }

-- all are written
pub ends : {d : Delimiters} {t₀ : Told} {ss us : List Segment} {t : Told} {o₀ o : Bytes} → Sofar d t₀ ss us t o₀ o → us ≡ [] → Adds d ss t₀ t o₀ o
unfolding out
ends f e =
    let counted = f.number in
    record { text = done f.owes (rw e) f.length_fits f.room; number = omega (arith, f.number_fits, rw e at counted) }

-- from nothing on
pub tells : {d : Delimiters} {ss : List Segment} {t : Told} {o₀ o : Bytes} → Adds d ss (record { length = 0; segments = 0 }) t o₀ o → Tells d ss t o₀ o
tells a = let counted = a.number in record { text = whole a.text; number = omega arith }
