-- The blocks of the sets of a group, set by set: what is written of them so far, and what is owed.
use mathlib.Core.Path.{◌≡◌, refl, sym, ap, ◌∙◌}
use mathlib.Core.List.{List, [], ◌∷◌}
use Rattle.std.specs.Prelude.{Option}
use Prim.Native.Nat.{ℕ, ◌+◌, ◌-◌, ◌<◌, ◌≤◌, min}
use native.Mathlib.Omega.{arith}
use lib.ListN.{length, drop, length-append, drop_of_length-le}
use borrow.Rule.Slice.PartMut.{mid_of, put_mid}
use Rattle.rules.specs.Base.{Bytes}
use Rattle.rules.specs.Cutting.{Segment}
use Rattle.rules.specs.Tables.{Table}
use Rattle.rules.specs.Sets.{Set, SetReport}
use Rattle.rules.specs.Response.{out, block, blocks}
use Rattle.rules.specs.declared.Delimiters.{Delimiters}
use Rattle.rules.proofs.Cuts.{out_append}
use Rattle.sets.specs.Places.{set_at, controls_at}
use Rattle.sets.proofs.Sets.{SetIs, set_next}
use Rattle.writing.specs.Over.{sat}
use Rattle.writing.proofs.Over.{over_nil}
use Rattle.writing.proofs.Laws.{Owes, lend, all, pay, done, whole, kept}
use Rattle.notes.specs.Saying.{Tells}
use Rattle.notes.specs.declared.Told.{Told}
use Rattle.acknowledgment.specs.Writers.{Measures}
use Rattle.acknowledgment.specs.declared.set_block.Mark.{Mark}
use Rattle.acknowledgment.specs.Surveys.{report_at, reports, Seen}
use Rattle.acknowledgment.proofs.Reports.{remaining_next, drop_next}

-- The blocks of k sets are m segments of n bytes in all. The buffer was o and is o₁.
pub record Sofar (d : Delimiters) (rs : List SetReport) (o o₁ : Bytes) (n m k : ℕ) : Type 0 where
  pub text : Owes (out d (blocks (drop k rs))) n o₁ 0 (out d (blocks rs)) o
  pub number : sat (m + length (blocks (drop k rs))) ≡ sat (length (blocks rs))
  pub long : n < 18446744073709551616
  pub many : m < 18446744073709551616
  pub stays : length o₁ ≡ length o
  pub small : length o < 9223372036854775808

pub sofar_start : (d : Delimiters) (rs : List SetReport) (o : Bytes) → length o < 9223372036854775808 → Sofar d rs o o 0 0 0
sofar_start d rs o small = record {
  text = all 0 _ o;
  number = omega arith;
  long = omega arith;
  many = omega arith;
  stays = refl;
  small = small;
}

module _ {d : Delimiters} {rs : List SetReport} {o o₁ : Bytes} {n m k : ℕ} (s : Sofar d rs o o₁ n m k) where
  -- the block of the next report is written to the rest of the buffer
  pub sofar_turn : {one : SetReport} {b : Told} {p : Bytes} {rest n' m' : ℕ} → drop k rs ≡ one ∷ drop (k + 1) rs
      → rest ≡ min n (length o₁) → Tells d (block one) b (mid_of rest (length o₁ - rest) o₁) p
      → n' ≡ sat (n + b.length) → m' ≡ sat (m + b.segments)
      → Sofar d rs o (put_mid rest (length o₁ - rest) o₁ p) n' m' (k + 1)
  unfolding blocks
  sofar_turn {one} next e w nn mm =
      let more = drop (k + 1) rs in
      let f = lend {o = o₁} e w.text nn (omega arith) in
      record {
        text = pay s.text f (ap (λ (l : List SetReport). out d (blocks l)) next ∙ out_append d (block one) (blocks more));
        number = omega (arith, s.number, w.number, ap (λ (l : List SetReport). length (blocks l)) next, length-append (block one) (blocks more));
        long = omega arith;
        many = omega arith;
        stays = kept f ∙ s.stays;
        small = s.small;
      }

  pub sofar_end : length rs ≤ k → Tells d (blocks rs) (record { length = n; segments = m }) o o₁
  unfolding out blocks
  sofar_end h =
      let absent = drop_of_length-le rs {i = k} h in
      record {
        text = whole (done s.text (rw absent) s.long (omega arith));
        number = omega (arith, rw absent at s.number);
      }

-- what a writer says of an empty part is what its segments come to
pub measures : {d : Delimiters} {ss : List Segment} {r : Told} {p : Bytes} → Tells d ss r [] p → Measures d ss r
measures w = record { text = record { count = w.text.count; bytes = sym (over_nil _) }; number = w.number }

-- a turn that only measures
pub sofar_measured : {d : Delimiters} {rs : List SetReport} {n m k n' m' : ℕ} {one : SetReport} {b : Told} → Sofar d rs [] [] n m k
    → drop k rs ≡ one ∷ drop (k + 1) rs → Measures d (block one) b → n' ≡ sat (n + b.length) → m' ≡ sat (m + b.segments) → Sofar d rs [] [] n' m' (k + 1)
sofar_measured s next w nn mm = sofar_turn s {rest = 0} next (omega arith) w nn mm

-- the set that a survey names, and its report
module _ {d : Delimiters} {table : Set → Option Table} {body : Bytes} {before : List ℕ} {k at : ℕ} {mark : Mark} (s : Seen d table body before k at mark) where
  pub seen_set : SetIs d body at (set_at d body at)
  seen_set = set_next d body at _ s.headed.inside refl s.clean

  pub seen_next : drop k (reports d table body) ≡ report_at d table body at (controls_at d body before) ∷ drop (k + 1) (reports d table body)
  seen_next =
      let e = s.rest ∙ remaining_next d table body before at seen_set in
      rw (drop_next k (reports d table body) _ _ e) e
