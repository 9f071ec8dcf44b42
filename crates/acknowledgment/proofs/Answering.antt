-- The response as it is written, and what the checks leave to the answer.
use Rattle.std.specs.Prelude.{Option, Some, Result, Err}
use Rattle.std.specs.Result.{IsErrAnd}
use Rattle.std.proofs.lemmas.Result.{err_from_is_err_and}
use Prim.Native.Nat.{ℕ, zero, suc, ◌+◌, ◌*◌, ◌≤◌, ◌<◌}
use mathlib.Core.Path.{◌≡◌, refl, ap, ◌∙◌}
use mathlib.Core.Bool.{false}
use mathlib.Core.List.{List, ◌++◌}
use native.Mathlib.Omega.{arith}
use borrow.Author.Tests.{not-false, leb-true}
use lib.Dec.{leb, eqb}
use lib.ListN.{length, replicate, length-append, length-replicate, get_or}
use Rattle.rules.specs.Base.{Bytes, first}
use Rattle.rules.specs.Cutting.{delimiters, marks, split, segments}
use Rattle.rules.specs.Groups.{Group, groups_of}
use Rattle.rules.specs.Refusals.{distinct, good_marks, head_rules, most_groups, groups_rules, refusal}
use Rattle.rules.specs.Response.{out, first_header, respond, response}
use Rattle.rules.specs.declared.Call.{Call}
use Rattle.rules.specs.declared.Delimiters.{Delimiters}
use Rattle.rules.proofs.Logic.{and_left, and_right, silent}
use Rattle.rules.proofs.Bound.{response_bound}
use Rattle.rules.proofs.Envelope.{marks_differ}
use Rattle.rules.proofs.Cuts.{out_append}
use Rattle.text.specs.Text.{part}
use Rattle.envelope.specs.Places.{group_at}
use Rattle.envelope.specs.declared.GroupAt.{GroupAt}
use Rattle.envelope.specs.declared.Envelope.{Envelope}
use Rattle.envelope.proofs.Laws.{Groups, no_group, a_group, EnvelopeIs}
use Rattle.writing.specs.Over.{sat, Wrote, From}
use Rattle.writing.proofs.Laws.{seq, whole}
use Rattle.acknowledgment.specs.declared.set_block.Mark.TheVariants.{Accepted}
use Rattle.acknowledgment.specs.Writers.{opening, closing}
use Rattle.acknowledgment.specs.Entries.{acknowledgments, Roomy, Answering}

-- what a `?` hands on
pub handed : {T E : Type 0} {r : Result T E} {e : E} → IsErrAnd r (λ (x : E). x ≡ e) → r ≡ Err e
handed {r = r} h = let told = err_from_is_err_and r h in told.1 ∙ ap Err told.2

-- 1. The whole response.
-- GS of the first group
first_header_lem : {d : Delimiters} {i : Bytes} {s : Option GroupAt} {gs : List Group} {g : GroupAt} → Groups d i s gs → s ≡ Some g → first_header gs ≡ (group_at d i g).header
first_header_lem no_group e = let z : ◌≡◌ {A = ℕ} 0 1 = cc in absurd (omega arith)
first_header_lem {d} {i} {g = g} (a_group {g = h} within steps) e = let same : h ≡ g = cc in rw same

module _ {d : Delimiters} {i gs : Bytes} {e : Envelope} {call : Call} (a : Answering d i e call) (p : gs ≡ part i e.first.gs e.first.gs_end) where
  abbrev before : Bytes
  before = out d (opening d i (split d.element gs) call)

  abbrev after : Bytes
  after = out d (closing e.groups call.control)

  -- what comes before the 997s, the 997s, and what comes after them
  response_is : response i call ≡ before ++ (out d (acknowledgments d i) ++ after)
  unfolding response respond opening closing
  response_is =
      rw (← a.cut, first_header_lem a.sound.envelope.groups refl, ← p, ← a.sound.envelope.counted)
      (out_append d (opening d i (split d.element gs) call) _
      ∙ ap (λ (l : Bytes). before ++ l) (out_append d (acknowledgments d i) (closing e.groups call.control)))

  -- its length, by what the 997s come to
  pub response_measured : {n r : ℕ} → n ≡ sat (length (out d (acknowledgments d i))) → r ≡ sat (length before + n + length after) → r ≡ sat (length (response i call))
  response_measured q h =
      rw response_is (omega (arith, q, h, length-append before (out d (acknowledgments d i) ++ after), length-append (out d (acknowledgments d i)) after))

  -- and written one after the other its parts are it
  pub response_written : {n₁ n₂ n₃ : ℕ} {o o₁ o₂ o₃ : Bytes} → From 0 before n₁ o o₁ → From n₁ (out d (acknowledgments d i)) n₂ o₁ o₂ → From n₂ after n₃ o₂ o₃
      → Wrote (response i call) n₃ o o₃
  response_written x y z = rw response_is (whole (seq x (seq y z)))

  -- and it is not too long for a count
  pub bounded : length (response i call) < 4398046511104
  bounded = response_bound i call a.sound.short

-- 2. Arrays of zeros have room for the entries.
zeros_at : (n b : ℕ) → ◌≡◌ {A = ℕ} (get_or (replicate n 0) b 0) 0
zeros_at zero b = refl
zeros_at (suc n) zero = refl
zeros_at (suc n) (suc b) = zeros_at n b

-- as many as the longest interchange needs, or a short one
pub roomy : (i : Bytes) (n : ℕ) → length i + 192 < 12 * n + 12 → n ≤ 5477 → Roomy i (replicate n 0) (replicate n Accepted) (replicate (1024 + 4 * n) 0)
roomy i n h few =
    let many = length-replicate {A = ℕ} n 0 in
    record {
      none = zeros_at (1024 + 4 * n);
      places = omega arith;
      marked = omega (arith, many, length-replicate n Accepted);
      linked = omega (arith, length-replicate {A = ℕ} (1024 + 4 * n) 0);
      few = omega arith;
    }

-- 3. What the checks leave to the answer.
-- the interchange is not too long
short_of : (i : Bytes) → first (head_rules i) ≡ 0 → length i ≤ 65536
unfolding head_rules
short_of i e =
    let long = (silent (head_rules i) tt e).0 in
    leb-true (length i) 65536 (and_right (leb 106 (length i)) (leb (length i) 65536) (not-false _ long))

-- its separator is not its terminator
apart_of : (i : Bytes) → first (head_rules i) ≡ 0 → eqb (delimiters i).element (delimiters i).terminator ≡ false
unfolding head_rules good_marks
apart_of i e =
    let d = delimiters i in
    let good = not-false _ (silent (head_rules i) tt e).1.1.0 in
    (marks_differ d (and_left (distinct (marks d)) _ good)).0

-- past refusals 1 to 8 the groups can be answered
pub answering : (i : Bytes) (call : Call) {d : Delimiters} {e : Envelope}
    → (d ≡ delimiters i) × (refusal i call ≡ first (groups_rules d (groups_of (segments d i)))) × EnvelopeIs most_groups d i e × (first (head_rules i) ≡ 0)
    → Answering d i e call
answering i call p = record {
  sound = record { envelope = p.2; short = short_of i p.3; apart = rw p.0 (apart_of i p.3) };
  cut = p.0;
  decides = p.1;
}
