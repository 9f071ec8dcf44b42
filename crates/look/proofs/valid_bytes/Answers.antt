-- `look::valid_bytes` meets its contract.
use mathlib.Core.Path.{◌≡◌, refl, ◌∙◌}
use mathlib.Core.Bool.{Bool}
use mathlib.Core.List.{List}
use Prim.Native.Nat.{ℕ, ◌+◌, ◌<◌}
use native.Mathlib.Nat.{zero-add}
use native.Mathlib.Numerals.{add-one}
use native.Mathlib.Omega.{arith}
use lib.ListN.{length, set, take, length-set}
use lib.Seq.{take-suc-set}
use Rattle.rules.specs.Cutting.{valid}
use Rattle.rules.specs.declared.Delimiters.{Delimiters}
use Rattle.look.specs.Bytes.{answers_from}
use Rattle.look.proofs.Bytes.{answers_more}
use Rattle.look.proofs.valid_bytes.Goals as goal

-- one answer more is written
written : (d : Delimiters) (table : List Bool) (b : ℕ) (answer : Bool) → b < length table → take b table ≡ answers_from d 0 b → answer ≡ valid d b
    → take (b + 1) (set table b answer) ≡ answers_from d 0 (b + 1)
written d table b answer h e q = rw (add-one, answers_more d 0 b, zero-add, ← e, ← q) (take-suc-set table b answer h)

pub loop-b-init : goal.loop-b-init
unfolding answers_from
loop-b-init c = (refl, refl)

pub loop-b-preserved : goal.loop-b-preserved
loop-b-preserved c =
    let l = c.loop-b in
    (length-set l.valid l.b c.is_valid.result ∙ l.invariant.0, written _ l.valid l.b _ (omega (arith, l.invariant.0)) l.invariant.1 c.is_valid.ensures)
