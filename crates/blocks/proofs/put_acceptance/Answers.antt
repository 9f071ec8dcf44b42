-- `blocks::put_acceptance` meets its contract: AK2 without its terminator, and then what is the same in each.
use mathlib.Core.Path.{◌≡◌, refl}
use Prim.Native.Nat.{ℕ, ◌+◌, ◌-◌, ◌≤◌, ◌<◌}
use native.Mathlib.Omega.{arith}
use lib.ListN.{length}
use borrow.Rule.Slice.PartMut.{mid_of, put_mid}
use Rattle.rules.specs.Base.{Bytes}
use Rattle.rules.specs.Response.{fields_out}
use Rattle.writing.specs.Over.{over, sat, From}
use Rattle.writing.proofs.Laws.{lend, start, seq, whole}
use Rattle.blocks.proofs.put_acceptance.Goals as goal

-- a text that is copied to the rest after k bytes is a piece
copied : {t o p : Bytes} {k : ℕ} → p ≡ over t (mid_of k (length o - k) o) → k + length t ≤ length o → length o < 9223372036854775808
    → From k t (k + length t) o (put_mid k (length o - k) o p)
copied {t} q h small = lend {m = sat (length t)} (omega arith) (record { count = refl; bytes = q }) (omega arith) small

pub returns-then-n-out : goal.returns-then-n-out
unfolding fields_out
returns-then-n-out c =
    whole
    (seq
    (seq (start (record { count = refl; bytes = c.copy.ensures }) (omega arith)) (copied c.copy-then-n-out.ensures (omega arith) (omega arith)))
    (copied c.copy-then-n-out-2.ensures (omega arith) (omega arith)))

pub returns : goal.returns
unfolding fields_out
returns c =
    whole (seq (seq c.add-n.ensures c.add-n-2.ensures) c.add.ensures)
