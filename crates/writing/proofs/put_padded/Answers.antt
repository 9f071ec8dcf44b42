-- `writing::put_padded` meets its contract: the digits that are left, over what stands, are the whole over what was lent.
use mathlib.Core.Path.{sym, ◌∙◌}
use native.Mathlib.Omega.{arith}
use lib.ListN.{length-set}
use Rattle.rules.proofs.Lengths.{padded_length}
use Rattle.writing.proofs.Numbers.{padded_turn, padded_done}
use Rattle.writing.proofs.put_padded.Goals as goal

pub loop-i-preserved : goal.loop-i-preserved
loop-i-preserved c =
    let loop = c.loop-i in
    rw c.set_byte.ensures (sym (padded_turn loop.i loop.rest loop.out (omega arith)) ∙ loop.invariant.0, simp length-set loop.invariant.1)

pub returns : goal.returns
returns c =
    let loop = c.loop-i in
    record { count = rw padded_length (omega arith); bytes = sym (padded_done loop.i loop.rest loop.out (omega arith)) ∙ loop.invariant.0 }
