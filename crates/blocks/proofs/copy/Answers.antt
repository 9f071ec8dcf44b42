-- `blocks::copy` meets its contract: so far, the first i bytes stand over the buffer's start.
use mathlib.Core.Path.{refl, sym}
use native.Mathlib.Omega.{arith}
use lib.ListN.{length-set}
use Rattle.writing.proofs.Over.{over_none, over_turn, over_whole}
use Rattle.blocks.proofs.copy.Goals as goal

pub loop-i-init : goal.loop-i-init
loop-i-init c = (sym (over_none _), refl)

pub loop-i-preserved : goal.loop-i-preserved
loop-i-preserved c = (over_turn _ _ _ _ c.loop-i.invariant.0 (omega arith), simp length-set (omega arith))

pub returns : goal.returns
returns c = over_whole _ _ _ c.loop-i.i c.loop-i.invariant.0 (omega arith)
