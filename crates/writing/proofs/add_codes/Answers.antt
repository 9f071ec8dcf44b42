-- `writing::add_codes` meets its contract: the codes from here on are still owed.
use native.Mathlib.Omega.{arith}
use Rattle.writing.proofs.Laws.{all, pay, done}
use Rattle.writing.proofs.Segments.{codes_turn, codes_end}
use Rattle.writing.proofs.add_codes.Goals as goal

pub loop-code-init : goal.loop-code-init
loop-code-init c = (omega arith, all _ _ _)

pub loop-code-preserved : goal.loop-code-preserved
loop-code-preserved c = (omega arith, pay c.loop-code.invariant.1 c.add_field-m.ensures (codes_turn _ _ _ c.loop-code-test.true))

pub returns : goal.returns
returns c =
    done c.loop-code.invariant.1 (codes_end _ _ _ c.loop-code-test.false) (omega arith) (omega arith)
