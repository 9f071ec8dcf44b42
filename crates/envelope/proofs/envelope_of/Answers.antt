-- `envelope::envelope_of` meets its contract.
use native.Mathlib.Omega.{arith}
use Rattle.text.proofs.Search.{find_le}
use Rattle.envelope.specs.Places.{envelope_of}
use Rattle.envelope.proofs.envelope_of.Goals as goal

pub overflow_add-start : goal.overflow_add-start
overflow_add-start c = omega (arith, find_le c.args.d.terminator c.args.i.now 0 (omega arith))

pub returns-in_err-first : goal.returns-in_err-first
unfolding envelope_of
returns-in_err-first c = grind arith

pub returns-in_err-groups : goal.returns-in_err-groups
unfolding envelope_of
returns-in_err-groups c = grind arith

pub returns : goal.returns
unfolding envelope_of
returns c = grind arith
