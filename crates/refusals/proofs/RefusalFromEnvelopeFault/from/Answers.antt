-- Each fault of the envelope gives the refusal of its number.
use native.Mathlib.Omega.{arith}
use Rattle.rules.specs.Refused.{refused}
use Rattle.refusals.proofs.RefusalFromEnvelopeFault.from.Goals as goal

pub returns-in-NotTerminated : goal.returns-in-NotTerminated
unfolding refused
returns-in-NotTerminated c = grind arith

pub returns-in-OutOfPlace : goal.returns-in-OutOfPlace
unfolding refused
returns-in-OutOfPlace c = grind arith

pub returns-in-NotTwoElements : goal.returns-in-NotTwoElements
unfolding refused
returns-in-NotTwoElements c = grind arith
