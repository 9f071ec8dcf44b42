-- `envelope::ends_body` meets its contract.
use native.Mathlib.Omega.{arith}
use Rattle.envelope.proofs.Places.{envelope_starts}
use Rattle.envelope.proofs.ends_body.Goals as goal

pub returns-else-b-2 : goal.returns-else-b-2
returns-else-b-2 c = grind (arith, envelope_starts)

pub returns-in-None : goal.returns-in-None
returns-in-None c = grind (arith, envelope_starts)
