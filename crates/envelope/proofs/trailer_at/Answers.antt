-- `envelope::trailer_at` meets its contract.
use native.Mathlib.Omega.{arith}
use Rattle.envelope.specs.Places.{trailer_at, segment_at}
use Rattle.envelope.proofs.trailer_at.Goals as goal

pub returns : goal.returns
unfolding trailer_at segment_at
returns c = grind arith
