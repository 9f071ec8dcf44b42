-- `refusals::check_envelope` meets its contract: the last byte, the places, and IEA.
use native.Mathlib.Omega.{arith}
use Rattle.refusals.proofs.Laws.{envelope_stages}
use Rattle.refusals.proofs.check_envelope.Goals as goal

pub returns-then-not-is_terminated : goal.returns-then-not-is_terminated
returns-then-not-is_terminated c = grind (arith, envelope_stages)

pub returns-in_default : goal.returns-in_default
returns-in_default c = grind (arith, envelope_stages)

pub returns-in_err-check_trailer : goal.returns-in_err-check_trailer
returns-in_err-check_trailer c = grind (arith, envelope_stages)

pub returns : goal.returns
returns c = grind (arith, envelope_stages)
