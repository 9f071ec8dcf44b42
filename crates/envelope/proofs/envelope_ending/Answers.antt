-- `envelope::envelope_ending` meets its contract.
use native.Mathlib.Omega.{arith}
use Rattle.std.proofs.lemmas.Bool.Decides.{nat_tests}
use Rattle.envelope.specs.Places.{envelope_ending, segment_at}
use Rattle.envelope.proofs.Places.{named_there}
use Rattle.envelope.proofs.envelope_ending.Goals as goal

pub overflow_add-iea_end : goal.overflow_add-iea_end
overflow_add-iea_end c =
    let there = named_there _ c.args.d _ _ c.find-iea_end.ensures (omega arith) c.if-not-is_named_at.ensures in omega arith

pub returns-then-not-is_named_at : goal.returns-then-not-is_named_at
unfolding envelope_ending segment_at
returns-then-not-is_named_at c = grind (arith, nat_tests)

pub returns : goal.returns
unfolding envelope_ending segment_at
returns c = grind (arith, nat_tests)
