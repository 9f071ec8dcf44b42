-- `envelope::next_group` meets its contract.
use native.Mathlib.Omega.{arith}
use Rattle.std.proofs.lemmas.Bool.Decides.{nat_tests}
use Rattle.envelope.specs.Places.{next_group, group_starting, segment_at}
use Rattle.envelope.proofs.Places.{named_there}
use Rattle.envelope.proofs.next_group.Goals as goal

pub returns-then-not-is_named_at : goal.returns-then-not-is_named_at
unfolding next_group segment_at
returns-then-not-is_named_at c = grind arith

pub overflow_add-gs_end : goal.overflow_add-gs_end
overflow_add-gs_end c =
    let there = named_there _ c.args.d _ _ c.find-gs_end.ensures (omega arith) c.if-not-is_named_at.ensures in omega arith

pub returns : goal.returns
unfolding next_group group_starting segment_at
returns c =
    let there = named_there _ c.args.d _ _ c.find-gs_end.ensures (omega arith) c.if-not-is_named_at.ensures in grind (arith, nat_tests)
