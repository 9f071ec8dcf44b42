-- `envelope::check_trailer` meets its contract.
use native.Mathlib.Omega.{arith}
use Rattle.envelope.specs.Faults.{trailer_check}
use Rattle.envelope.proofs.check_trailer.Goals as goal

pub returns-then-not-has_two : goal.returns-then-not-has_two
unfolding trailer_check
returns-then-not-has_two c = grind arith

pub returns-then-not-closes : goal.returns-then-not-closes
unfolding trailer_check
returns-then-not-closes c = grind arith

pub returns-then-not-counts_groups : goal.returns-then-not-counts_groups
unfolding trailer_check
returns-then-not-counts_groups c = grind arith

pub returns : goal.returns
unfolding trailer_check
returns c = grind arith
