-- `writing::add_trailing` meets its contract.
use native.Mathlib.Omega.{arith}
use Rattle.rules.specs.Response.{fields_out}
use Rattle.writing.proofs.Laws.{none}
use Rattle.writing.proofs.Segments.{trailing_none, trailing_some}
use Rattle.writing.proofs.add_trailing.Goals as goal

pub returns-then-is_empty : goal.returns-then-is_empty
unfolding fields_out
returns-then-is_empty c = rw (trailing_none c.args.bytes.now (grind arith)) (none _ _ (omega arith) (omega arith))

pub returns : goal.returns
returns c = rw (trailing_some c.args.bytes.now (λ e. grind arith)) c.add_field.ensures
