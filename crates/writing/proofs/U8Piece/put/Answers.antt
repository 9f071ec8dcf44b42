-- `put` of a byte meets its contract.
use mathlib.Core.Path.{sym, ◌∙◌}
use native.Mathlib.Omega.{arith}
use Rattle.writing.proofs.Over.{over_byte}
use Rattle.writing.proofs.U8Piece.put.Goals as goal

pub returns : goal.returns
returns c = record { count = omega arith; bytes = c.set_byte.ensures ∙ sym (over_byte _ _) }
