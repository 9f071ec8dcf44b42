-- `text::count_in` meets its contract.
use Rattle.text.proofs.Digits.{ReadTo}
use Rattle.text.proofs.count_in.Given as goal

abbrev pub invariant-loop-b : goal.invariant-loop-b
invariant-loop-b l = ReadTo l.s l.b-index l.n
