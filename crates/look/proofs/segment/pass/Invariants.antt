-- `look::segment::pass` meets its contract.
use Rattle.std.proofs.Common.{◌≡◌, length, max}
use Rattle.tables.specs.Reading.{row_below}
use Rattle.look.proofs.Reading.{ReadTo}
use Rattle.look.proofs.segment.pass.Given as goal

abbrev pub invariant-loop-k : goal.invariant-loop-k
invariant-loop-k l =
    ReadTo l.valid l.d l.rest l.guide l.entry l.id l.k l.end l.marks × (l.next ≡ max (row_below l.guide l.entry) (length l.guide))
