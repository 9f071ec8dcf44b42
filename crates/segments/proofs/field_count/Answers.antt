-- `segments::field_count` meets its contract: there is one field more than separators.
use lib.Seq.{take_all}
use Rattle.std.proofs.lemmas.List.Splits.{length-slice_split}
use Rattle.segments.proofs.Library.{split-is}
use Rattle.segments.proofs.field_count.Goals as goal

pub returns : goal.returns
returns c =
    rw (split-is, length-slice_split, c.loop-b.invariant, take_all c.loop-b.b-index c.args.s.now c.loop-b-test.false)
