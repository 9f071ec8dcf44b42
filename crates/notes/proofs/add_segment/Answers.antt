-- `notes::add_segment` meets its contract.
use Prim.Native.Nat.{◌<◌}
use lib.ListN.{length}
use Rattle.notes.proofs.Laws.{found_all, found_any, taken_written}
use Rattle.notes.proofs.Sofar.{adds_more, adds_same}
use native.Mathlib.Omega.{arith}
use Rattle.notes.proofs.add_segment.Goals as goal

pub returns : goal.returns
returns c =
    let a = c.args in
    let t = a.taken in
    let small : length a.guide.now < 9223372036854775808 = omega (arith, c.well_formed) in
    let s = c.part-s.result.now in
    let all = found_all a.d s a.guide.now t.own t.check small in
    let any = found_any a.d s a.guide.now t.own t.check small in
    let line = rw (c.is_some.ensures, c.found_in-found.ensures, any, c.part-s.ensures) at c.add_segment_line-told.ensures in
    let elements = rw (c.found_in-found.ensures, all, c.part-s.ensures) at c.add_findings.ensures in
    adds_same (taken_written a.d a.guide.now a.set.now t) (adds_more c.add_missing-told.ensures (adds_more line elements))
