-- `text::find` meets its contract.
use Rattle.std.proofs.Common.{◌≡◌, ◌∙◌, false, eqb, take, drop, arith}
use Rattle.std.specs.List.{list_any}
use Rattle.text.proofs.Search.{index_past}
use Rattle.text.proofs.find.Goals as goal

pub loop-i-preserved : goal.loop-i-preserved
loop-i-preserved c =
    let a = c.args in
    let i = c.loop-i.i in
    let none : list_any (λ x. eqb x a.b) (take 8 (drop i a.s.now)) ≡ false = grind arith in
    c.loop-i.invariant ∙ index_past a.b a.s.now i 8 (omega arith) none
