-- `isa::has_good_marks` meets its contract.
use Rattle.rules.specs.Cutting.{marks}
use Rattle.isa.proofs.has_good_marks.Goals as goal

pub returns-in-None : goal.returns-in-None
unfolding marks
returns-in-None c = rw c.in-None.is c.are_good_marks.ensures

pub returns-in-Some : goal.returns-in-Some
unfolding marks
returns-in-Some c = rw c.in-Some.is c.are_good_marks-in-Some.ensures
