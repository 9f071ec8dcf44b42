-- `elements::takes` meets its contract.
use Rattle.std.proofs.Common.{arith}
use Rattle.std.proofs.lemmas.Bool.Decides.{nat_tests}
use Rattle.tables.specs.Reading.{row_at}
use Rattle.elements.proofs.Codes.{valid_empty, valid_filled}
use Rattle.elements.proofs.takes.Goals as goal

pub returns-then-is_empty : goal.returns-then-is_empty
returns-then-is_empty c = let a = c.args in grind (arith, nat_tests, valid_empty (row_at a.guide.now a.k) a.e.now, valid_filled (row_at a.guide.now a.k) a.e.now)

pub returns : goal.returns
returns c = let a = c.args in grind (arith, nat_tests, valid_empty (row_at a.guide.now a.k) a.e.now, valid_filled (row_at a.guide.now a.k) a.e.now)
