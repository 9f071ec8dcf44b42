-- `elements::element_code` meets its contract.
use Rattle.std.proofs.Common.{arith, rules, tests}
use Rattle.std.proofs.lemmas.Bool.Decides.{nat_tests}
use Rattle.tables.specs.Reading.{row_at}
use Rattle.elements.proofs.Codes.{code_empty, code_else}
use Rattle.elements.proofs.element_code.Goals as goal

pub returns-then-is_empty : goal.returns-then-is_empty
returns-then-is_empty c = let a = c.args in grind (arith, nat_tests, code_empty a.d (row_at a.guide.now a.k) a.e.now)

pub returns : goal.returns
returns c =
    let a = c.args in
    code_else a.d (row_at a.guide.now a.k) a.e.now (λ z. grind (arith, nat_tests)) c.byte_code.result c.byte_code.ensures c.or_else.result c.or_else.ensures (λ k. search (rules, tests))
