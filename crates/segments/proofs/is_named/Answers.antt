-- `segments::is_named` meets its contract.
use Rattle.std.proofs.Common.{arith, ◌≡◌, true, ◌&&◌, eqb, length}
use Rattle.std.specs.Prelude.{not}
use Rattle.std.specs.List.{starts_with, list_any, slice_get}
use Rattle.std.proofs.lemmas.Option.{gets}
use Rattle.segments.proofs.Library.{ends, named-is}
use Rattle.segments.proofs.is_named.Goals as goal

pub returns-then-not-contains : goal.returns-then-not-contains
returns-then-not-contains c =
    let a = c.args in
    let front : (starts_with eqb a.s.now a.name.now && not (list_any (λ b. eqb b a.e) a.name.now)) ≡ true = grind arith in
    let after : c.is_none_or.result ≡ ends a.e (slice_get a.s.now (length a.name.now)) = grind (arith, gets) in
    rw (named-is, front) after

pub returns-else-not-contains : goal.returns-else-not-contains
returns-else-not-contains c = grind (arith, named-is)
