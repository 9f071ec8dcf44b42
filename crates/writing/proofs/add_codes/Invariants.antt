-- `writing::add_codes` meets its contract: the codes from here on are still owed.
use mathlib.Core.List.{map}
use lib.ListN.{drop}
use Prim.Native.Nat.{◌<◌}
use Rattle.rules.specs.Numbers.{decimal}
use Rattle.rules.specs.Response.{fields_out}
use Rattle.writing.proofs.Laws.{Owes}
use Rattle.writing.proofs.add_codes.Given as goal

abbrev pub invariant-loop-code : goal.invariant-loop-code
invariant-loop-code l = (l.m < 18446744073709551616) × Owes (fields_out l.d (map decimal (drop l.code-index l.codes))) l.m l.out l.n (fields_out l.d (map decimal l.codes)) l.initial.out
