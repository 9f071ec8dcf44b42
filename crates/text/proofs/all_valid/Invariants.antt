-- `text::all_valid` meets its contract.
use Rattle.std.proofs.Common.{◌≡◌, take}
use Rattle.std.specs.List.{list_all}
use Rattle.rules.specs.Cutting.{valid}
use Rattle.text.proofs.all_valid.Given as goal

abbrev pub invariant-loop-b : goal.invariant-loop-b
invariant-loop-b l = l.valid ≡ list_all (valid l.d) (take l.b-index l.s)
