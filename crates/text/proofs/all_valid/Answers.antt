-- `text::all_valid` meets its contract.
use Rattle.std.proofs.Common.{arith}
use Rattle.std.proofs.lemmas.Grind.{common_steps}
use Rattle.rules.proofs.Library.{all-is}
use Rattle.rules.specs.Cutting.{valid}
use Rattle.text.proofs.all_valid.Goals as goal

pub returns : goal.returns
returns c = rw (all-is (valid c.args.d)) (grind (arith, common_steps))
