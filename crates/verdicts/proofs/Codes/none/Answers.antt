-- `verdicts::Codes::none` meets its contract.
use mathlib.Core.Path.{refl}
use Rattle.verdicts.specs.Collecting.{no_codes}
use Rattle.verdicts.proofs.Codes.none.Goals as goal

pub returns : goal.returns
unfolding no_codes
returns c = refl
