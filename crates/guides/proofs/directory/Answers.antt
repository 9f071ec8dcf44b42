-- `guides::directory` meets its contract.
use mathlib.Core.Path.{refl}
use Rattle.rules.proofs.Open.{everything}
use Rattle.guides.specs.Encoded.{directory_rows}
use Rattle.guides.proofs.directory.Goals as goal

pub returns : goal.returns
unfolding directory_rows everything
returns c = refl
