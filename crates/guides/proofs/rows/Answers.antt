-- `guides::rows` meets its contract.
use mathlib.Core.Path.{refl}
use Rattle.rules.proofs.Open.{everything}
use Rattle.guides.specs.Encoded.{guide006010, guide004010}
use Rattle.guides.proofs.rows.Goals as goal

pub returns : goal.returns
unfolding everything guide004010 guide006010
returns c = refl
