-- `findings::start` meets its contract.
use Rattle.findings.specs.Steps as steps
use mathlib.Core.Path.{refl}
use Rattle.findings.proofs.start.Goals as goal

pub returns : goal.returns
unfolding steps.start
returns c = refl
