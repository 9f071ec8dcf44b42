-- `program::run` meets its contract.
use Rattle.std.proofs.Common.{◌≡◌}
use mathlib.Core.Path.{refl}
use Rattle.program.proofs.run.Goals as goal

pub serve-requires-clause-output_len : goal.serve-requires-clause-output_len
serve-requires-clause-output_len c = refl
