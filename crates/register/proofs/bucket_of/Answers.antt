-- `register::bucket_of` meets its contract: the bytes that are left decide.
use Rattle.std.proofs.Common.{arith}
use Rattle.std.proofs.lemmas.Grind.{common_steps}
use Rattle.register.proofs.Trees.{bucket_step, bucket_end}
use Rattle.register.proofs.bucket_of.Goals as goal

pub loop-b-preserved : goal.loop-b-preserved
loop-b-preserved c = grind (arith, common_steps, bucket_step)

pub returns : goal.returns
returns c = grind (arith, common_steps, bucket_end)
