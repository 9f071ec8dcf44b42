-- `register::bucket_of` meets its contract: the bytes that are left decide.
use Prim.Native.Nat.{◌<◌}
use mathlib.Core.Path.{◌≡◌}
use lib.ListN.{drop}
use Rattle.register.specs.Trees.{bucket_from, bucket_of}
use Rattle.register.proofs.bucket_of.Given as goal

abbrev pub invariant-loop-b : goal.invariant-loop-b
invariant-loop-b l = (l.bucket < 1024) × (bucket_of l.control ≡ bucket_from l.bucket (drop l.b-index l.control))
