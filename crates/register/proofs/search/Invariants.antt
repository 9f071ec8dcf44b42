-- `register::search` meets its contract: what is found from the slot that the search is at decides, and of two numbers the bytes that were compared.
use Prim.Native.Nat.{◌+◌, ◌-◌, ◌≤◌}
use mathlib.Core.Path.{◌≡◌}
use lib.ListN.{length, take, drop}
use Rattle.register.specs.Trees as trees
use Rattle.register.proofs.search.Given as goal

abbrev pub invariant-loop-j : goal.invariant-loop-j
invariant-loop-j l = (l.j ≤ length l.control) × (drop l.j l.control ≡ take (length l.control - l.j) (drop (l.start + l.j) l.body))

abbrev pub invariant-sets : goal.invariant-sets
invariant-sets l = (l.i ≤ l.last) × (trees.search l.d l.body l.first l.starts l.links l.control ≡ trees.walk (65536 - l.i) l.d l.body l.first l.starts l.links l.control l.slot l.last l.i) × (l.first ≤ l.last)

abbrev pub decreases-sets : goal.decreases-sets
decreases-sets l = 65536 - l.last
