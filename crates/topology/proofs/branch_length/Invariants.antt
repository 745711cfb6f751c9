-- `branch_length`: the links left behind on the way up, with the branch of the link reached, are the branch. Assumes nothing.
use Rattle.topology.specs.Parents.{branch, parent_in}
use lib.ListN.{length}
use Prim.Native.Nat.{◌+◌, ◌<◌, ◌≤◌}
use mathlib.Core.Path.{◌≡◌}
use Rattle.topology.proofs.branch_length.Given as goal

abbrev pub invariant-loop-p : goal.invariant-loop-p
invariant-loop-p l = (l.j < length l.parents) × (l.p ≡ parent_in l.parents l.j) × (l.n + l.j ≤ l.link + 1) × (l.link < length l.parents) × (length (branch l.parents l.link) + 1 ≡ l.n + length (branch l.parents l.j))

abbrev pub decreases-loop-p : goal.decreases-loop-p
decreases-loop-p l = l.j
