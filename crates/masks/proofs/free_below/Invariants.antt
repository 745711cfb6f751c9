-- `free_below`: those below the next axis are counted. Assumes nothing.
use Rattle.std.proofs.Common.{◌≡◌}
use Rattle.masks.specs.Masks.{dofs_below}
use Rattle.masks.proofs.free_below.Given as goal

abbrev pub invariant-loop-below : goal.invariant-loop-below
invariant-loop-below l = l.count ≡ dofs_below l.mask l.below
