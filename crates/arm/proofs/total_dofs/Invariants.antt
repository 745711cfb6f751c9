-- `total_dofs`: the sum so far is the start of the next link's mask. Assumes nothing.
use Rattle.std.proofs.Common.{◌≡◌, map}
use Rattle.masks.specs.Starts.{start_of}
use Rattle.arm.specs.Arm.{locked_of}
use Rattle.arm.proofs.total_dofs.Given as goal

abbrev pub invariant-loop-link : goal.invariant-loop-link
invariant-loop-link l = l.total ≡ start_of (map locked_of l.links) l.link-index
