-- `write_branch`: what stands behind place `at` is the branch's end, and the branch of the next link fits before it. Assumes nothing.
use Rattle.topology.proofs.Written.{Written}
use Rattle.topology.specs.Parents.{branch}
use Rattle.topology.proofs.write_branch.Given as goal

abbrev pub invariant-loop-at : goal.invariant-loop-at
invariant-loop-at l = Written l.parents (branch l.parents l.link) l.initial.to l.at l.j l.to

abbrev pub decreases-loop-at : goal.decreases-loop-at
decreases-loop-at l = l.at
