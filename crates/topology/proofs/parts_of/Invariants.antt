-- `parts_of`: the links passed have their parts, and the heads among them are counted. Assumes nothing.
use Rattle.topology.proofs.Pass.{Passed}
use Rattle.topology.proofs.parts_of.Given as goal

abbrev pub invariant-loop-j : goal.invariant-loop-j
invariant-loop-j l = Passed l.parents l.s l.initial.of l.j l.of l.count
