-- `work_out`: the first j links have had their turn, and their results are finite. Assumes nothing.
use Rattle.kinematics.proofs.Turns.{Held}
use Rattle.kinematics.specs.State.{marked}
use Rattle.kinematics.proofs.work_out.Given as goal

abbrev pub invariant-loop-j : goal.invariant-loop-j
invariant-loop-j l = Held l.initial.links l.n (marked l.marks) l.tables l.initial.work l.j l.start l.work l.links
