-- `commit`: the blocks of the first j links are laid. Assumes nothing.
use Rattle.std.proofs.Common.{◌≡◌}
use Rattle.kinematics.specs.Inner.{blocks_laid, work_at}
use Rattle.kinematics.specs.State.{marked}
use Rattle.kinematics.proofs.commit.Given as goal

abbrev pub invariant-loop-j : goal.invariant-loop-j
invariant-loop-j l = l.tables ≡ blocks_laid (marked l.marks) (work_at l.work) l.j l.initial.tables
