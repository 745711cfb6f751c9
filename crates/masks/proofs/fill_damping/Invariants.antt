-- `fill_damping`: at each axis the entries of the axes below it are laid over the memory; at 3 the whole row is. Assumes nothing.
use Prim.Native.Nat.{◌-◌, ◌≤◌}
use Rattle.masks.proofs.Fills.{Damped}
use Rattle.masks.proofs.fill_damping.Given as goal

abbrev pub invariant-loop-axis : goal.invariant-loop-axis
invariant-loop-axis l = (l.axis ≤ 3) × Damped l.mask l.axis l.at l.initial.lent l.lent

abbrev pub decreases-loop-axis : goal.decreases-loop-axis
decreases-loop-axis l = 3 - l.axis
