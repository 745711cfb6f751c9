-- `step_links`: the links passed are done. Assumes nothing.
use mathlib.Core.Path.{◌≡◌}
use mathlib.Core.List.{map, ◌++◌}
use lib.ListN.{take, drop}
use Rattle.lists.specs.Numbers.{each}
use Rattle.masks.specs.Starts.{start_of}
use Rattle.arm.specs.Arm.{locked_of}
use Rattle.whole_step.specs.Inner.{integrated_at}
use Rattle.whole_step.proofs.step_links.Given as goal

abbrev pub invariant-loop-i : goal.invariant-loop-i
invariant-loop-i l = record {
  begins : l.start ≡ start_of (map locked_of (take l.n l.initial.links)) l.i;
  done : l.links ≡ each l.i (integrated_at l.n l.initial.links l.velocities l.dt) ++ drop l.i l.initial.links;
}
