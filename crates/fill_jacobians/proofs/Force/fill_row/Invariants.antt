-- `fill_row`: the columns done are the front of the row.
use Rattle.std.proofs.Common.{◌≡◌, take}
use Rattle.fill_jacobians.specs.Sums.{force_row}
use Rattle.fill_jacobians.proofs.Force.fill_row.Given as goal

abbrev pub invariant-loop-c : goal.invariant-loop-c
invariant-loop-c l = take l.c l.row ≡ force_row l.self l.block l.c
