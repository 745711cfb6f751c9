-- `shift_block`: the first c columns are done, the rest is as it was. Assumes nothing.
use Rattle.std.proofs.Common.{◌≡◌}
use Rattle.kinematics.proofs.Shift.{columns_to}
use Rattle.kinematics.specs.Blocks.{plus_times}
use Rattle.kinematics.proofs.shift_block.Given as goal

abbrev pub invariant-loop-c : goal.invariant-loop-c
invariant-loop-c l = l.block ≡ columns_to (plus_times l.right) (plus_times l.up) l.c l.initial.block
