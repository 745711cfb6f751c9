-- `jacobian_mul_coordinates`: an accepted call's link is the one that the definition reads. Assumes nothing.
use Rattle.std.proofs.Common.{arith}
use Rattle.arm_views.proofs.Answers.{axes_read}
use Rattle.arm_views.proofs.jacobian_mul_coordinates.Goals as goal

pub returns : goal.returns
returns c =
    axes_read c.in_ok-mul_refusal.was _ _ _ c.mul_refusal.ensures (omega arith) _ _ c.jacobian_mul_coordinates.ensures
