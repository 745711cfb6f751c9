-- The row of an axis, by what was wanted of it: the limit's or the friction's.
use Rattle.std.proofs.Common.{◌≡◌, ◌&&◌, not, ℕ, List, Float}
use Rattle.std.specs.Float.Ieee.{lt}
use Rattle.floats.specs.Floats.{zero32, times, is_finite}
use Rattle.arm.specs.declared.Arm.{Arm}
use Rattle.unit_multibody_joint.specs.declared.Limits.{Limits}
use Rattle.unit_multibody_joint.specs.declared.Wanted.{Wanted}
use Rattle.unit_multibody_joint.specs.Rows.{limit_bounds, friction_bounds}
use Rattle.unit_multibody_joint.specs.Refusals.{limits_finite, limits_ordered, friction_at}
use Rattle.unit_multibody_joint.specs.Answers.{axis_answer, limit_answer, friction_answer}

pub limit_is : (w : Wanted) (a : Arm) (link axis : ℕ) (g : Limits) (mass j wj : List Float)
    → w ≡ record { bounds = limit_bounds g; cfm_coeff = g.cfm_coeff; finite = limits_finite g; ordered = limits_ordered g }
    → axis_answer a link axis w.finite w.ordered w.bounds w.cfm_coeff mass j wj ≡ limit_answer a link axis g mass j wj
unfolding limit_answer
limit_is w a link axis g mass j wj e = rw e

pub friction_is : (w : Wanted) (a : Arm) (link axis : ℕ) (f dt cfm : Float) (mass j wj : List Float) → f ≡ friction_at a link axis
    → w ≡ record { bounds = friction_bounds f dt; cfm_coeff = cfm; finite = is_finite dt && is_finite cfm; ordered = not (lt (times f dt) zero32) }
    → axis_answer a link axis w.finite w.ordered w.bounds w.cfm_coeff mass j wj ≡ friction_answer a link axis dt cfm mass j wj
unfolding friction_answer
friction_is w a link axis f dt cfm mass j wj e h = rw (h, e)
