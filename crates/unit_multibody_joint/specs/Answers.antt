-- The limit row and the friction row of a link's axis, refused or not.
use Rattle.std.specs.Prelude.{ℕ, Bool, ◌&&◌, List, length, Float}
use Rattle.floats.specs.Floats.{is_finite}
use Rattle.arm.specs.declared.Arm.{Arm}
use Rattle.arm.specs.Arm.{dof_count_of}
use Rattle.arm.specs.Edits.{dof_at}
use Rattle.unit_multibody_joint.specs.declared.Limits.{Limits}
use Rattle.unit_multibody_joint.specs.declared.Bounds.{Bounds}
use Rattle.unit_multibody_joint.specs.declared.ConstraintRow.{ConstraintRow}
use Rattle.unit_multibody_joint.specs.Outcome.{Outcome}
use Rattle.unit_multibody_joint.specs.Rows.{limit_bounds, friction_bounds, row_answer, unit_row, lhs_at}
use Rattle.unit_multibody_joint.specs.Refusals.{row_refusal, limits_finite, limits_ordered, friction_at, friction_ordered}

-- an axis' row of these bounds; `fine` and `ordered` as in its refusal
unfoldable pub axis_answer : Arm → ℕ → ℕ → Bool → Bool → Bounds → Float → List Float → List Float → List Float → Outcome ConstraintRow
axis_answer a link axis fine ordered b cfm mass j wj =
    let n = dof_count_of a in
    let dof = dof_at a link axis in
    row_answer b cfm (lhs_at dof) (row_refusal a link axis fine ordered mass (length j) (length wj)) n (unit_row n dof) mass j wj

unfoldable pub limit_answer : Arm → ℕ → ℕ → Limits → List Float → List Float → List Float → Outcome ConstraintRow
limit_answer a link axis g mass j wj = axis_answer a link axis (limits_finite g) (limits_ordered g) (limit_bounds g) g.cfm_coeff mass j wj

unfoldable pub friction_answer : Arm → ℕ → ℕ → Float → Float → List Float → List Float → List Float → Outcome ConstraintRow
friction_answer a link axis dt cfm mass j wj =
    axis_answer a link axis (is_finite dt && is_finite cfm) (friction_ordered a link axis dt) (friction_bounds (friction_at a link axis) dt) cfm mass j wj
