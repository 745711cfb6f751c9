-- Every struct that crosses the C boundary, made of its fields. Of an array of three, each is given; any other array holds one value throughout.
use Rattle.std.specs.Prelude.{ℕ, [], ◌∷◌, replicate, Float}
use Rattle.refusal.specs.declared.Counted.{Counted}
use Rattle.limits.specs.Limits.{link_limit, coupling_limit, dof_limit}
use Rattle.addition.specs.declared.NewLink.{NewLink}
use Rattle.arm.specs.declared.Arm.{Arm}
use Rattle.arm.specs.declared.Coupling.{Coupling}
use Rattle.arm.specs.declared.Edited.{Edited}
use Rattle.arm.specs.declared.Link.{Link}
use Rattle.arm.specs.declared.Row.{Row}
use Rattle.arm_edits.specs.declared.NewCoupling.{NewCoupling}
use Rattle.arm_views.specs.declared.AxesAnswer.{AxesAnswer}
use Rattle.arm_views.specs.declared.SpringAnswer.{SpringAnswer}
use Rattle.arm_views.specs.declared.RowPart.{RowPart}
use Rattle.fill_jacobians.specs.declared.Force.{Force}
use Rattle.fill_jacobians.specs.declared.Sums.{Sums}
use Rattle.multibody_joint.specs.declared.Joint.{Joint}
use Rattle.multibody_joint.specs.declared.Spring.{Spring}
use Rattle.planar.specs.declared.Point.{Point}
use Rattle.planar.specs.declared.Pose.{Pose}
use Rattle.planar.specs.declared.Rotated.{Rotated}
use Rattle.planar.specs.declared.Rotation.{Rotation}
use Rattle.unit_multibody_joint.specs.declared.ConstraintRow.{ConstraintRow}
use Rattle.unit_multibody_joint.specs.declared.Limits.{Limits}

abbrev pub laid_rotation : Float → Float → Rotation
laid_rotation re im = record { re = re; im = im }

abbrev pub laid_point : Float → Float → Point
laid_point x y = record { x = x; y = y }

abbrev pub laid_pose : Float → Float → Float → Float → Pose
laid_pose re im x y = record { re = re; im = im; x = x; y = y }

abbrev pub laid_joint : ℕ → ℕ → ℕ → Pose → Pose → Float → Float → Float → Rotation → Float → Float → Float → Float → Float → Float → Joint
laid_joint locked limit motor frame1 frame2 coordinates0 coordinates1 coordinates2 rotation stiffness0 stiffness1 stiffness2 rest0 rest1 rest2 = record { locked = locked; limit = limit; motor = motor; frame1 = frame1; frame2 = frame2; coordinates = coordinates0 ∷ coordinates1 ∷ coordinates2 ∷ []; rotation = rotation; stiffness = stiffness0 ∷ stiffness1 ∷ stiffness2 ∷ []; rest = rest0 ∷ rest1 ∷ rest2 ∷ [] }

abbrev pub laid_spring : Float → Float → Spring
laid_spring stiffness rest = record { stiffness = stiffness; rest = rest }

abbrev pub laid_link : ℕ → ℕ → Joint → Point → Pose → Point → Point → Link
laid_link tag parent joint centre world shift02 shift23 = record { tag = tag; parent = parent; joint = joint; centre = centre; world = world; shift02 = shift02; shift23 = shift23 }

abbrev pub laid_coupling : ℕ → ℕ → ℕ → ℕ → Float → Float → Coupling
laid_coupling link1 axis1 link2 axis2 coefficient offset = record { link1 = link1; axis1 = axis1; link2 = link2; axis2 = axis2; coefficient = coefficient; offset = offset }

abbrev pub laid_row : Float → Row
laid_row entry = record { entries = replicate dof_limit entry }

abbrev pub laid_arm : ℕ → ℕ → Link → Coupling → Row → Arm
laid_arm link_count coupling_count link coupling row = record { link_count = link_count; coupling_count = coupling_count; links = replicate link_limit link; couplings = replicate coupling_limit coupling; rows = replicate 5 row }

abbrev pub laid_new_link : ℕ → ℕ → ℕ → ℕ → ℕ → Pose → Pose → Point → NewLink
laid_new_link tag parent locked limit motor frame1 frame2 centre = record { tag = tag; parent = parent; locked = locked; limit = limit; motor = motor; frame1 = frame1; frame2 = frame2; centre = centre }

abbrev pub laid_new_coupling : ℕ → ℕ → ℕ → ℕ → Float → Float → NewCoupling
laid_new_coupling link1 axis1 link2 axis2 coefficient offset = record { link1 = link1; axis1 = axis1; link2 = link2; axis2 = axis2; coefficient = coefficient; offset = offset }

abbrev pub laid_limits : Float → Float → Float → Float → Float → Float → Limits
laid_limits position min max dt erp-inv-dt cfm-coeff = record { position = position; min = min; max = max; dt = dt; erp_inv_dt = erp-inv-dt; cfm_coeff = cfm-coeff }

abbrev pub laid_force : Float → Float → Float → Force
laid_force x y torque = record { x = x; y = y; torque = torque }

abbrev pub laid_edited : ℕ → Arm → Edited
laid_edited refusal arm = record { refusal = refusal; arm = arm }

abbrev pub laid_rotated : ℕ → Rotation → Rotated
laid_rotated refusal rotation = record { refusal = refusal; rotation = rotation }

abbrev pub laid_counted : ℕ → ℕ → Counted
laid_counted refusal count = record { refusal = refusal; count = count }

abbrev pub laid_row_part : ℕ → ℕ → ℕ → RowPart
laid_row_part refusal offset length = record { refusal = refusal; offset = offset; length = length }

abbrev pub laid_spring_answer : ℕ → Spring → SpringAnswer
laid_spring_answer refusal spring = record { refusal = refusal; spring = spring }

abbrev pub laid_axes_answer : ℕ → Float → Float → Float → AxesAnswer
laid_axes_answer refusal axes0 axes1 axes2 = record { refusal = refusal; axes = axes0 ∷ axes1 ∷ axes2 ∷ [] }

abbrev pub laid_constraint_row : ℕ → Float → Float → Float → Float → Float → ConstraintRow
laid_constraint_row refusal lower upper rhs cfm-gain inv-lhs = record { refusal = refusal; lower = lower; upper = upper; rhs = rhs; cfm_gain = cfm-gain; inv_lhs = inv-lhs }

abbrev pub laid_sums : ℕ → Float → Float → Sums
laid_sums refusal j-wj j-velocities = record { refusal = refusal; j_wj = j-wj; j_velocities = j-velocities }
