-- The empty arm: no links, no couplings. What stands in its unused places is read by no call.
use Rattle.std.specs.Prelude.{replicate}
use Rattle.limits.specs.Limits.{link_limit, coupling_limit, dof_limit}
use Rattle.floats.specs.Floats.{zero32}
use Rattle.planar.specs.Poses.{identity_pose, origin}
use Rattle.multibody_joint.specs.Joint.{fixed_joint}
use Rattle.arm.specs.declared.Link.{Link}
use Rattle.arm.specs.declared.Coupling.{Coupling}
use Rattle.arm.specs.declared.Row.{Row}
use Rattle.arm.specs.declared.Arm.{Arm}
use Rattle.arm.specs.Setters.{unplaced}

abbrev pub blank_link : Link
blank_link = unplaced 0 0 (fixed_joint identity_pose) origin

abbrev pub blank_coupling : Coupling
blank_coupling = record { link1 = 0; axis1 = 0; link2 = 0; axis2 = 0; coefficient = zero32; offset = zero32 }

abbrev pub blank_row : Row
blank_row = record { entries = replicate dof_limit zero32 }

unfoldable pub empty_arm : Arm
empty_arm = record {
  link_count = 0;
  coupling_count = 0;
  links = replicate link_limit blank_link;
  couplings = replicate coupling_limit blank_coupling;
  rows = replicate 5 blank_row;
}
