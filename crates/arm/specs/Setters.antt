-- Links and arms, made and changed.
use Rattle.std.specs.Prelude.{ℕ, List}
use Rattle.planar.specs.declared.Point.{Point}
use Rattle.planar.specs.declared.Pose.{Pose}
use Rattle.planar.specs.Poses.{identity_pose, origin}
use Rattle.multibody_joint.specs.declared.Joint.{Joint}
use Rattle.arm.specs.declared.Link.{Link}
use Rattle.arm.specs.declared.Coupling.{Coupling}
use Rattle.arm.specs.declared.Row.{Row}
use Rattle.arm.specs.declared.Arm.{Arm}

-- ---- a link

-- a new one: its pose and shifts are yet to be worked out
unfoldable pub unplaced : ℕ → ℕ → Joint → Point → Link
unplaced tag parent joint centre = record {
  tag = tag;
  parent = parent;
  joint = joint;
  centre = centre;
  world = identity_pose;
  shift02 = origin;
  shift23 = origin;
}

abbrev pub link_with : Link → ℕ → Joint → Point → Pose → Point → Point → Link
link_with l parent joint centre world shift02 shift23 = record {
  tag = l.tag;
  parent = parent;
  joint = joint;
  centre = centre;
  world = world;
  shift02 = shift02;
  shift23 = shift23;
}

-- another parent, joint and centre of mass
abbrev pub with_inputs : Link → ℕ → Joint → Point → Link
with_inputs l parent joint centre = link_with l parent joint centre l.world l.shift02 l.shift23

abbrev pub with_joint : Link → Joint → Link
with_joint l joint = with_inputs l l.parent joint l.centre

-- another world pose and other shifts
unfoldable pub with_place : Link → Pose → Point → Point → Link
with_place l world shift02 shift23 = link_with l l.parent l.joint l.centre world shift02 shift23

-- ---- an arm

-- a with other counts, links, couplings and rows: these are all its fields
abbrev pub arm_with : Arm → ℕ → ℕ → List Link → List Coupling → List Row → Arm
arm_with a link_count coupling_count links couplings rows = record {
  link_count = link_count;
  coupling_count = coupling_count;
  links = links;
  couplings = couplings;
  rows = rows;
}

abbrev pub with_links : Arm → List Link → Arm
with_links a links = arm_with a a.link_count a.coupling_count links a.couplings a.rows

abbrev pub with_couplings : Arm → ℕ → List Coupling → Arm
with_couplings a count couplings = arm_with a a.link_count count a.links couplings a.rows

abbrev pub with_rows : Arm → List Row → Arm
with_rows a rows = arm_with a a.link_count a.coupling_count a.links a.couplings rows
