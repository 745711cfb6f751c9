-- One link's results from what is kept of its parent, by document 01's 'Kinematics': each in f32, in the order that stands there.
use Rattle.std.specs.Prelude.{ℕ, Bool, ◌&&◌, List, Float}
use Rattle.floats.specs.Floats.{zero32, one32, all_finite}
use Rattle.planar.specs.declared.Pose.{Pose}
use Rattle.planar.specs.declared.Point.{Point}
use Rattle.planar.specs.Poses.{rotation_of, translation_of, rotation_product, placed_by, point_difference, pose_product, finite_point, finite_pose}
use Rattle.multibody_joint.specs.declared.Joint.{Joint}
use Rattle.multibody_joint.specs.Joint.{body_to_parent}
use Rattle.arm.specs.declared.Link.{Link}
use Rattle.arm.specs.Setters.{with_place}
use Rattle.kinematics.specs.declared.Posed.{Posed}
use Rattle.kinematics.specs.Blocks.{zero_block, shifted, own_added}

-- ---- where a link is, and the R of its own columns

-- the root: its world pose is its own `body_to_parent`, shift02 is zero, the identity stands for the parent's rotation
unfoldable pub root_posed : Joint → Point → Posed
root_posed joint centre =
    let world = body_to_parent joint in
    let c2 = placed_by world (translation_of joint.frame2) in
    let c3 = placed_by world centre in
    record {
      world = world;
      shift02 = record { x = zero32; y = zero32 };
      shift23 = point_difference c3 c2;
      turn = rotation_product (record { re = one32; im = zero32 }) (rotation_of joint.frame1);
    }

-- any other link, from its parent's world pose and centre of mass
unfoldable pub later_posed : Pose → Point → Joint → Point → Posed
later_posed above centre_above joint centre =
    let world = pose_product above (body_to_parent joint) in
    let c0 = placed_by above centre_above in
    let c2 = placed_by world (translation_of joint.frame2) in
    let c3 = placed_by world centre in
    record {
      world = world;
      shift02 = point_difference c2 c0;
      shift23 = point_difference c3 c2;
      turn = rotation_product (rotation_of above) (rotation_of joint.frame1);
    }

-- ---- its block

-- the copied block shifted by shift02, own columns added, shifted by shift23
unfoldable pub block_from : Posed → ℕ → ℕ → List Float → List Float
block_from p locked start copied = shifted p.shift23 (own_added locked start p.turn (shifted p.shift02 copied))

-- ---- all that is kept of it

pub record Kept : Type 0 where
  pub world : Pose
  pub shift02 : Point
  pub shift23 : Point
  pub block : List Float

-- what it is worked out from, beside what is kept of its parent: its joint, its centre of mass, its start, its parent's centre of mass
pub record Inputs : Type 0 where
  pub joint : Joint
  pub centre : Point
  pub start : ℕ
  pub above : Point

unfoldable pub kept_of : Posed → Inputs → List Float → Kept
kept_of p x copied = record {
  world = p.world;
  shift02 = p.shift02;
  shift23 = p.shift23;
  block = block_from p x.joint.locked x.start copied;
}

-- the root's: zeros are copied
unfoldable pub root_kept : Inputs → Kept
root_kept x = kept_of (root_posed x.joint x.centre) x zero_block

-- another link's: its parent's block is copied
unfoldable pub later_kept : Kept → Inputs → Kept
later_kept up x = kept_of (later_posed up.world x.above x.joint x.centre) x up.block

-- ---- the test of the results

unfoldable pub finite_place : Pose → Point → Point → Bool
finite_place world shift02 shift23 = (finite_pose world && finite_point shift02) && finite_point shift23

-- every result is finite: the pose, both shifts and the whole block
unfoldable pub finite_kept : Kept → Bool
finite_kept k = finite_place k.world k.shift02 k.shift23 && all_finite k.block

-- ---- in its link

abbrev pub with_kept : Link → Kept → Link
with_kept l k = with_place l k.world k.shift02 k.shift23
