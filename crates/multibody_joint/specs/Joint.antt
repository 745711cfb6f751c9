-- A joint's pose, and root joints, by document 01's 'Joint', 'Split' and 'Root change'.
use Rattle.std.specs.Prelude.{ℕ, Bool, cond, ◌&&◌, List, [], ◌∷◌, get_or, replicate, Float}
use Rattle.std.specs.Float.{nan}
use Rattle.floats.specs.Floats.{zero32, plus, all_finite}
use Rattle.masks.specs.Masks.{is_free}
use Rattle.planar.specs.Poses.{rotation_of, posed, identity_pose, pose_product, pose_inverse, finite_rotation, finite_pose}
use Rattle.planar.specs.declared.Rotation.{Rotation}
use Rattle.planar.specs.declared.Pose.{Pose}
use Rattle.multibody_joint.specs.declared.Joint.{Joint}

-- the coordinate of an axis
abbrev pub coordinate_of : Joint → ℕ → Float
coordinate_of j axis = get_or j.coordinates axis nan

-- +0 on every axis
abbrev pub zeros : List Float
zeros = replicate 3 zero32

-- ---- made, and changed

-- coordinates and springs zero, rotation identity
unfoldable pub new_joint : ℕ → ℕ → ℕ → Pose → Pose → Joint
new_joint locked limit motor first second = record {
  locked = locked;
  limit = limit;
  motor = motor;
  frame1 = first;
  frame2 = second;
  coordinates = zeros;
  rotation = rotation_of identity_pose;
  stiffness = zeros;
  rest = zeros;
}

-- the joint with other frames, coordinates, rotation and springs
abbrev pub joint_with : Joint → Pose → Pose → List Float → Rotation → List Float → List Float → Joint
joint_with j first second coordinates rotation stiffness rest = record {
  locked = j.locked;
  limit = j.limit;
  motor = j.motor;
  frame1 = first;
  frame2 = second;
  coordinates = coordinates;
  rotation = rotation;
  stiffness = stiffness;
  rest = rest;
}

abbrev pub with_frames : Joint → Pose → Pose → Joint
with_frames j first second = joint_with j first second j.coordinates j.rotation j.stiffness j.rest

abbrev pub with_motion : Joint → List Float → Rotation → Joint
with_motion j coordinates rotation = joint_with j j.frame1 j.frame2 coordinates rotation j.stiffness j.rest

abbrev pub with_springs : Joint → List Float → List Float → Joint
with_springs j stiffness rest = joint_with j j.frame1 j.frame2 j.coordinates j.rotation stiffness rest

-- ---- body_to_parent

-- on a free axis its coordinate is added
unfoldable pub slid_by : Joint → ℕ → Float → Float
slid_by j axis x = cond (is_free j.locked axis) (plus x (coordinate_of j axis)) x

unfoldable pub slid_pose : Joint → Pose → Pose
slid_pose j p = record { re = p.re; im = p.im; x = slid_by j 0 p.x; y = slid_by j 1 p.y }

-- the rotation's pose times the inverse of frame 2; each free straight axis adds its coordinate; frame 1 on the left
unfoldable pub body_to_parent : Joint → Pose
body_to_parent j =
    pose_product j.frame1
    (slid_pose j (pose_product (posed j.rotation (record { x = zero32; y = zero32 })) (pose_inverse j.frame2)))

-- ---- root joints

-- mask 0, frames identity, springs and other masks zero, at the pose; angle coordinate 0
unfoldable pub free_joint : Pose → Joint
free_joint p = with_motion (new_joint 0 0 0 identity_pose identity_pose) (p.x ∷ p.y ∷ zero32 ∷ []) (rotation_of p)

-- mask 7, frame 1 the pose, frame 2 and rotation identity, coordinates, springs and other masks zero
unfoldable pub fixed_joint : Pose → Joint
fixed_joint p = new_joint 7 0 0 p identity_pose

-- x, y and the rotation; the third coordinate stays
unfoldable pub free_pos_set : Joint → Pose → Joint
free_pos_set j p = with_motion j (p.x ∷ p.y ∷ coordinate_of j 2 ∷ []) (rotation_of p)

-- ---- is it finite?

-- frames, coordinates, rotation, springs
unfoldable pub joint_finite : Joint → Bool
joint_finite j =
    ((((finite_pose j.frame1 && finite_pose j.frame2) && all_finite j.coordinates) && finite_rotation j.rotation) && all_finite j.stiffness) && all_finite j.rest
