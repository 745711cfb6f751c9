-- What a one-link move sets.
use Rattle.std.specs.Prelude.{ℕ, cond, eqb, ltb, set, Float}
use Rattle.arm.specs.Setters.{with_links, with_inputs, with_joint}
use Rattle.lists.specs.Lists.{modify}
use Rattle.planar.specs.Rotation.{rotation_at}
use Rattle.multibody_joint.specs.declared.Joint.{Joint}
use Rattle.multibody_joint.specs.Joint.{with_frames, with_motion}
use Rattle.arm.specs.declared.Link.{Link}
use Rattle.arm.specs.declared.Arm.{Arm}
use Rattle.one_link_move.specs.declared.Change.{Change}
use Rattle.one_link_move.specs.declared.Change.TheVariants.{Coordinate, Frames, Centre}

-- the coordinate of an axis; the angle renews the rotation; there is no axis above 2
unfoldable pub coordinate_set : ℕ → Float → Joint → Joint
coordinate_set axis value j =
    cond (ltb 2 axis) j (with_motion j (set j.coordinates axis value) (cond (eqb axis 2) (rotation_at value) j.rotation))

unfoldable pub changed : Change → Link → Link
changed (Coordinate axis value) l = with_joint l (coordinate_set axis value l.joint)
changed (Frames first second) l = with_joint l (with_frames l.joint first second)
changed (Centre centre) l = with_inputs l l.parent l.joint centre

-- the arm with one link's inputs changed, and nothing worked out
unfoldable pub moved_inputs : Arm → ℕ → Change → Arm
moved_inputs a link change = with_links a (modify (changed change) link a.links)
