-- The one-link move: what it refuses, what it answers, and what the tables then hold.
use Rattle.std.specs.Prelude.{ℕ, Bool, true, not, ◌&&◌, List, ◌∷◌, eqb, Float}
use Rattle.refusal.specs.Refusal.{unless_of, lowest}
use Rattle.floats.specs.Floats.{is_finite}
use Rattle.masks.specs.Masks.{is_axis, is_free}
use Rattle.planar.specs.Rotation.{is_beyond}
use Rattle.planar.specs.Poses.{rotation_of, is_turn, finite_point, finite_pose}
use Rattle.topology.specs.Parents.{marks, parent_in}
use Rattle.arm.specs.declared.Arm.{Arm}
use Rattle.arm.specs.Arm.{is_link, parents_of, mask_at}
use Rattle.arm.specs.HandedIn.{arm_entries}
use Rattle.kinematics.specs.State.{marked}
use Rattle.full_working.specs.Outcome.{Outcome, unless_refused, tables_fit, worked_marked}
use Rattle.one_link.specs.Above.{above_finite}
use Rattle.one_link_move.specs.declared.Change.{Change}
use Rattle.one_link_move.specs.declared.Change.TheVariants.{Coordinate, Frames, Centre}
use Rattle.one_link_move.specs.Change.{moved_inputs}

-- ---- what is tested of a change

-- 5: the axis is at most 2
abbrev pub axis_fits : Change → Bool
axis_fits (Coordinate axis value) = is_axis axis
axis_fits (Frames first second) = true
axis_fits (Centre centre) = true

-- 6: it is free
abbrev pub axis_free : ℕ → Change → Bool
axis_free locked (Coordinate axis value) = is_free locked axis
axis_free locked (Frames first second) = true
axis_free locked (Centre centre) = true

-- 7: every float is finite
abbrev pub change_finite : Change → Bool
change_finite (Coordinate axis value) = is_finite value
change_finite (Frames first second) = finite_pose first && finite_pose second
change_finite (Centre centre) = finite_point centre

-- 8: both frames' rotations are turns
abbrev pub turns_fit : Change → Bool
turns_fit (Coordinate axis value) = true
turns_fit (Frames first second) = is_turn (rotation_of first) && is_turn (rotation_of second)
turns_fit (Centre centre) = true

-- 9: an angle lies within 256 either way
abbrev pub angle_within : Change → Bool
angle_within (Coordinate axis value) = not (eqb axis 2 && is_beyond value)
angle_within (Frames first second) = true
angle_within (Centre centre) = true

-- ---- the call

-- of the tables its parent's block is read
unfoldable pub move_refusal : Arm → List Float → ℕ → Change → ℕ
move_refusal a t link change =
    lowest
    (unless_of (tables_fit t) 1
    ∷ unless_of (is_link a link) 4
    ∷ unless_of (axis_fits change) 5
    ∷ unless_of (axis_free (mask_at a link) change) 6
    ∷ unless_of (change_finite change && above_finite link (parent_in (parents_of a) link) t) 7
    ∷ unless_of (turns_fit change) 8
    ∷ unless_of (angle_within change) 9
    ∷ arm_entries a)

-- the link and those below it, rising, over what is kept
unfoldable pub link_moved : Arm → List Float → ℕ → Change → Outcome
link_moved a t link change =
    unless_refused (move_refusal a t link change) a t
    (worked_marked a (moved_inputs a link change) (marked (marks (parents_of a) link)) t)
