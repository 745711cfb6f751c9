-- A joint's motion, by document 01's 'Joint': `integrate` and `jacobian_mul_coordinates`. A row that is handed in begins with the joint's own
-- entries, one for each DoF, rising; an entry that is missing counts as +0.
use Rattle.std.specs.Prelude.{ℕ, cond, List, [], ◌∷◌, Float}
use Rattle.floats.specs.Floats.{zero32, entry_of, plus, times}
use Rattle.masks.specs.Masks.{is_free, dofs_below}
use Rattle.planar.specs.Rotation.{rotation_at}
use Rattle.planar.specs.declared.Rotation.{Rotation}
use Rattle.multibody_joint.specs.declared.Joint.{Joint}
use Rattle.multibody_joint.specs.Joint.{coordinate_of, with_motion}

-- an axis' entry of a row
abbrev pub entry_at : Joint → List Float → ℕ → Float
entry_at j row axis = entry_of row (dofs_below j.locked axis)

-- coordinate + velocity·dt on a free axis
unfoldable pub integrated_at : Joint → List Float → Float → ℕ → Float
integrated_at j velocities dt axis =
    cond (is_free j.locked axis) (plus (coordinate_of j axis) (times (entry_at j velocities axis) dt)) (coordinate_of j axis)

-- a free angle renews the rotation
unfoldable pub renewed : Joint → Float → Rotation
renewed j angle = cond (is_free j.locked 2) (rotation_at angle) j.rotation

unfoldable pub integrated : Joint → List Float → Float → Joint
integrated j velocities dt =
    let at = integrated_at j velocities dt in
    with_motion j (at 0 ∷ at 1 ∷ at 2 ∷ []) (renewed j (at 2))

-- an axis' acceleration, and zero on a locked one
unfoldable pub on_axis : Joint → List Float → ℕ → Float
on_axis j accelerations axis = cond (is_free j.locked axis) (entry_at j accelerations axis) zero32

unfoldable pub on_axes : Joint → List Float → List Float
on_axes j accelerations = let at = on_axis j accelerations in at 0 ∷ at 1 ∷ at 2 ∷ []
