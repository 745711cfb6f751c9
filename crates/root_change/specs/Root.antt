-- The root change (`update_root_type`), by a value that says free or fixed, and at which pose; then the full working.
use Rattle.std.specs.Prelude.{ℕ, ◌-◌, cond, List, ◌∷◌, ◌++◌, map, eqb, take, drop, Float}
use Rattle.arm.specs.Arm.{is_link, link_at}
use Rattle.lists.specs.Lists.{modify}
use Rattle.limits.specs.Limits.{dof_limit}
use Rattle.refusal.specs.Refusal.{unless_of, lowest}
use Rattle.planar.specs.declared.Pose.{Pose}
use Rattle.planar.specs.Poses.{rotation_of, is_turn, finite_pose}
use Rattle.multibody_joint.specs.declared.Joint.{Joint}
use Rattle.multibody_joint.specs.Joint.{zeros, with_frames, free_joint, fixed_joint, free_pos_set}
use Rattle.arm.specs.declared.Link.{Link}
use Rattle.arm.specs.declared.Row.{Row}
use Rattle.arm.specs.declared.Arm.{Arm}
use Rattle.arm.specs.Setters.{with_joint, arm_with}
use Rattle.arm.specs.HandedIn.{arm_entries}
use Rattle.root_change.specs.declared.Root.{Root}
use Rattle.root_change.specs.declared.Root.TheVariants.{Free, Fixed}
use Rattle.full_working.specs.Outcome.{Outcome, unless_refused, tables_fit, worked_all}

-- ---- the root's joint

-- the locked mask of what the root becomes
abbrev pub locked_by : Root → ℕ
locked_by (Free p) = 0
locked_by (Fixed p) = 7

-- the pose that it becomes so at
abbrev pub root_pose : Root → Pose
root_pose (Free p) = p
root_pose (Fixed p) = p

-- the same type: a free joint's position is set, or a fixed one's frame 1; another: a free or a fixed joint comes in at the pose
unfoldable pub root_joint : Root → Joint → Joint
root_joint (Free p) j = cond (eqb j.locked 0) (free_pos_set j p) (free_joint p)
root_joint (Fixed p) j = cond (eqb j.locked 7) (with_frames j p j.frame2) (fixed_joint p)

-- tag, parent and centre of mass stay
unfoldable pub root_link : Root → Link → Link
root_link root l = with_joint l (root_joint root l.joint)

-- ---- a row

-- three zeros come in front; what falls off behind is past every DoF
unfoldable pub widened : Row → Row
widened row = record { entries = zeros ++ take (dof_limit - 3) row.entries }

-- the first three go; +0 comes in behind, past every DoF
unfoldable pub narrowed : Row → Row
narrowed row = record { entries = drop 3 row.entries ++ zeros }

-- from one type to another; the same type leaves it
unfoldable pub root_row : ℕ → ℕ → Row → Row
root_row from to row = cond (eqb from to) row (cond (eqb to 0) (widened row) (narrowed row))

-- ---- the change

abbrev pub root_mask : Arm → ℕ
root_mask a = (link_at a.links 0).joint.locked

-- every row alike
unfoldable pub root_rows : Arm → Root → List Row
root_rows a root = map (root_row (root_mask a) (locked_by root)) a.rows

-- the arm with its root changed, and nothing worked out
unfoldable pub root_changed : Arm → Root → Arm
root_changed a root =
    arm_with a a.link_count a.coupling_count (modify (root_link root) 0 a.links) a.couplings (root_rows a root)

unfoldable pub root_refusal : Arm → List Float → Root → ℕ
root_refusal a t root =
    lowest
    (unless_of (tables_fit t) 1
    ∷ unless_of (is_link a 0) 4
    ∷ unless_of (finite_pose (root_pose root)) 7
    ∷ unless_of (is_turn (rotation_of (root_pose root))) 8
    ∷ arm_entries a)

unfoldable pub changed_root : Arm → List Float → Root → Outcome
changed_root a t root = unless_refused (root_refusal a t root) a t (worked_all a (root_changed a root) t)
