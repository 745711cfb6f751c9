-- An arm handed in: document 01's rules 2 to 5, 7 and 9, each as a test of the arm up to its counts.
use Rattle.std.specs.Prelude.{ℕ, Bool, true, not, ◌&&◌, ◌||◌, List, [], ◌∷◌, eqb, leb, ltb}
use Rattle.limits.specs.Limits.{link_limit, coupling_limit}
use Rattle.refusal.specs.Refusal.{unless_of, lowest}
use Rattle.floats.specs.Floats.{is_finite, all_finite}
use Rattle.masks.specs.Masks.{is_mask, is_axis}
use Rattle.topology.specs.Parents.{parents_fit}
use Rattle.planar.specs.Rotation.{is_beyond}
use Rattle.planar.specs.Poses.{finite_point, finite_pose}
use Rattle.multibody_joint.specs.declared.Joint.{Joint}
use Rattle.multibody_joint.specs.Joint.{coordinate_of, joint_finite}
use Rattle.arm.specs.declared.Link.{Link}
use Rattle.arm.specs.declared.Coupling.{Coupling}
use Rattle.arm.specs.declared.Arm.{Arm}
use Rattle.lists.specs.Tests.{every}
use Rattle.arm.specs.Arm.{links_of, couplings_of, tags_of, parents_of, masks_of, rows_of}

-- ---- 2: the counts fit

abbrev pub counts_fit : Arm → Bool
counts_fit a = leb a.link_count link_limit && leb a.coupling_count coupling_limit

-- ---- 3: no tag stands twice

abbrev pub differs : ℕ → ℕ → Bool
differs tag other = not (eqb other tag)

abbrev pub is_new : ℕ → List ℕ → Bool
is_new tag others = every (differs tag) others

unfoldable pub unique : List ℕ → Bool
unique [] = true
unique (tag ∷ later) = is_new tag later && unique later

unfoldable pub tags_unique : Arm → Bool
tags_unique a = unique (tags_of a)

-- ---- 4: parents are earlier, and a first one is 0; couplings' links are below the count

unfoldable pub parents_earlier : Arm → Bool
parents_earlier a = parents_fit (parents_of a)

unfoldable pub coupling_links_fit : ℕ → Coupling → Bool
coupling_links_fit n c = ltb c.link1 n && ltb c.link2 n

abbrev pub couplings_links_fit : Arm → Bool
couplings_links_fit a = every (coupling_links_fit a.link_count) (couplings_of a)

abbrev pub link_numbers_fit : Arm → Bool
link_numbers_fit a = parents_earlier a && couplings_links_fit a

-- ---- 5: masks are at most 7, a root's locked one is 7 or 0, couplings' axes are at most 2

unfoldable pub joint_masks_fit : Joint → Bool
joint_masks_fit j = (is_mask j.locked && is_mask j.limit) && is_mask j.motor

abbrev pub link_masks_fit : Link → Bool
link_masks_fit l = joint_masks_fit l.joint

abbrev pub root_mask_fits : List ℕ → Bool
root_mask_fits [] = true
root_mask_fits (root ∷ later) = eqb root 7 || eqb root 0

unfoldable pub root_fits : Arm → Bool
root_fits a = root_mask_fits (masks_of a)

unfoldable pub coupling_axes_fit : Coupling → Bool
coupling_axes_fit c = is_axis c.axis1 && is_axis c.axis2

abbrev pub masks_and_axes_fit : Arm → Bool
masks_and_axes_fit a = (every link_masks_fit (links_of a) && root_fits a) && every coupling_axes_fit (couplings_of a)

-- ---- 7: every float is finite

-- its joint, its centre of mass, and what is kept of it
unfoldable pub link_finite : Link → Bool
link_finite l =
    (((joint_finite l.joint && finite_point l.centre) && finite_pose l.world) && finite_point l.shift02) && finite_point l.shift23

unfoldable pub coupling_finite : Coupling → Bool
coupling_finite c = is_finite c.coefficient && is_finite c.offset

-- row entries up to the DoF count
unfoldable pub rows_finite : Arm → Bool
rows_finite a = every all_finite (rows_of a)

abbrev pub floats_finite : Arm → Bool
floats_finite a = (every link_finite (links_of a) && every coupling_finite (couplings_of a)) && rows_finite a

-- ---- 9: no angle coordinate lies beyond 256 either way, locked or not

unfoldable pub angle_fits : Joint → Bool
angle_fits j = not (is_beyond (coordinate_of j 2))

abbrev pub link_angle_fits : Link → Bool
link_angle_fits l = angle_fits l.joint

abbrev pub angles_fit : Arm → Bool
angles_fit a = every link_angle_fits (links_of a)

-- ---- the refusal

-- one entry for each rule
unfoldable pub arm_rules : Arm → List ℕ
arm_rules a =
    unless_of (counts_fit a) 2
    ∷ unless_of (tags_unique a) 3
    ∷ unless_of (link_numbers_fit a) 4
    ∷ unless_of (masks_and_axes_fit a) 5
    ∷ unless_of (floats_finite a) 7
    ∷ unless_of (angles_fit a) 9
    ∷ []

unfoldable pub arm_refusal : Arm → ℕ
arm_refusal a = lowest (arm_rules a)

-- what a call that takes an arm adds to its own entries: the lowest of the arm's
abbrev pub arm_entries : Arm → List ℕ
arm_entries a = arm_refusal a ∷ []
