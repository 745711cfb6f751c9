-- The addition of a link: what it refuses, what it answers, and what the tables then hold.
use Rattle.std.specs.Prelude.{ℕ, zero, suc, Bool, ◌&&◌, ◌||◌, List, ◌∷◌, eqb, ltb, Float}
use Rattle.limits.specs.Limits.{link_limit}
use Rattle.refusal.specs.Refusal.{unless_of, lowest}
use Rattle.masks.specs.Masks.{is_mask}
use Rattle.planar.specs.Poses.{rotation_of, is_turn, finite_point, finite_pose}
use Rattle.topology.specs.Parents.{parent_fits}
use Rattle.arm.specs.declared.Arm.{Arm}
use Rattle.arm.specs.Arm.{tags_of}
use Rattle.arm.specs.HandedIn.{is_new, arm_entries}
use Rattle.kinematics.specs.State.{only}
use Rattle.full_working.specs.Outcome.{Outcome, unless_refused, tables_fit, worked_marked}
use Rattle.one_link.specs.Above.{above_finite}
use Rattle.addition.specs.declared.NewLink.{NewLink}
use Rattle.addition.specs.NewLink.{added_inputs}

-- 5: masks are at most 7, and a root's locked one is 7 or 0
abbrev pub each_mask : NewLink → Bool
each_mask new = (is_mask new.locked && is_mask new.limit) && is_mask new.motor

unfoldable pub masks_fit : ℕ → NewLink → Bool
masks_fit zero new = each_mask new && (eqb new.locked 7 || eqb new.locked 0)
masks_fit (suc link) new = each_mask new

-- 7: frames and centre of mass are finite
unfoldable pub floats_finite : NewLink → Bool
floats_finite new = (finite_pose new.frame1 && finite_pose new.frame2) && finite_point new.centre

-- 8: both frames' rotations are turns
unfoldable pub turns_fit : NewLink → Bool
turns_fit new = is_turn (rotation_of new.frame1) && is_turn (rotation_of new.frame2)

-- of the tables its parent's block is read
unfoldable pub add_refusal : Arm → List Float → NewLink → ℕ
add_refusal a t new =
    let n = a.link_count in
    lowest
    (unless_of (tables_fit t) 1
    ∷ unless_of (ltb n link_limit) 2
    ∷ unless_of (is_new new.tag (tags_of a)) 3
    ∷ unless_of (parent_fits n new.parent) 4
    ∷ unless_of (masks_fit n new) 5
    ∷ unless_of (floats_finite new && above_finite n new.parent t) 7
    ∷ unless_of (turns_fit new) 8
    ∷ arm_entries a)

-- the new link alone, over what is kept
unfoldable pub link_added : Arm → List Float → NewLink → Outcome
link_added a t new =
    unless_refused (add_refusal a t new) a t
    (worked_marked a (added_inputs a new) (only a.link_count) t)
