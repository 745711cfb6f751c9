-- Where a link's results are finite, so is the rotation of its joint: no product and no difference of what isn't finite is. Assumes nothing.
use Prim.Native.Nat.{ℕ, ◌≤◌, ◌<◌}
use mathlib.Core.Path.{◌≡◌, refl, sym, ap, ◌∙◌}
use mathlib.Core.Bool.{Bool, true, false, cond}
use mathlib.Core.List.{List}
use native.Mathlib.Omega.{arith}
use lib.Dec.{eqb, ltb}
use lib.ListN.{length}
use Rattle.std.specs.Float.{float_is_finite}
use lib.Ieee.{Float, nan, inf, fin, unlike, add, sub, neg, mul}
use Rattle.arm.specs.Arm.{link_at}
use Rattle.lists.proofs.Bools.{both_hold, both}
use Rattle.limits.specs.Limits.{link_limit}
use Rattle.floats.specs.Floats.{is_finite, minus, times}
use Rattle.planar.specs.declared.Rotation.{Rotation}
use Rattle.planar.specs.declared.Pose.{Pose}
use Rattle.planar.specs.Poses.{rotation_of, posed, rotation_product, pose_product, finite_rotation, finite_pose}
use Rattle.multibody_joint.specs.declared.Joint.{Joint}
use Rattle.multibody_joint.specs.Joint.{slid_pose, body_to_parent}
use Rattle.arm.specs.declared.Arm.{Arm}
use Rattle.kinematics.specs.Link.{Kept, Inputs, root_posed, later_posed, kept_of, root_kept, later_kept, finite_place, finite_kept}
use Rattle.kinematics.specs.State.{inputs_of, kept_at, cleared, parent_at}
use Rattle.kinematics.specs.Promises.{Fits}
use Rattle.kinematics.proofs.Promises.{all_fresh}
use Rattle.one_link.proofs.Settles.{all_state, all_fine, cleared_long, fine_at}

differ : {A : Type 0} → ◌≡◌ {A = Bool} false true → A
differ e = let z : ◌≡◌ {A = ℕ} 0 1 = cc in absurd (omega arith)

neither : {A : Type 0} (b s : Bool) → is_finite (cond b nan (inf s)) ≡ true → A
unfolding float_is_finite
neither true s h = differ h
neither false s h = differ h

of_minus : (x y : Float) → is_finite (minus x y) ≡ true → (is_finite x ≡ true) × (is_finite y ≡ true)
unfolding sub add neg float_is_finite
of_minus nan y h = differ h
of_minus (inf s) nan h = differ h
of_minus (inf true) (inf true) h = differ h
of_minus (inf true) (inf false) h = differ h
of_minus (inf false) (inf true) h = differ h
of_minus (inf false) (inf false) h = differ h
of_minus (inf s) (fin t n d) h = differ h
of_minus (fin s m e) nan h = differ h
of_minus (fin s m e) (inf t) h = differ h
of_minus (fin s m e) (fin t n d) h = (refl, refl)

of_times : (x y : Float) → is_finite (times x y) ≡ true → (is_finite x ≡ true) × (is_finite y ≡ true)
unfolding mul float_is_finite
of_times nan y h = differ h
of_times (inf s) nan h = differ h
of_times (inf s) (inf t) h = differ h
of_times (inf s) (fin t n d) h = neither (eqb n 0) (unlike s t) h
of_times (fin s m e) nan h = differ h
of_times (fin s m e) (inf t) h = neither (eqb m 0) (unlike s t) h
of_times (fin s m e) (fin t n d) h = (refl, refl)

-- ---- poses

-- both rotations of a product whose real part is finite
of_product : (a b : Rotation) → finite_rotation (rotation_product a b) ≡ true → (finite_rotation a ≡ true) × (finite_rotation b ≡ true)
unfolding finite_rotation rotation_product
of_product a b h =
    let d = of_minus (times a.re b.re) (times a.im b.im) (both_hold _ _ h).0 in
    let re = of_times a.re b.re d.0 in
    let im = of_times a.im b.im d.1 in
    (both re.0 im.0, both re.1 im.1)

of_pose_product : (a b : Pose) → finite_pose (pose_product a b) ≡ true → (finite_rotation (rotation_of a) ≡ true) × (finite_rotation (rotation_of b) ≡ true)
unfolding finite_pose pose_product posed rotation_of
of_pose_product a b h = of_product (rotation_of a) (rotation_of b) (both_hold (finite_rotation (rotation_product (rotation_of a) (rotation_of b))) _ h).0

of_body : (j : Joint) → finite_rotation (rotation_of (body_to_parent j)) ≡ true → finite_rotation j.rotation ≡ true
unfolding body_to_parent slid_pose pose_product posed rotation_of
of_body j h =
    (of_product j.rotation _ (of_product (rotation_of j.frame1) _ h).1).0

-- ---- links

module _ (x : Inputs) where
  root_rotation : finite_kept (root_kept x) ≡ true → finite_rotation x.joint.rotation ≡ true
  unfolding finite_kept finite_place root_kept kept_of root_posed finite_pose
  root_rotation h = of_body x.joint (both_hold _ _ (both_hold _ _ (both_hold _ _ (both_hold _ _ h).0).0).0).0

  later_rotation : (up : Kept) → finite_kept (later_kept up x) ≡ true → finite_rotation x.joint.rotation ≡ true
  unfolding finite_kept finite_place later_kept kept_of later_posed
  later_rotation up h = of_body x.joint (of_pose_product up.world (body_to_parent x.joint) (both_hold _ _ (both_hold _ _ (both_hold _ _ h).0).0).0).1

-- every joint's, where every result of the working is finite
pub rotations_finite : (a : Arm) → length a.links ≡ link_limit → (t : List Float) → a.link_count ≤ link_limit → all_fine a t ≡ true
    → (j : ℕ) → j < a.link_count → finite_rotation (link_at a.links j).joint.rotation ≡ true
unfolding inputs_of
rotations_finite a sized t few f j h =
    let fits : Fits a.links a.link_count (cleared t) = record { places = sized; few = few; long = cleared_long t } in
    go (ltb (parent_at a.links j) j) (ap finite_kept (sym (all_fresh a.links a.link_count (cleared t) fits j h)) ∙ fine_at a sized t few f j h)
  where
    go : (b : Bool) → finite_kept (cond b (later_kept (kept_at (all_state a t) (parent_at a.links j)) (inputs_of a.links j)) (root_kept (inputs_of a.links j))) ≡ true
        → finite_rotation (inputs_of a.links j).joint.rotation ≡ true
    go true e = later_rotation (inputs_of a.links j) _ e
    go false e = root_rotation (inputs_of a.links j) e
