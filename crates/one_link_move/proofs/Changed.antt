-- What a change leaves of a link, and that it leaves an acceptable link acceptable. Assumes nothing.
use Prim.Native.Nat.{ℕ, zero, suc}
use mathlib.Core.Path.{◌≡◌, refl, sym, ap, ◌∙◌}
use mathlib.Core.Bool.{Bool, true, false, not, cond, ◌&&◌}
use mathlib.Core.List.{List, [], ◌∷◌}
use borrow.Author.Tests.{eqb-true, eqb-false}
use lib.Dec.{eqb, ltb}
use lib.ListN.{get_or, set}
use lib.Seq.{get_or-set_other}
use lib.Ieee.{Float, nan}
use Rattle.arm.specs.Setters.{with_inputs}
use Rattle.lists.proofs.Bools.{both_hold, both}
use Rattle.floats.specs.Floats.{is_finite, all_finite}
use Rattle.planar.specs.declared.Rotation.{Rotation}
use Rattle.planar.specs.Rotation.{rotation_at, is_beyond}
use Rattle.planar.specs.declared.Point.{Point}
use Rattle.planar.specs.Poses.{finite_rotation, finite_point, finite_pose}
use Rattle.multibody_joint.specs.declared.Joint.{Joint}
use Rattle.multibody_joint.specs.Joint.{with_motion, with_frames, joint_finite}
use Rattle.arm.specs.declared.Link.{Link}
use Rattle.arm.specs.HandedIn.{joint_masks_fit, link_masks_fit, link_finite, angle_fits, link_angle_fits}
use Rattle.kinematics.specs.Link.{Kept}
use Rattle.one_link_move.specs.declared.Change.{Change}
use Rattle.one_link_move.specs.declared.Change.TheVariants.{Coordinate, Frames, Centre}
use Rattle.one_link_move.specs.Change.{coordinate_set, changed}
use Rattle.one_link_move.specs.Move.{change_finite, angle_within}

-- ---- what stays

motion_keeps : {B : Type 0} (f : Joint → B) → ((j : Joint) (cs : List Float) (r : Rotation) → f (with_motion j cs r) ≡ f j) → (axis : ℕ) (value : Float) (j : Joint)
    → f (coordinate_set axis value j) ≡ f j
unfolding coordinate_set
motion_keeps f h axis value j = go (ltb 2 axis)
  where
    go : (b : Bool) → f (cond b j (with_motion j (set j.coordinates axis value) (cond (eqb axis 2) (rotation_at value) j.rotation))) ≡ f j
    go true = refl
    go false = h j _ _

-- a link's results, with any block
abbrev pub results_of : List Float → Link → Kept
results_of block l = record { world = l.world; shift02 = l.shift02; shift23 = l.shift23; block = block }

module _ (change : Change) (l : Link) where
  pub same_tag : (changed change l).tag ≡ l.tag
  unfolding changed
  same_tag = go change
    where
      go : (c : Change) → (changed c l).tag ≡ l.tag
      go (Coordinate axis value) = refl
      go (Frames first second) = refl
      go (Centre centre) = refl

  pub same_parent : (changed change l).parent ≡ l.parent
  unfolding changed
  same_parent = go change
    where
      go : (c : Change) → (changed c l).parent ≡ l.parent
      go (Coordinate axis value) = refl
      go (Frames first second) = refl
      go (Centre centre) = refl

  pub same_locked : (changed change l).joint.locked ≡ l.joint.locked
  unfolding changed
  same_locked = go change
    where
      go : (c : Change) → (changed c l).joint.locked ≡ l.joint.locked
      go (Coordinate axis value) = motion_keeps (λ (j : Joint). j.locked) (λ j cs r. refl) axis value l.joint
      go (Frames first second) = refl
      go (Centre centre) = refl

  pub same_masks : link_masks_fit (changed change l) ≡ link_masks_fit l
  unfolding changed joint_masks_fit
  same_masks = go change
    where
      go : (c : Change) → link_masks_fit (changed c l) ≡ link_masks_fit l
      go (Coordinate axis value) = motion_keeps joint_masks_fit (λ j cs r. refl) axis value l.joint
      go (Frames first second) = refl
      go (Centre centre) = refl

  pub same_results : (block : List Float) → results_of block (changed change l) ≡ results_of block l
  unfolding changed
  same_results block = go change
    where
      go : (c : Change) → results_of block (changed c l) ≡ results_of block l
      go (Coordinate axis value) = refl
      go (Frames first second) = refl
      go (Centre centre) = refl

-- ---- what is still accepted

set-finite : (xs : List Float) (i : ℕ) (v : Float) → all_finite xs ≡ true → is_finite v ≡ true → all_finite (set xs i v) ≡ true
set-finite [] i v e h = refl
set-finite (x ∷ xs) zero v e h = both h (both_hold (is_finite x) (all_finite xs) e).1
set-finite (x ∷ xs) (suc i) v e h = let p = both_hold (is_finite x) (all_finite xs) e in both p.0 (set-finite xs i v p.1 h)

-- at its own place a store is read back, or there is no such place
set_at : (test : Float → Bool) (xs : List Float) (i : ℕ) (v d : Float) → test v ≡ true → test (get_or xs i d) ≡ true → test (get_or (set xs i v) i d) ≡ true
set_at test [] i v d h e = e
set_at test (x ∷ xs) zero v d h e = h
set_at test (x ∷ xs) (suc i) v d h e = set_at test xs i v d h e

-- the parts of the test of a joint
record Parts (j : Joint) : Type 0 where
  frames : (finite_pose j.frame1 && finite_pose j.frame2) ≡ true
  coordinates : all_finite j.coordinates ≡ true
  rotation : finite_rotation j.rotation ≡ true
  stiffness : all_finite j.stiffness ≡ true
  rest : all_finite j.rest ≡ true

parts : (j : Joint) → joint_finite j ≡ true → Parts j
unfolding joint_finite
parts j h =
    let p₄ = both_hold _ _ h in
    let p₃ = both_hold _ _ p₄.0 in
    let p₂ = both_hold _ _ p₃.0 in
    let p₁ = both_hold _ _ p₂.0 in
    record { frames = p₁.0; coordinates = p₁.1; rotation = p₂.1; stiffness = p₃.1; rest = p₄.1 }

whole : (j : Joint) → Parts j → joint_finite j ≡ true
unfolding joint_finite
whole j k = both (both (both (both k.frames k.coordinates) k.rotation) k.stiffness) k.rest

coordinate_finite : (axis : ℕ) (value : Float) (j : Joint) → is_finite value ≡ true → joint_finite j ≡ true → finite_rotation (coordinate_set axis value j).rotation ≡ true
    → joint_finite (coordinate_set axis value j) ≡ true
unfolding coordinate_set
coordinate_finite axis value j v h = go (ltb 2 axis)
  where
    go : (b : Bool) → finite_rotation (cond b j (with_motion j (set j.coordinates axis value) (cond (eqb axis 2) (rotation_at value) j.rotation))).rotation ≡ true
        → joint_finite (cond b j (with_motion j (set j.coordinates axis value) (cond (eqb axis 2) (rotation_at value) j.rotation))) ≡ true
    go true r = h
    go false r =
        let k = parts j h in
        whole (with_motion j (set j.coordinates axis value) (cond (eqb axis 2) (rotation_at value) j.rotation)) (record {
          frames = k.frames;
          coordinates = set-finite j.coordinates axis value k.coordinates v;
          rotation = r;
          stiffness = k.stiffness;
          rest = k.rest;
        })

coordinate_angle : (axis : ℕ) (value : Float) (j : Joint) → not (eqb axis 2 && is_beyond value) ≡ true → angle_fits j ≡ true → angle_fits (coordinate_set axis value j) ≡ true
unfolding coordinate_set angle_fits
coordinate_angle axis value j w h = go (ltb 2 axis)
  where
    within : Float → Bool
    within x = not (is_beyond x)

    at : (b : Bool) → eqb axis 2 ≡ b → not (b && is_beyond value) ≡ true → within (get_or (set j.coordinates axis value) 2 nan) ≡ true
    at true e q = let a : axis ≡ 2 = eqb-true axis 2 e in rw a (set_at within j.coordinates 2 value nan q h)
    at false e q = ap within (get_or-set_other j.coordinates axis 2 value nan (λ z. eqb-false axis 2 e (sym z))) ∙ h

    go : (b : Bool) → angle_fits (cond b j (with_motion j (set j.coordinates axis value) (cond (eqb axis 2) (rotation_at value) j.rotation))) ≡ true
    go true = h
    go false = at (eqb axis 2) refl w

-- a link with another joint and centre of mass
inputs_finite : (l : Link) (joint : Joint) (centre : Point) → link_finite l ≡ true → (joint_finite l.joint ≡ true → joint_finite joint ≡ true)
    → (finite_point l.centre ≡ true → finite_point centre ≡ true)
    → link_finite (with_inputs l l.parent joint centre) ≡ true
unfolding link_finite
inputs_finite l joint centre h f g =
    let p₄ = both_hold _ _ h in
    let p₃ = both_hold _ _ p₄.0 in
    let p₂ = both_hold _ _ p₃.0 in
    let p₁ = both_hold _ _ p₂.0 in
    both (both (both (both (f p₁.0) (g p₁.1)) p₂.1) p₃.1) p₄.1

pub still_finite : (change : Change) (l : Link) → change_finite change ≡ true → finite_rotation (changed change l).joint.rotation ≡ true → link_finite l ≡ true → link_finite (changed change l) ≡ true
unfolding changed
still_finite (Coordinate axis value) l v r h = inputs_finite l _ _ h (λ q. coordinate_finite axis value l.joint v q r) (λ q. q)
still_finite (Frames first second) l v r h =
    inputs_finite l _ _ h (λ q.
    let k = parts l.joint q in
    whole (with_frames l.joint first second) (record { frames = v; coordinates = k.coordinates; rotation = k.rotation; stiffness = k.stiffness; rest = k.rest })) (λ q. q)
still_finite (Centre centre) l v r h = inputs_finite l _ _ h (λ q. q) (λ q. v)

pub still_within : (change : Change) (l : Link) → angle_within change ≡ true → link_angle_fits l ≡ true → link_angle_fits (changed change l) ≡ true
unfolding changed angle_fits
still_within (Coordinate axis value) l w h = coordinate_angle axis value l.joint w h
still_within (Frames first second) l w h = h
still_within (Centre centre) l w h = h
