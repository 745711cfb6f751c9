-- A new link's own floats are finite: +0, 1 and the default damping are; and so are the rows with its entries. Assumes nothing.
use Prim.Native.Nat.{ℕ, zero, suc, ◌+◌, ◌≤◌}
use mathlib.Core.Path.{◌≡◌, refl}
use mathlib.Core.Bool.{Bool, true, false, cond, ◌&&◌}
use mathlib.Core.List.{List, [], ◌∷◌, ◌++◌}
use native.Mathlib.Nat.{suc-add, zero-add}
use lib.Dec.{eqb}
use lib.ListN.{length, take, drop}
use lib.Seq.{take_at, length-take-le}
use lib.Ieee.{Float, binary32, of_bits, of_fields, lt}
use Rattle.std.specs.Float.{float_is_finite}
use Rattle.multibody_joint.specs.Joint.{zeros, new_joint, joint_finite}
use Rattle.arm.specs.Setters.{unplaced}
use Rattle.arm.specs.Inner.{row_finite}
use Rattle.lists.proofs.Every.{every_drop, every_join, every_take}
use Rattle.lists.specs.Lists.{laid}
use Rattle.lists.proofs.Bools.{both_hold, both}
use Rattle.floats.specs.Floats.{is_finite, all_finite, one32}
use Rattle.floats.proofs.FiniteRows.{zero-finite, zeros_finite}
use Rattle.masks.specs.Masks.{is_free, damping_of, damping_below, damping_row}
use Rattle.planar.specs.Rotation.{is_beyond}
use Rattle.planar.specs.Poses.{rotation_of, translation_of, identity_pose, finite_rotation, finite_point, finite_pose, origin}
use Rattle.arm.specs.declared.Row.{Row}
use Rattle.arm.specs.HandedIn.{link_finite, angle_fits, link_angle_fits}
use Rattle.addition.specs.declared.NewLink.{NewLink}
use Rattle.addition.specs.NewLink.{link_of, entries_set}
use Rattle.addition.specs.Addition.{floats_finite}

-- ---- the numbers

one_finite : is_finite one32 ≡ true
unfolding of_bits of_fields float_is_finite
one_finite = refl

damping_finite : (axis : ℕ) → is_finite (damping_of axis) ≡ true
unfolding damping_of of_bits of_fields float_is_finite
damping_finite axis = go (eqb axis 2)
  where
    go : (b : Bool) → is_finite (cond b (of_bits binary32 0x3DCC_CCCD) (of_bits binary32 0)) ≡ true
    go true = refl
    go false = refl

-- ---- the link

identity_turn : finite_rotation (rotation_of identity_pose) ≡ true
unfolding finite_rotation rotation_of
identity_turn = both one_finite zero-finite

origin_finite : finite_point origin ≡ true
unfolding finite_point
origin_finite = both zero-finite zero-finite

identity_finite : finite_pose identity_pose ≡ true
unfolding finite_pose finite_point translation_of
identity_finite = both identity_turn (both zero-finite zero-finite)

pub link_finite_lem : (new : NewLink) → floats_finite new ≡ true → link_finite (link_of new) ≡ true
unfolding link_finite joint_finite link_of floats_finite unplaced new_joint
link_finite_lem new e =
    let p = both_hold (finite_pose new.frame1 && finite_pose new.frame2) (finite_point new.centre) e in
    let joint = both (both (both (both p.0 (zeros_finite 3)) identity_turn) (zeros_finite 3)) (zeros_finite 3) in
    both (both (both (both joint p.1) identity_finite) origin_finite) origin_finite

pub link_within : (new : NewLink) → link_angle_fits (link_of new) ≡ true
unfolding link_of angle_fits is_beyond lt of_bits of_fields unplaced new_joint
link_within new = refl

-- ---- lists

-- the default damping, at the front of three places
below-finite : (mask axis : ℕ) → all_finite (damping_below mask axis) ≡ true
unfolding damping_below
below-finite mask zero = refl
below-finite mask (suc axis) = every_join is_finite (damping_below mask axis) _ (below-finite mask axis) (go (is_free mask axis))
  where
    go : (b : Bool) → all_finite (cond b (damping_of axis ∷ []) []) ≡ true
    go true = both (damping_finite axis) refl
    go false = refl

pub laid_finite : (mask : ℕ) → all_finite (laid (damping_row mask) zeros) ≡ true
unfolding damping_row
laid_finite mask = every_join is_finite (damping_row mask) _ (below-finite mask 3) (every_drop is_finite (length (damping_row mask)) zeros (zeros_finite 3))

-- ---- a row with entries set behind its first d

behind_finite : (d : ℕ) (es v : List Float) → all_finite (take d es) ≡ true → all_finite v ≡ true → (n : ℕ) → length v ≡ n
    → all_finite (take (d + n) (take d es ++ (v ++ drop (d + n) es))) ≡ true
behind_finite zero es v p q n e = rw (zero-add n, take_at v (drop n es) n e) q
behind_finite (suc d) [] v p q n e = rw suc-add (every_take is_finite (suc (d + n)) (v ++ []) (every_join is_finite v [] q refl))
behind_finite (suc d) (x ∷ es) v p q n e = rw suc-add (both (both_hold (is_finite x) (all_finite (take d es)) p).0 (behind_finite d es v (both_hold (is_finite x) (all_finite (take d es)) p).1 q n e))

-- the front of a front
front_finite : (d n : ℕ) (es : List Float) → all_finite (take (d + n) es) ≡ true → all_finite (take d es) ≡ true
front_finite zero n es p = refl
front_finite (suc d) n [] p = refl
front_finite (suc d) n (x ∷ es) p =
    let e : (is_finite x && all_finite (take (d + n) es)) ≡ true = rw suc-add at p in
    let h = both_hold (is_finite x) (all_finite (take (d + n) es)) e in
    both h.0 (front_finite d n es h.1)

module _ (d n : ℕ) (values : List Float) (h : n ≤ length values) (v : all_finite values ≡ true) (row : Row) where
  pub row-finite : row_finite d row ≡ true → row_finite (d + n) (entries_set d n values row) ≡ true
  unfolding entries_set row_finite
  row-finite p = behind_finite d row.entries (take n values) p (every_take is_finite n values v) n (length-take-le n values h)

  pub row_before : row_finite (d + n) row ≡ true → row_finite d row ≡ true
  unfolding row_finite
  row_before p = front_finite d n row.entries p
