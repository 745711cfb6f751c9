-- No result of a link is worked out from its springs: with another spring every link is as fresh as it was. Assumes nothing.
use Prim.Native.Nat.{ℕ}
use mathlib.Core.Path.{◌≡◌, refl, sym, ap, ap₂, ◌∙◌}
use mathlib.Core.Bool.{Bool, true, false, cond, ◌&&◌}
use mathlib.Core.Logic.{inl, inr}
use mathlib.Core.List.{List, []}
use lib.Dec.{leb, ltb}
use lib.ListN.{length, set, length-set}
use lib.Seq.{take_all}
use lib.Ieee.{Float}
use native.Mathlib.Omega.{arith}
use Rattle.arm.proofs.Accepted.{accepted, not-refused, Accepted, not-refused as none_refused}
use Rattle.refusal.proofs.Laws.{holds_in}
use Rattle.arm.proofs.Relinked.{standing, still_accepted}
use Rattle.arm.specs.Setters.{with_links, with_joint}
use Rattle.lists.proofs.Lists.{same_map, same_front}
use Rattle.lists.proofs.Modified.{length-modify, modify_other, modify_field, modify_tests}
use Rattle.arm.specs.Sized.{Sized}
use Rattle.lists.specs.Lists.{modify}
use Rattle.lists.proofs.Bools.{both_hold, both}
use Rattle.floats.specs.Floats.{is_finite, all_finite}
use Rattle.masks.specs.Starts.{start_of}
use Rattle.planar.specs.Poses.{finite_rotation, finite_point, finite_pose}
use Rattle.multibody_joint.specs.declared.Joint.{Joint}
use Rattle.multibody_joint.specs.declared.Spring.{Spring}
use Rattle.multibody_joint.specs.Joint.{with_springs, slid_by, slid_pose, body_to_parent, joint_finite}
use Rattle.multibody_joint.specs.Springs.{spring_finite, spring_set}
use Rattle.arm.specs.declared.Link.{Link}
use Rattle.arm.specs.declared.Arm.{Arm}
use Rattle.arm.specs.Arm.{live_links, links_of, masks_of, no_link, link_at, locked_of}
use Rattle.arm.specs.HandedIn.{link_finite, angle_fits, link_angle_fits}
use Rattle.arm_edits.specs.Springs.{spring_entries, spring_refusal, link_spring_set, with_link_spring, arm_spring_set}
use Rattle.kinematics.specs.Blocks.{block_at}
use Rattle.kinematics.specs.Link.{Kept, Inputs, root_posed, later_posed, kept_of, root_kept, later_kept, finite_kept}
use Rattle.kinematics.specs.State.{State, state, inputs_of, kept_at, kept_ops, parent_at}
use Rattle.kinematics.specs.Pass.{new_at}
use Rattle.kinematics.specs.Promises.{Fresh}
use Rattle.kinematics.proofs.Pass.{new_same}
use Rattle.full_working.specs.Outcome.{out}
use Rattle.full_working.specs.Full.{Settled}
use Rattle.one_link.specs.Promise.{Right}
use Rattle.one_link.proofs.Settles.{facts, nowhere}
use Rattle.one_link.proofs.Right.{Edit}
use Rattle.always.proofs.Unworked.{edit_right}
use Rattle.always.proofs.Rows.{set-finite}
use Rattle.always.proofs.Shapes.{coordinates, Threes, coordinates_stay}

-- ---- results

-- a joint without its springs
abbrev springless : Joint → Joint
springless j = record {
  locked = j.locked;
  limit = j.limit;
  motor = j.motor;
  frame1 = j.frame1;
  frame2 = j.frame2;
  coordinates = j.coordinates;
  rotation = j.rotation;
  stiffness = [];
  rest = [];
}

abbrev plain : Inputs → Inputs
plain x = record { joint = springless x.joint; centre = x.centre; start = x.start; above = x.above }

root_plain : (x : Inputs) → root_kept x ≡ root_kept (plain x)
unfolding root_kept kept_of root_posed body_to_parent slid_pose slid_by
root_plain x = refl

later_plain : (up : Kept) (x : Inputs) → later_kept up x ≡ later_kept up (plain x)
unfolding later_kept kept_of later_posed body_to_parent slid_pose slid_by
later_plain up x = refl

result_plain : (par : ℕ → ℕ) (xs : ℕ → Inputs) (s : State) (j : ℕ) → new_at kept_ops par xs s j ≡ new_at kept_ops par (λ i. plain (xs i)) s j
result_plain par xs s j = ap₂ (cond (ltb (par j) j)) (later_plain (kept_at s (par j)) (xs j)) (root_plain (xs j))

-- ---- a link with another spring

-- the test of a joint but for its springs
abbrev motion_finite : Joint → Bool
motion_finite j = ((finite_pose j.frame1 && finite_pose j.frame2) && all_finite j.coordinates) && finite_rotation j.rotation

abbrev with_spring : Joint → ℕ → Spring → Joint
with_spring j axis s = with_springs j (set j.stiffness axis s.stiffness) (set j.rest axis s.rest)

abbrev bare : Link → Link
bare l = with_joint l (springless l.joint)

module _ (axis : ℕ) (s : Spring) where
  -- what reads no spring
  unread : {B : Type 0} (g : Link → B) → ((l : Link) → g (with_joint l (with_spring l.joint axis s)) ≡ g l) → (l : Link) → g (link_spring_set axis s l) ≡ g l
  unfolding link_spring_set spring_set
  unread g h l = go (leb axis 2)
    where
      go : (b : Bool) → g (with_joint l (cond b (with_spring l.joint axis s) l.joint)) ≡ g l
      go true = h l
      go false = refl

  axis_finite : (xs : List Float) (v : Float) → is_finite v ≡ true → all_finite xs ≡ true → all_finite (set xs axis v) ≡ true
  axis_finite xs v h e =
      ap all_finite (sym (take_all (length xs) (set xs axis v) (omega (arith, length-set xs axis v))))
      ∙ set-finite (length xs) xs axis v h (ap all_finite (take_all (length xs) xs (omega arith)) ∙ e)

  spring_finite_lem : spring_finite s ≡ true → (l : Link) → link_finite l ≡ true → link_finite (with_joint l (with_spring l.joint axis s)) ≡ true
  unfolding spring_finite link_finite joint_finite
  spring_finite_lem f l h =
      let v = both_hold (is_finite s.stiffness) (is_finite s.rest) f in
      let shift23 = both_hold _ (finite_point l.shift23) h in
      let shift02 = both_hold _ (finite_point l.shift02) shift23.0 in
      let world = both_hold _ (finite_pose l.world) shift02.0 in
      let centre = both_hold (joint_finite l.joint) (finite_point l.centre) world.0 in
      let rest = both_hold _ (all_finite l.joint.rest) centre.0 in
      let stiffness = both_hold (motion_finite l.joint) (all_finite l.joint.stiffness) rest.0 in
      let stiffness' = axis_finite l.joint.stiffness s.stiffness v.0 stiffness.1 in
      let rest' = axis_finite l.joint.rest s.rest v.1 rest.1 in
      both (both (both (both (both (both stiffness.0 stiffness') rest') centre.1) world.1) shift02.1) shift23.1

  still_finite : spring_finite s ≡ true → (l : Link) → link_finite l ≡ true → link_finite (link_spring_set axis s l) ≡ true
  unfolding link_spring_set spring_set
  still_finite f l h = go (leb axis 2)
    where
      go : (b : Bool) → link_finite (with_joint l (cond b (with_spring l.joint axis s) l.joint)) ≡ true
      go true = spring_finite_lem f l h
      go false = h

-- ---- the arm

module _ (a : Arm) (t : List Float) (sized : Sized a) (settled : Settled a t) (link axis : ℕ) (s : Spring) where
  abbrev ls : List Link
  ls = a.links

  abbrev ls' : List Link
  ls' = modify (link_spring_set axis s) link ls

  same : (j : ℕ) → bare (link_at ls' j) ≡ bare (link_at ls j)
  same j = modify_field (link_spring_set axis s) bare (unread axis s bare (λ l. refl)) link j ls no_link

  same_length : length ls' ≡ length ls
  same_length = length-modify (link_spring_set axis s) link ls

  same_masks : masks_of (with_links a ls') ≡ masks_of a
  unfolding masks_of links_of
  same_masks = same_front locked_of no_link (live_links a) ls' ls same_length (λ j. ap locked_of (same j))

  parent_same : (j : ℕ) → parent_at ls' j ≡ parent_at ls j
  unfolding parent_at
  parent_same j = ap (λ (l : Link). l.parent) (same j)

  inputs_same : (j : ℕ) → plain (inputs_of ls' j) ≡ plain (inputs_of ls j)
  unfolding inputs_of
  inputs_same j =
      let p = same j in
      let m = ap (λ (ms : List ℕ). start_of ms j) (same_map locked_of no_link ls' ls same_length (λ i. ap locked_of (same i))) in
      let u = ap (λ (l : Link). l.centre) (same (parent_at ls' j)) ∙ ap (λ (i : ℕ). (link_at ls i).centre) (parent_same j) in
      λ i. record { joint = (p i).joint; centre = (p i).centre; start = m i; above = u i }

  as_was : (j : ℕ) → kept_at (state ls' t) j ≡ kept_at (state ls t) j
  unfolding kept_at
  as_was j = ap (λ (l : Link). record { world = l.world; shift02 = l.shift02; shift23 = l.shift23; block = block_at j t }) (same j)

  still_fresh : (j : ℕ) → Fresh ls t j → Fresh ls' t j
  still_fresh j e =
      as_was j
      ∙ e
      ∙ result_plain (parent_at ls) (inputs_of ls) (state ls t) j
      ∙ new_same kept_ops (parent_at ls) (λ i. plain (inputs_of ls i)) (parent_at ls') (λ i. plain (inputs_of ls' i)) (state ls t) (state ls' t) j
      (sym (parent_same j)) (sym (inputs_same j)) (λ q. sym (as_was (parent_at ls j)))
      ∙ sym (result_plain (parent_at ls') (inputs_of ls') (state ls' t) j)

  still_ok : spring_finite s ≡ true → Accepted a → Accepted (with_links a ls')
  unfolding links_of angle_fits
  still_ok f ok =
      let finite = modify_tests (link_spring_set axis s) link_finite (live_links a) link ls no_link ok.links (still_finite axis s f (link_at ls link)) in
      let angles = modify_tests (link_spring_set axis s) link_angle_fits (live_links a) link ls no_link ok.angles (λ h. unread axis s link_angle_fits (λ l. refl) (link_at ls link) ∙ h) in
      accepted (with_links a ls')
      (not-refused (with_links a ls')
      (still_accepted a sized.links ls' (same_length ∙ sized.links) (λ j h. ap standing (same j)) (accepted a (none_refused a ok)) finite angles))

  edit : spring_refusal a link axis s ≡ 0 → Edit a t (with_link_spring a link axis s) nowhere (λ j. j ≡ link)
  unfolding spring_refusal with_link_spring
  edit e =
      let k = facts a t sized.links settled in
      record {
        sized = record { links = same_length ∙ sized.links; couplings = sized.couplings; rows = sized.rows; entries = sized.entries };
        few = k.few;
        ready = record {
          closed = λ j h q z. z;
          fresh = λ j h z. still_fresh j (k.fresh j h);
          finite = λ j h z. ap finite_kept (as_was j) ∙ k.finite j h;
          unused = k.unused;
        };
        ok = λ z. still_ok (holds_in (spring_entries a link axis s) e (spring_finite s) 6 (inr (inr (inl refl)))) k.ok;
        apart = λ j h z. (λ q. refl, modify_other (link_spring_set axis s) link j ls no_link z);
      }

  pub spring_right : Right a t (spring_refusal a link axis s) (with_link_spring a link axis s) (λ j. j ≡ link) (out (arm_spring_set a link axis s) t)
  unfolding arm_spring_set
  spring_right = edit_right a t sized settled (spring_refusal a link axis s) (with_link_spring a link axis s) (λ j. j ≡ link) edit

pub spring_three : (a : Arm) (link axis : ℕ) (s : Spring) → Threes a → Threes (with_link_spring a link axis s)
unfolding with_link_spring
spring_three a link axis s = coordinates_stay (link_spring_set axis s) (unread axis s coordinates (λ l. refl)) a link
