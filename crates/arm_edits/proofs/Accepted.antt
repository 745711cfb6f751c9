-- What an accepted edit knows: its link is there, its axis is free, a coupling has its place. Each by its place in the list of tests.
-- Assumes nothing.
use Prim.Native.Nat.{ℕ, ◌≤◌, ◌<◌}
use mathlib.Core.Path.{◌≡◌, refl}
use mathlib.Core.Bool.{true, ◌&&◌}
use mathlib.Core.Logic.{inl, inr}
use native.Mathlib.Omega.{arith}
use borrow.Author.Tests.{leb-true, ltb-true}
use lib.Dec.{ltb}
use lib.Ieee.{Float}
use lib.ListN.{length}
use Rattle.std.proofs.Common.{Result, Ok}
use Rattle.refusal.specs.declared.Refusal.{Refusal}
use Rattle.refusal.specs.Refusal.{code}
use Rattle.refusal.proofs.Answers.{passed}
use Rattle.refusal.proofs.Laws.{is_lowest, holds_in}
use Rattle.lists.proofs.Bools.{both_hold}
use Rattle.limits.specs.Limits.{link_limit, coupling_limit, dof_limit}
use Rattle.masks.specs.Masks.{is_axis, is_free}
use Rattle.multibody_joint.specs.declared.Spring.{Spring}
use Rattle.arm.specs.declared.Arm.{Arm}
use Rattle.arm.specs.Arm.{is_link, mask_at}
use Rattle.arm.specs.HandedIn.{arm_refusal}
use Rattle.arm.specs.Edits.{dof_at}
use Rattle.arm.proofs.Accepted.{counts_accepted, Link-there, there, live}
use Rattle.arm.proofs.Edits.{dof_in_row}
use Rattle.arm_edits.specs.declared.NewCoupling.{NewCoupling}
use Rattle.arm_edits.specs.Rows.{write_entries, write_refusal}
use Rattle.arm_edits.specs.Springs.{spring_entries, spring_refusal}
use Rattle.arm_edits.specs.Couplings.{coupling_entries, coupling_refusal}

module _ (a : Arm) (link axis : ℕ) where
  module _ (value : Float) (e : write_refusal a link axis value ≡ 0) where
    pub write_there : Link-there a link
    unfolding write_refusal
    write_there =
        let ks = write_entries a link axis value in
        there a link (holds_in ks e (is_link a link) 3 (inl refl)) ((is_lowest ks).none e (arm_refusal a) (inr (inr (inr (inr (inl refl))))))

    pub write_free : is_free (mask_at a link) axis ≡ true
    unfolding write_refusal
    write_free = holds_in (write_entries a link axis value) e (is_free (mask_at a link) axis) 5 (inr (inr (inl refl)))

  module _ (s : Spring) (e : spring_refusal a link axis s ≡ 0) where
    pub set_spring_there : Link-there a link
    unfolding spring_refusal
    set_spring_there =
        let ks = spring_entries a link axis s in
        there a link (holds_in ks e (is_link a link) 3 (inl refl)) ((is_lowest ks).none e (arm_refusal a) (inr (inr (inr (inl refl)))))

-- an accepted coupling has a place, and its numbers are bytes
pub record Coupling-fits (a : Arm) (c : NewCoupling) : Type 0 where
  pub place : a.coupling_count < coupling_limit
  pub first : c.link1 < link_limit
  pub second : c.link2 < link_limit
  pub axis_first : c.axis1 ≤ 2
  pub axis_second : c.axis2 ≤ 2

pub coupling_fits : (a : Arm) (c : NewCoupling) → coupling_refusal a c ≡ 0 → Coupling-fits a c
unfolding coupling_refusal
coupling_fits a c e =
    let ks = coupling_entries a c in
    let l = both_hold (is_link a c.link1) (is_link a c.link2) (holds_in ks e (is_link a c.link1 && is_link a c.link2) 3 (inr (inl refl))) in
    let x = both_hold (is_axis c.axis1) (is_axis c.axis2) (holds_in ks e (is_axis c.axis1 && is_axis c.axis2) 4 (inr (inr (inl refl)))) in
    let room = (counts_accepted a ((is_lowest ks).none e (arm_refusal a) (inr (inr (inr (inr (inl refl))))))).0 in
    let l₁ = ltb-true c.link1 a.link_count l.0 in
    let l₂ = ltb-true c.link2 a.link_count l.1 in
    record {
      place = ltb-true a.coupling_count coupling_limit (holds_in ks e (ltb a.coupling_count coupling_limit) 1 (inl refl));
      first = omega arith;
      second = omega arith;
      axis_first = leb-true c.axis1 2 x.0;
      axis_second = leb-true c.axis2 2 x.1;
    }

-- ---- what a call knows once its tests passed

module _ {A : Type 0} {t : Result A Refusal} {x : A} (a : Arm) (passes : t ≡ Ok x) where
  pub coupling_passed : (c : NewCoupling) → code t ≡ coupling_refusal a c → Coupling-fits a c
  coupling_passed c e = coupling_fits a c (passed passes e)

  pub spring_passed : (link axis : ℕ) (s : Spring) → code t ≡ spring_refusal a link axis s → link < link_limit
  spring_passed link axis s e = let l = live a link (set_spring_there a link axis s (passed passes e)) in omega arith

  pub write_passed : (link axis : ℕ) (value : Float) → length a.links ≡ link_limit → code t ≡ write_refusal a link axis value → dof_at a link axis < dof_limit
  write_passed link axis value w e =
      let k = passed passes e in
      dof_in_row a link axis w (live a link (write_there a link axis value k)) (write_free a link axis value k)
