-- The promises of the step: it leaves tags, parents and masks, and what it tests of the new joints is what an arm handed in is tested for, so the new arm
-- is one that the full working takes. Assumes nothing.
use Prim.Native.Nat.{ℕ, ◌<◌}
use mathlib.Core.Path.{◌≡◌, refl, sym, ap, ◌∙◌}
use mathlib.Core.Bool.{true}
use mathlib.Core.Logic.{inl, inr}
use mathlib.Core.List.{List, [], ◌∷◌}
use native.Mathlib.Nat.{eq-zero-or-pos}
use native.Mathlib.Omega.{arith}
use lib.ListN.{length, drop, length-append, length-drop, get_or-append}
use lib.Ieee.{Float}
use Rattle.arm.proofs.Accepted.{accepted, not-refused}
use Rattle.arm.proofs.Relinked.{standing, link_passes, links_pass, still_accepted}
use Rattle.lists.proofs.Numbers.{length-each, get_or-each}
use Rattle.lists.specs.Numbers.{each}
use Rattle.lists.proofs.Bools.{both_hold, both}
use Rattle.limits.specs.Limits.{link_limit}
use Rattle.refusal.specs.Refusal.{unless_of}
use Rattle.refusal.proofs.Laws.{is_lowest, holds_in}
use Rattle.floats.specs.Floats.{is_finite}
use Rattle.planar.specs.Poses.{finite_point, finite_pose}
use Rattle.multibody_joint.specs.declared.Joint.{Joint}
use Rattle.multibody_joint.specs.Motion.{integrated}
use Rattle.arm.specs.declared.Link.{Link}
use Rattle.arm.specs.declared.Arm.{Arm}
use Rattle.arm.specs.Arm.{live_links, no_link, link_at}
use Rattle.multibody_joint.specs.Joint.{joint_finite}
use Rattle.arm.specs.HandedIn.{link_finite, angles_fit, arm_refusal}
use Rattle.full_working.specs.Outcome.{tables_fit}
use Rattle.full_working.proofs.Again.{call_settles, call_keeps, call_joint}
use Rattle.whole_step.specs.Step.{link_integrated, link_after, links_after, velocities_of, arm_after, link_joint_finite, joints_finite, step_refusal, whole_step}
use Rattle.whole_step.specs.Promises.{StepSettles, StepKeeps}

module _ (a : Arm) (sized : length a.links ≡ link_limit) (dt : Float) where
  abbrev pub vs : List Float
  vs = velocities_of a

  pub sized_after : length (links_after a vs dt) ≡ link_limit
  unfolding links_after
  sized_after =
      let n = live_links a in
      omega (arith, length-append (each n (link_after a vs dt)) (drop n a.links), length-each (link_after a vs dt) n, length-drop n a.links)

  -- a link that counts is integrated
  pub link_at_lem : (j : ℕ) → j < live_links a → link_at (links_after a vs dt) j ≡ link_after a vs dt j
  unfolding links_after
  link_at_lem j h =
      let n = live_links a in
      get_or-append (each n (link_after a vs dt)) (drop n a.links) no_link j (omega (arith, length-each (link_after a vs dt) n)) ∙ get_or-each (link_after a vs dt) n j no_link h

  -- no link counts
  none : live_links a ≡ 0 → length (link_at (links_after a vs dt) 0).joint.coordinates ≡ length (link_at a.links 0).joint.coordinates
  unfolding links_after each
  none e = rw e

  pub stands : (j : ℕ) → j < live_links a → standing (link_at (links_after a vs dt) j) ≡ standing (link_at a.links j)
  unfolding link_after link_integrated integrated
  stands j h = ap standing (link_at_lem j h)

  abbrev new : Arm
  new = arm_after a dt

  module _ (old : arm_refusal a ≡ 0) (angles : angles_fit new ≡ true) (joints : joints_finite new ≡ true) where
    finite_after : (j : ℕ) → j < live_links a → link_finite (link_at (links_after a vs dt) j) ≡ true
    unfolding arm_after link_finite link_after link_integrated
    finite_after j h =
        let x = link_at a.links j in
        let f23 = both_hold _ (finite_point x.shift23) (link_passes a sized link_finite (accepted a old).links j h) in
        let f02 = both_hold _ (finite_point x.shift02) f23.0 in
        let fw = both_hold _ (finite_pose x.world) f02.0 in
        let fc = both_hold (joint_finite x.joint) (finite_point x.centre) fw.0 in
        let fj : joint_finite (link_after a vs dt j).joint ≡ true = sym (ap link_joint_finite (link_at_lem j h)) ∙ link_passes new sized_after link_joint_finite joints j h in
        ap link_finite (link_at_lem j h) ∙ both (both (both (both fj fc.1) fw.1) f02.1) f23.1

    accepted_after : arm_refusal new ≡ 0
    unfolding arm_after
    accepted_after = not-refused new (still_accepted a sized (links_after a vs dt) sized_after stands (accepted a old) (links_pass new sized_after link_finite finite_after) angles)

  changed : (t : List Float) → step_refusal a new t dt ≡ 0 → arm_refusal new ≡ 0
  unfolding step_refusal
  changed t e =
      let ks = unless_of (tables_fit t) 1 ∷ unless_of (is_finite dt) 7 ∷ unless_of (angles_fit new) 9 ∷ arm_refusal a ∷ unless_of (joints_finite new) 12 ∷ [] in
      accepted_after
      ((is_lowest ks).none e (arm_refusal a) (inr (inr (inr (inl refl)))))
      (holds_in ks e (angles_fit new) 8 (inr (inr (inl refl))))
      (holds_in ks e (joints_finite new) 11 (inr (inr (inr (inr (inl refl))))))

  new_sized : length new.links ≡ link_limit
  unfolding arm_after
  new_sized = sized_after

  new_three : length (link_at a.links 0).joint.coordinates ≡ 3 → length (link_at new.links 0).joint.coordinates ≡ 3
  unfolding arm_after link_after link_integrated integrated
  new_three three = elim (eq-zero-or-pos (live_links a)) [
    | inl e ↦ none e ∙ three
    | inr h ↦ ap (λ (l : Link). length l.joint.coordinates) (link_at_lem 0 h)
  ]

pub step_settles : StepSettles
unfolding whole_step
step_settles a t dt sized r =
    (call_settles a (arm_after a dt) (new_sized a sized dt) t (step_refusal a (arm_after a dt) t dt) (changed a sized dt t) r).1

pub step_keeps : StepKeeps
unfolding whole_step
step_keeps a t dt sized three settled =
    let k = step_refusal a (arm_after a dt) t dt in
    let leaves = call_keeps a (arm_after a dt) (new_sized a sized dt) t k (changed a sized dt t) sized settled in (
      leaves.0,
      call_joint a (arm_after a dt) (new_sized a sized dt) t k (changed a sized dt t) (λ (j : Joint). length j.coordinates ≡ 3) 0 three (new_three a sized dt three),
      leaves.1,
    )
