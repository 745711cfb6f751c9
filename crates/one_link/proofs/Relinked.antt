-- An arm whose links keep their inputs, and whose results are finite, is accepted as before. Assumes nothing.
use Prim.Native.Nat.{ℕ}
use mathlib.Core.Path.{◌≡◌, refl, sym, ap, ◌∙◌}
use mathlib.Core.Bool.{Bool, true, ◌&&◌}
use mathlib.Core.List.{List}
use lib.ListN.{length}
use Rattle.arm.proofs.Accepted.{Accepted}
use Rattle.arm.specs.Setters.{with_links, with_place}
use Rattle.lists.proofs.Every.{same_tests}
use Rattle.lists.proofs.Lists.{same_front}
use Rattle.lists.specs.Tests.{every}
use Rattle.lists.proofs.Bools.{both_hold, both}
use Rattle.planar.specs.Poses.{finite_point}
use Rattle.arm.specs.declared.Link.{Link}
use Rattle.arm.specs.declared.Arm.{Arm}
use Rattle.arm.specs.Arm.{live_links, links_of, locked_of, masks_of, no_link, link_at}
use Rattle.multibody_joint.specs.Joint.{joint_finite}
use Rattle.arm.specs.HandedIn.{link_finite, link_angle_fits}
use Rattle.kinematics.specs.Link.{finite_place}
use Rattle.limits.specs.Limits.{link_limit}
use Rattle.arm.proofs.Relinked.{standing, still_accepted}
use Rattle.kinematics.proofs.Store.{blank}

module _ (a : Arm) (ls : List Link) (l : length ls ≡ length a.links) (e : (j : ℕ) → blank (link_at ls j) ≡ blank (link_at a.links j)) where
  of_blank : {B : Type 0} (f : Link → B) → ((x : Link) → f (blank x) ≡ f x) → (j : ℕ) → f (link_at ls j) ≡ f (link_at a.links j)
  of_blank f h j = sym (h (link_at ls j)) ∙ ap f (e j) ∙ h (link_at a.links j)

  pub same_masks : masks_of (with_links a ls) ≡ masks_of a
  unfolding masks_of links_of with_place
  same_masks = same_front locked_of no_link (live_links a) ls a.links l (of_blank locked_of (λ x. refl))

  pub relinked : length a.links ≡ link_limit → Accepted a → every link_finite (links_of (with_links a ls)) ≡ true → Accepted (with_links a ls)
  unfolding links_of with_place
  relinked sized k h =
      still_accepted a sized ls (l ∙ sized) (λ j _. of_blank standing (λ x. refl) j) k h
      (same_tests link_angle_fits no_link (live_links a) ls a.links l (of_blank link_angle_fits (λ x. refl)) ∙ k.angles)

-- a link whose inputs and results are finite
abbrev link_inputs : Link → Bool
link_inputs l = joint_finite l.joint && finite_point l.centre

pub link_finite_lem : (l m : Link) → blank l ≡ blank m → link_finite m ≡ true → finite_place l.world l.shift02 l.shift23 ≡ true → link_finite l ≡ true
unfolding link_finite finite_place with_place
link_finite_lem l m e h p =
    let inputs = (both_hold _ _ (both_hold _ _ (both_hold _ _ h).0).0).0 in
    let place = both_hold _ _ p in
    let pose = both_hold _ _ place.0 in
    both (both (both (inputs_of_lem inputs) pose.0) pose.1) place.1
  where
    inputs_of_lem : link_inputs m ≡ true → link_inputs l ≡ true
    inputs_of_lem q = ap link_inputs e ∙ q
