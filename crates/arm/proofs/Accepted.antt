-- An arm that is not refused passes each test, list by list, and one that passes each test is not refused; what that says of its counts, its parents and a
-- link that is asked for. Assumes nothing.
use Prim.Native.Nat.{ℕ, ◌≤◌, ◌<◌}
use mathlib.Core.Path.{◌≡◌, refl}
use mathlib.Core.Bool.{Bool, true}
use mathlib.Core.Logic.{inl, inr}
use mathlib.Core.List.{[], ◌∷◌}
use native.Mathlib.Omega.{arith}
use borrow.Author.Tests.{leb-true, ltb-true}
use Rattle.lists.specs.Tests.{every}
use Rattle.lists.proofs.Bools.{both_hold, both}
use Rattle.limits.specs.Limits.{link_limit, coupling_limit}
use Rattle.refusal.specs.Refusal.{unless_of, lower_of, lowest}
use Rattle.refusal.proofs.Laws.{holds_in}
use Rattle.arm.specs.declared.Arm.{Arm}
use Rattle.arm.specs.Arm.{live_links, is_link, links_of, couplings_of}
use Rattle.arm.specs.HandedIn.{counts_fit, tags_unique, parents_earlier, couplings_links_fit, link_numbers_fit, link_masks_fit, root_fits, coupling_axes_fit, masks_and_axes_fit, link_finite, coupling_finite, rows_finite, floats_finite, angles_fit, arm_rules, arm_refusal}

pub record Accepted (a : Arm) : Type 0 where
  pub counts : counts_fit a ≡ true
  pub tags : tags_unique a ≡ true
  pub parents : parents_earlier a ≡ true
  pub coupled : couplings_links_fit a ≡ true
  pub masks : every link_masks_fit (links_of a) ≡ true
  pub root : root_fits a ≡ true
  pub axes : every coupling_axes_fit (couplings_of a) ≡ true
  pub links : every link_finite (links_of a) ≡ true
  pub couplings : every coupling_finite (couplings_of a) ≡ true
  pub rows : rows_finite a ≡ true
  pub angles : angles_fit a ≡ true

pub accepted : (a : Arm) → arm_refusal a ≡ 0 → Accepted a
unfolding arm_refusal arm_rules
accepted a e =
    let ks = arm_rules a in
    let numbers = both_hold _ _ (holds_in ks e (link_numbers_fit a) 3 (inr (inr (inl refl)))) in
    let masks = both_hold _ _ (holds_in ks e (masks_and_axes_fit a) 4 (inr (inr (inr (inl refl))))) in
    let of-links = both_hold _ _ masks.0 in
    let floats = both_hold _ _ (holds_in ks e (floats_finite a) 6 (inr (inr (inr (inr (inl refl)))))) in
    let of-lists = both_hold _ _ floats.0 in
    record {
      counts = holds_in ks e (counts_fit a) 1 (inl refl);
      tags = holds_in ks e (tags_unique a) 2 (inr (inl refl));
      parents = numbers.0;
      coupled = numbers.1;
      masks = of-links.0;
      root = of-links.1;
      axes = masks.1;
      links = of-lists.0;
      couplings = of-lists.1;
      rows = floats.1;
      angles = holds_in ks e (angles_fit a) 8 (inr (inr (inr (inr (inr (inl refl))))));
    }

none : (p q r s u v : Bool) → p ≡ true → q ≡ true → r ≡ true → s ≡ true → u ≡ true → v ≡ true
    → lowest (unless_of p 2 ∷ unless_of q 3 ∷ unless_of r 4 ∷ unless_of s 5 ∷ unless_of u 7 ∷ unless_of v 9 ∷ []) ≡ 0
unfolding lower_of
none p q r s u v ep eq er es eu ev = rw (ep, eq, er, es, eu, ev)

pub not-refused : (a : Arm) → Accepted a → arm_refusal a ≡ 0
unfolding arm_refusal arm_rules
not-refused a k =
    none (counts_fit a) (tags_unique a) (link_numbers_fit a) (masks_and_axes_fit a) (floats_finite a) (angles_fit a) k.counts k.tags
    (both k.parents k.coupled) (both (both k.masks k.root) k.axes) (both (both k.links k.couplings) k.rows) k.angles

-- an accepted arm's counts fit
pub counts_accepted : (a : Arm) → arm_refusal a ≡ 0 → (a.link_count ≤ link_limit) × (a.coupling_count ≤ coupling_limit)
counts_accepted a e = let fit = both_hold _ _ (accepted a e).counts in (leb-true _ _ fit.0, leb-true _ _ fit.1)

-- a link that is asked for is there, and so is its place in the array
pub record Link-there (a : Arm) (link : ℕ) : Type 0 where
  pub below : link < a.link_count
  pub room : a.link_count ≤ link_limit

pub live : (a : Arm) (link : ℕ) → Link-there a link → link < live_links a
live a link t = omega (arith, t.below, t.room)

pub there : (a : Arm) (link : ℕ) → is_link a link ≡ true → arm_refusal a ≡ 0 → Link-there a link
there a link h e = record { below = ltb-true link a.link_count h; room = (counts_accepted a e).0 }
