-- What is tested of a new link, as the code does; and what an addition that is not refused knows. Assumes nothing.
use Prim.Native.Nat.{ℕ, zero, suc, ◌≤◌, ◌<◌}
use mathlib.Core.Path.{◌≡◌, refl, sym}
use mathlib.Core.Bool.{true, not, ◌&&◌, ◌||◌, and-true}
use mathlib.Core.List.{List}
use native.Mathlib.Omega.{arith}
use borrow.Author.Tests.{leb-true, ltb-true, eqb-true, ne_eqb}
use lib.Dec.{eqb, ltb}
use lib.Ieee.{Float}
use Rattle.addition.specs.Inner.{Small, tag_differs}
use Rattle.lists.specs.Tests.{every}
use Rattle.lists.proofs.Every.{every_map}
use Rattle.lists.proofs.Bools.{both_hold}
use Rattle.limits.specs.Limits.{link_limit}
use Rattle.refusal.proofs.Tests.{holds}
use Rattle.refusal.proofs.Laws.{none_of}
use Rattle.topology.specs.Parents.{parent_fits}
use Rattle.arm.specs.declared.Arm.{Arm}
use Rattle.arm.specs.Arm.{links_of, tag_of, tags_of}
use Rattle.arm.specs.HandedIn.{differs, is_new, arm_refusal}
use Rattle.full_working.specs.Outcome.{tables_fit}
use Rattle.one_link.specs.Above.{above_finite}
use Rattle.addition.specs.declared.NewLink.{NewLink}
use Rattle.addition.specs.Addition.{each_mask, masks_fit, floats_finite, add_refusal}

-- ---- the tag

pub tag_differs_every : (a : Arm) (tag : ℕ) → every (tag_differs tag) (links_of a) ≡ is_new tag (tags_of a)
unfolding tags_of
tag_differs_every a tag = sym (every_map (differs tag) tag_of (links_of a))

-- ---- the masks

module _ (link : ℕ) (new : NewLink) where
  pub tested_masks : (each_mask new && ((not (eqb link 0) || eqb new.locked 7) || eqb new.locked 0)) ≡ masks_fit link new
  unfolding masks_fit
  tested_masks = go link
    where
      go : (n : ℕ) → (each_mask new && ((not (eqb n 0) || eqb new.locked 7) || eqb new.locked 0)) ≡ masks_fit n new
      go zero = refl
      go (suc n) = rw (ne_eqb (suc n) 0 (omega arith)) (and-true (each_mask new))

  pub are_masks : masks_fit link new ≡ true → each_mask new ≡ true
  unfolding masks_fit
  are_masks h = go link h
    where
      go : (n : ℕ) → masks_fit n new ≡ true → each_mask new ≡ true
      go zero g = (both_hold _ _ g).0
      go (suc n) g = g

-- ---- not refused

pub parent_le : (n p : ℕ) → parent_fits n p ≡ true → p ≤ n
unfolding parent_fits
parent_le zero p e = let q = eqb-true p 0 e in omega arith
parent_le (suc n) p e = let q = ltb-true p (suc n) e in omega arith

-- what an addition that is not refused passed
pub record Passed (a : Arm) (t : List Float) (new : NewLink) : Type 0 where
  pub fits : tables_fit t ≡ true
  pub room : a.link_count < link_limit
  pub tag : is_new new.tag (tags_of a) ≡ true
  pub parent : parent_fits a.link_count new.parent ≡ true
  pub masks : masks_fit a.link_count new ≡ true
  pub floats : floats_finite new ≡ true
  pub arm : arm_refusal a ≡ 0

module _ (a : Arm) (t : List Float) (new : NewLink) where
  pub passed : add_refusal a t new ≡ 0 → Passed a t new
  unfolding add_refusal
  passed e =
      let n = a.link_count in
      let p₁ = none_of _ _ e in
      let p₂ = none_of _ _ p₁.1 in
      let p₃ = none_of _ _ p₂.1 in
      let p₄ = none_of _ _ p₃.1 in
      let p₅ = none_of _ _ p₄.1 in
      let p₇ = none_of _ _ p₅.1 in
      let p₈ = none_of _ _ p₇.1 in
      record {
        fits = holds (tables_fit t) 0 p₁.0;
        room = ltb-true n link_limit (holds (ltb n link_limit) 1 p₂.0);
        tag = holds (is_new new.tag (tags_of a)) 2 p₃.0;
        parent = holds (parent_fits n new.parent) 3 p₄.0;
        masks = holds (masks_fit n new) 4 p₅.0;
        floats = (both_hold _ _ (holds (floats_finite new && above_finite n new.parent t) 6 p₇.0)).0;
        arm = p₈.1;
      }

  pub small : Passed a t new → Small new
  small p =
      let m = both_hold _ _ (are_masks a.link_count new p.masks) in
      let k = both_hold _ _ m.0 in
      record {
        parent = omega (arith, p.room, parent_le a.link_count new.parent p.parent);
        locked = leb-true new.locked 7 k.0;
        limit = leb-true new.limit 7 k.1;
        motor = leb-true new.motor 7 m.1;
      }
