-- Arms that agree up to their counts have the same masks, starts, DoF count and refusals: each is worked out from what they agree on.
-- Assumes nothing.
use Prim.Native.Nat.{ℕ, zero, suc}
use mathlib.Core.Path.{◌≡◌, refl, ap}
use mathlib.Core.List.{List, map}
use lib.ListN.{get_or}
use Rattle.refusal.specs.Refusal.{lowest}
use Rattle.masks.specs.Starts.{total_of, start_of}
use Rattle.arm.specs.declared.Arm.{Arm}
use Rattle.arm.specs.Arm.{locked_of, parent_of, tag_of, masks_of, mask_at, start_at, dof_count_of, tags_of, parents_of}
use Rattle.arm.specs.Edits.{edited, dof_at}
use Rattle.arm.specs.HandedIn.{tags_unique, parents_earlier, root_fits, rows_finite, arm_rules, arm_refusal}
use Rattle.arm.specs.Agree.{Agree, AlikeEdited}

module _ (a b : Arm) (g : Agree a b) where
  pub same_masks : masks_of a ≡ masks_of b
  unfolding masks_of
  same_masks = ap (map locked_of) g.links

  pub same_parents : parents_of a ≡ parents_of b
  unfolding parents_of
  same_parents = ap (map parent_of) g.links

  same_tags : tags_of a ≡ tags_of b
  unfolding tags_of
  same_tags = ap (map tag_of) g.links

  pub same_mask_at : (link : ℕ) → mask_at a link ≡ mask_at b link
  unfolding mask_at
  same_mask_at link = ap (λ (ms : List ℕ). get_or ms link 7) same_masks

  pub same_start : (link : ℕ) → start_at a link ≡ start_at b link
  unfolding start_at
  same_start link = ap (λ (ms : List ℕ). start_of ms link) same_masks

  pub same_dofs : dof_count_of a ≡ dof_count_of b
  unfolding dof_count_of
  same_dofs = ap total_of same_masks

  pub same_dof_at : (link axis : ℕ) → dof_at a link axis ≡ dof_at b link axis
  unfolding dof_at
  same_dof_at link axis = rw (same_start link, same_mask_at link)

  -- the arm's own tests
  pub same_entries : arm_rules a ≡ arm_rules b
  unfolding arm_rules tags_unique parents_earlier root_fits rows_finite
  same_entries = cc (same_masks, same_parents, same_tags)

  pub same_arm_refusal : arm_refusal a ≡ arm_refusal b
  unfolding arm_refusal
  same_arm_refusal = ap lowest same_entries

-- edits of arms that agree: refused alike, or both made
pub alike : (a b x y : Arm) (k n : ℕ) → Agree a b → k ≡ n → (k ≡ 0 → Agree x y) → AlikeEdited (edited k a x) (edited n b y)
unfolding edited
alike a b x y k n g e made = rw (← e) (by_number k made)
  where
    by_number : (k : ℕ) → (k ≡ 0 → Agree x y) → AlikeEdited (edited k a x) (edited k b y)
    by_number zero made = record { refusal = refl; arm = made refl }
    by_number (suc k) made = record { refusal = refl; arm = g }
