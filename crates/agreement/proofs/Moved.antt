-- A change of one link, of arms that agree: arms that agree; parents and masks stay. Assumes nothing.
use Prim.Native.Nat.{ℕ}
use mathlib.Core.Path.{◌≡◌, refl, sym, ap, ◌∙◌}
use mathlib.Core.List.{map}
use lib.ListN.{length}
use Rattle.lists.proofs.Modified.{length-modify, take-modify, map_modify_same}
use Rattle.arm.specs.Sized.{Sized}
use Rattle.lists.specs.Lists.{modify}
use Rattle.limits.specs.Limits.{link_limit}
use Rattle.arm.specs.declared.Arm.{Arm}
use Rattle.arm.specs.Arm.{live_links, links_of, parent_of, locked_of, parents_of, masks_of}
use Rattle.arm.specs.HandedIn.{arm_refusal}
use Rattle.arm.specs.Agree.{Agree}
use Rattle.one_link_move.specs.declared.Change.{Change}
use Rattle.one_link_move.specs.Change.{changed, moved_inputs}
use Rattle.one_link_move.proofs.Changed.{same_parent, same_locked}
use Rattle.agreement.proofs.Worked.{agree_relinked, Workable, workable}

module _ (link : ℕ) (change : Change) where
  links_moved : (a : Arm) → links_of (moved_inputs a link change) ≡ modify (changed change) link (links_of a)
  unfolding moved_inputs links_of
  links_moved a = take-modify (changed change) (live_links a) a.links link

  parents_moved : (a : Arm) → parents_of (moved_inputs a link change) ≡ parents_of a
  unfolding parents_of
  parents_moved a = ap (map parent_of) (links_moved a) ∙ map_modify_same (changed change) parent_of (same_parent change) (links_of a) link

  masks_moved : (a : Arm) → masks_of (moved_inputs a link change) ≡ masks_of a
  unfolding masks_of
  masks_moved a = ap (map locked_of) (links_moved a) ∙ map_modify_same (changed change) locked_of (same_locked change) (links_of a) link

  places_moved : (a : Arm) → length a.links ≡ link_limit → length (moved_inputs a link change).links ≡ link_limit
  unfolding moved_inputs
  places_moved a whole = length-modify (changed change) link a.links ∙ whole

  agree_moved : (a b : Arm) → Agree a b → Agree (moved_inputs a link change) (moved_inputs b link change)
  unfolding moved_inputs
  agree_moved a b g =
      agree_relinked a b _ _ g (masks_moved a) (links_moved a ∙ ap (modify (changed change) link) g.links ∙ sym (links_moved b))

  pub workable_moved : (a b : Arm) → Sized a → Sized b → Agree a b → arm_refusal a ≡ 0 → Workable (moved_inputs a link change) (moved_inputs b link change)
  unfolding moved_inputs
  workable_moved a b s r g ok = workable a _ _ ok refl (parents_moved a) (agree_moved a b g) (places_moved a s.links) (places_moved b r.links)
