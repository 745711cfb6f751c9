-- A part that is handed out is settled over its tables, and its rows hold what its DoFs ask for. Assumes nothing.
use Prim.Native.Nat.{ℕ, zero, suc, ◌+◌, ◌≤◌, ◌<◌}
use mathlib.Core.Path.{◌≡◌, refl, sym, ap, ap₂, ◌∙◌}
use mathlib.Core.Bool.{Bool, true, false, cond, not, ◌&&◌}
use mathlib.Core.List.{List, [], ◌∷◌, map}
use native.Mathlib.Omega.{arith}
use lib.ListN.{length, drop, length-append, length-drop}
use lib.Seq.{length-take-le}
use lib.Ieee.{Float}
use Rattle.arm.specs.Empty.{empty_arm}
use Rattle.arm.specs.Sized.{Sized}
use Rattle.lists.proofs.Gathered.{length-laid}
use Rattle.lists.specs.Numbers.{gathered, chosen}
use Rattle.limits.specs.Limits.{link_limit, dof_limit}
use Rattle.masks.specs.Masks.{dofs_of}
use Rattle.masks.specs.Starts.{total_of, start_of}
use Rattle.masks.proofs.Totals.{start_in, total_join}
use Rattle.masks.proofs.Laws.{fixed_dofs}
use Rattle.multibody_joint.specs.Joint.{fixed_joint, new_joint}
use Rattle.arm.specs.declared.Link.{Link}
use Rattle.arm.specs.declared.Arm.{Arm}
use Rattle.arm.specs.Arm.{live_links, locked_of, masks_of, mask_at, start_at, dof_count_of, link_at, no_link, own_part}
use Rattle.arm.proofs.Live.{mask_there, masks_live, dof_count_le}
use Rattle.full_working.proofs.Again.{call_settles}
use Rattle.part_arm.specs.Places.{Places, places_of, goes_on}
use Rattle.part_arm.specs.Part.{new_link, part_links, part_entries, part_arm}
use Rattle.arm_split.specs.Answers.{part_refusal, arm_part}
use Rattle.arm_split.specs.Words.{PartSettles, PartDofs, PartRows}
use Rattle.arm_split.proofs.Refused.{part_accepted}
use Rattle.arm_split.proofs.Picked.{map-chosen}
use Rattle.arm_split.proofs.Passing.{passing, links_few, part_links_lem}

-- ---- settled

blank_links : length empty_arm.links ≡ link_limit
unfolding empty_arm
blank_links = refl

part_sized : (p : Places) (a : Arm) → length (part_arm p a).links ≡ link_limit
unfolding part_arm
part_sized p a = length-laid (part_links p a) empty_arm.links (omega (arith, links_few p a, blank_links)) ∙ blank_links

pub settles : PartSettles
unfolding arm_part
settles a s k t sized r =
    (call_settles empty_arm (part_arm (places_of a s k) a) (part_sized (places_of a s k) a) t (part_refusal a s k t)
    (λ z. passing a s k sized (part_accepted a sized.links s k t z).0.arm) r).1

-- ---- degrees of freedom

-- one link's DoFs in the part: a head's are none
new_dofs : (here head : Bool) (parent : ℕ) (l : Link) → total_of (cond here (locked_of (new_link head parent l) ∷ []) []) ≡ total_of (cond (here && not head) (locked_of l ∷ []) [])
unfolding total_of new_link fixed_joint new_joint
new_dofs true true parent l = omega (arith, fixed_dofs)
new_dofs true false parent l = refl
new_dofs false head parent l = refl

module _ (p : Places) (a : Arm) (sized : Sized a) where
  going : ℕ → List ℕ
  going m = chosen m (goes_on p) (mask_at a)

  old_mask : (j : ℕ) → j < live_links a → locked_of (link_at a.links j) ≡ mask_at a j
  old_mask j h = mask_there a sized.links j no_link h

  abbrev new_mask : ℕ → ℕ
  new_mask j = locked_of (new_link (p.head j) (p.number (link_at a.links j).parent) (link_at a.links j))

  link_dofs_lem : (m : ℕ) → m ≤ live_links a → total_of (chosen m p.here new_mask) ≡ total_of (going m)
  unfolding gathered going
  link_dofs_lem zero h = refl
  link_dofs_lem (suc m) h =
      let mine = total_join (chosen m p.here new_mask) (cond (p.here m) (new_mask m ∷ []) []) in
      let theirs = total_join (going m) (cond (goes_on p m) (mask_at a m ∷ []) []) in
      let before = link_dofs_lem m (omega arith) in
      let one : total_of (cond (p.here m) (new_mask m ∷ []) []) ≡ total_of (cond (goes_on p m) (mask_at a m ∷ []) []) =
      new_dofs (p.here m) (p.head m) (p.number (link_at a.links m).parent) (link_at a.links m) ∙ ap (λ (x : ℕ). total_of (cond (goes_on p m) (x ∷ []) [])) (old_mask m (omega arith)) in
      mine ∙ ap₂ ◌+◌ before one ∙ sym theirs

  part_dofs : dof_count_of (part_arm p a) ≡ total_of (going (live_links a))
  unfolding dof_count_of masks_of part_links
  part_dofs =
      ap (λ (l : List Link). total_of (map locked_of l)) (part_links_lem p a)
      ∙ ap total_of (map-chosen p.here (λ j. new_link (p.head j) (p.number (link_at a.links j).parent) (link_at a.links j)) locked_of (live_links a))
      ∙ link_dofs_lem (live_links a) (omega arith)

  module _ (entries : List Float) (long : length entries ≡ dof_limit) where
    own_length : (j : ℕ) → j < live_links a → length (own_part a j entries) ≡ dofs_of (mask_at a j)
    unfolding own_part start_at mask_at dof_count_of
    own_length j h =
        let m = masks_of a in
        let fits = start_in m j 7 (omega (arith, masks_live a sized.links)) in
        length-take-le _ (drop (start_of m j) entries) (rw length-drop (omega (arith, dof_count_le a)))

    entries_length : (m : ℕ) → m ≤ live_links a → length (gathered m (λ j. cond (goes_on p j) (own_part a j entries) [])) ≡ total_of (going m)
    unfolding gathered going total_of
    entries_length zero h = refl
    entries_length (suc m) h =
        length-append (gathered m (λ j. cond (goes_on p j) (own_part a j entries) [])) _
        ∙ omega (arith, entries_length m (omega arith), total_join (going m) (cond (goes_on p m) (mask_at a m ∷ []) []), one (goes_on p m) (own_length m (omega arith)))
      where
        one : (b : Bool) → length (own_part a m entries) ≡ dofs_of (mask_at a m) → length (cond b (own_part a m entries) []) ≡ total_of (cond b (mask_at a m ∷ []) [])
        one true e = omega arith
        one false e = refl

    part_rows : length (part_entries p a entries) ≡ dof_count_of (part_arm p a)
    unfolding part_entries
    part_rows = entries_length (live_links a) (omega arith) ∙ sym part_dofs

pub dofs : PartDofs
unfolding going
dofs a s k sized = part_dofs (places_of a s k) a sized

pub rows : PartRows
rows a s k sized entries long = part_rows (places_of a s k) a sized entries long
