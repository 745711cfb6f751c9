-- Theorems about what is read of an arm: each refusal is the lowest of its list, a view is exactly the link's entries, and arms that agree up to
-- their counts get the same answers. Assumes nothing.
use Prim.Native.Nat.{ℕ, zero, suc, ◌+◌, ◌≤◌, ◌<◌}
use mathlib.Core.Path.{◌≡◌, refl, ◌∙◌}
use mathlib.Core.List.{List}
use native.Mathlib.Omega.{arith}
use lib.ListN.{length, take, drop, get_or, length-take, length-drop}
use lib.Seq.{get_or-take, get_or-drop}
use lib.Ieee.{Float, nan}
use Rattle.arm.specs.Sized.{Sized}
use Rattle.refusal.specs.Refusal.{Lowest}
use Rattle.refusal.proofs.Laws.{is_lowest}
use Rattle.masks.specs.Masks.{dofs_below, dofs_of}
use Rattle.masks.proofs.Laws.{below_free}
use Rattle.arm.specs.declared.Arm.{Arm}
use Rattle.arm.specs.Arm.{mask_at, start_at, own_part}
use Rattle.arm.specs.Edits.{dof_at}
use Rattle.arm.specs.Agree.{Agree}
use Rattle.arm.proofs.Agree.{same_parents, same_mask_at, same_start, same_dofs, same_arm_refusal}
use Rattle.arm_views.specs.declared.Role.{Role}
use Rattle.arm_views.specs.declared.Role.TheVariants.{Velocities, Accelerations}
use Rattle.arm_views.specs.Numbers.{start_entries, start_refusal, start_answer, dofs_answer}
use Rattle.arm_views.specs.Links.{spring_entries, spring_refusal, spring_answer, mul_entries, mul_refusal, mul_answer}
use Rattle.arm_views.specs.Branch.{branch_needed, branch_entries, branch_refusal, arm_branch}
use Rattle.arm_views.specs.View.{row_of, view_entries, view_refusal, view_by, view_answer}
use Rattle.arm_views.specs.Words.{OwnEntries}
use Rattle.arm_views.proofs.Views.{Within, view_within}

-- ---- each refusal is the lowest of its list

pub spring_lowest : (a : Arm) (link axis : ℕ) → Lowest (spring_entries a link axis) (spring_refusal a link axis)
unfolding spring_refusal
spring_lowest a link axis = is_lowest (spring_entries a link axis)

pub mul-lowest : (a : Arm) (link : ℕ) (acc : List Float) → Lowest (mul_entries a link acc) (mul_refusal a link acc)
unfolding mul_refusal
mul-lowest a link acc = is_lowest (mul_entries a link acc)

pub start_lowest : (a : Arm) (link : ℕ) → Lowest (start_entries a link) (start_refusal a link)
unfolding start_refusal
start_lowest a link = is_lowest (start_entries a link)

pub branch_lowest : (a : Arm) (link room : ℕ) → Lowest (branch_entries a link room) (branch_refusal a link room)
unfolding branch_refusal
branch_lowest a link room = is_lowest (branch_entries a link room)

pub view_lowest : (a : Arm) (link v w : ℕ) → Lowest (view_entries a link v w) (view_refusal a link v w)
unfolding view_refusal
view_lowest a link v w = is_lowest (view_entries a link v w)

-- ---- an accepted view

own_entries : (a : Arm) (link : ℕ) (row : List Float) → start_at a link + dofs_of (mask_at a link) ≤ length row → OwnEntries a link row (own_part a link row)
unfolding own_part dof_at
own_entries a link row h = record {
  count = omega (arith, length-take (dofs_of (mask_at a link)) (drop (start_at a link) row), length-drop (start_at a link) row);
  each = entry;
  of_axis = λ axis f. entry (dofs_below (mask_at a link) axis) (below_free (mask_at a link) axis f);
}
  where
    entry : (k : ℕ) → k < dofs_of (mask_at a link)
        → get_or (take (dofs_of (mask_at a link)) (drop (start_at a link) row)) k nan ≡ get_or row (start_at a link + k) nan
    entry k l = get_or-take (dofs_of (mask_at a link)) (drop (start_at a link) row) k nan l ∙ get_or-drop (start_at a link) row k nan

shown : (k : ℕ) (part : List Float) → k ≡ 0 → (view_by k part).part ≡ part
unfolding view_by
shown zero part e = refl
shown (suc k) part e = absurd (omega arith)

in_asked : (a : Arm) (role : Role) (link : ℕ) (v w : List Float) → Within a link (length v) (length w)
    → start_at a link + dofs_of (mask_at a link) ≤ length (row_of role v w)
in_asked a Velocities link v w t = t.first
in_asked a Accelerations link v w t = t.second

-- the view is exactly the link's entries of the row that is asked for
pub view_own : (a : Arm) (role : Role) (link : ℕ) (v w : List Float) → Sized a → view_refusal a link (length v) (length w) ≡ 0
    → OwnEntries a link (row_of role v w) (view_answer a role link v w).part
unfolding view_answer
view_own a role link v w s z =
    let t = view_within a link (length v) (length w) z in
    rw (shown (view_refusal a link (length v) (length w)) (own_part a link (row_of role v w)) z)
    (own_entries a link (row_of role v w) (in_asked a role link v w t))

-- ---- arms that agree

module _ (a b : Arm) (g : Agree a b) where
  pub branch_same : (link : ℕ) (m : List ℕ) → arm_branch a link m ≡ arm_branch b link m
  unfolding arm_branch branch_refusal branch_needed
  branch_same link m = cc (same_arm_refusal a b g, same_parents a b g)

  pub view_same : (role : Role) (link : ℕ) (v w : List Float) → view_answer a role link v w ≡ view_answer b role link v w
  unfolding view_answer view_refusal own_part
  view_same role link v w = cc (same_arm_refusal a b g, same_mask_at a b g link, same_start a b g link, same_dofs a b g)

  pub spring_same : (link axis : ℕ) → spring_answer a link axis ≡ spring_answer b link axis
  unfolding spring_answer spring_refusal
  spring_same link axis = cc (same_arm_refusal a b g)

  pub mul-same : (link : ℕ) (accelerations : List Float) → mul_answer a link accelerations ≡ mul_answer b link accelerations
  unfolding mul_answer mul_refusal
  mul-same link accelerations = cc (same_arm_refusal a b g, same_mask_at a b g link)

  pub start_same : (link : ℕ) → start_answer a link ≡ start_answer b link
  unfolding start_answer start_refusal
  start_same link = rw (same_arm_refusal a b g, same_start a b g link, g.link_count)

  pub dofs_same : dofs_answer a ≡ dofs_answer b
  unfolding dofs_answer
  dofs_same = rw (same_arm_refusal a b g, same_dofs a b g)
