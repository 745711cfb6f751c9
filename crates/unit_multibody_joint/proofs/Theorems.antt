-- Theorems about the two rows: their refusal is the lowest of its list, and arms that agree up to their counts get the same row. Assumes nothing.
use Prim.Native.Nat.{ℕ}
use mathlib.Core.Path.{◌≡◌, ap, ◌∙◌}
use mathlib.Core.Bool.{Bool}
use mathlib.Core.List.{List, []}
use lib.ListN.{get_or}
use lib.Ieee.{Float}
use Rattle.refusal.specs.Refusal.{Lowest}
use Rattle.refusal.proofs.Laws.{is_lowest}
use Rattle.floats.specs.Floats.{entry_of}
use Rattle.arm.specs.declared.Arm.{Arm}
use Rattle.arm.specs.declared.RowName.{RowName}
use Rattle.arm.specs.declared.RowName.TheVariants.{Frictions}
use Rattle.arm.specs.Arm.{row_number}
use Rattle.arm.specs.Edits.{dof_at}
use Rattle.arm.specs.Agree.{Agree}
use Rattle.arm.proofs.Agree.{same_mask_at, same_dofs, same_dof_at, same_arm_refusal}
use Rattle.unit_multibody_joint.specs.declared.Limits.{Limits}
use Rattle.unit_multibody_joint.specs.declared.Bounds.{Bounds}
use Rattle.unit_multibody_joint.specs.Refusals.{row_entries, row_refusal, row_up_to, friction_at}
use Rattle.unit_multibody_joint.specs.Answers.{axis_answer, limit_answer, friction_answer}

pub row-lowest : (a : Arm) (link axis : ℕ) (fine ordered : Bool) (mass : List Float) (j wj : ℕ)
    → Lowest (row_entries a link axis fine ordered mass j wj) (row_refusal a link axis fine ordered mass j wj)
unfolding row_refusal
row-lowest a link axis fine ordered mass j wj = is_lowest (row_entries a link axis fine ordered mass j wj)

-- ---- arms that agree

module _ (a b : Arm) (g : Agree a b) where
  pub same_row : (name : RowName) → row_up_to a name ≡ row_up_to b name
  same_row name = ap (λ (rows : List (List Float)). get_or rows (row_number name) []) g.rows

  same_axis : (link axis : ℕ) (fine ordered : Bool) (l : Bounds) (cfm : Float) (mass j wj : List Float)
      → axis_answer a link axis fine ordered l cfm mass j wj ≡ axis_answer b link axis fine ordered l cfm mass j wj
  unfolding axis_answer row_refusal
  same_axis link axis fine ordered l cfm mass j wj = rw (same_dof_at a b g link axis, same_arm_refusal a b g, same_mask_at a b g link, same_dofs a b g, g.link_count)

  pub limit_same : (link axis : ℕ) (l : Limits) (mass j wj : List Float) → limit_answer a link axis l mass j wj ≡ limit_answer b link axis l mass j wj
  unfolding limit_answer
  limit_same link axis l mass j wj = same_axis link axis _ _ _ _ mass j wj

  same_friction : (link axis : ℕ) → friction_at a link axis ≡ friction_at b link axis
  unfolding friction_at
  same_friction link axis = ap (entry_of (row_up_to a Frictions)) (same_dof_at a b g link axis) ∙ ap (λ (row : List Float). entry_of row (dof_at b link axis)) (same_row Frictions)

  pub friction_same : (link axis : ℕ) (dt cfm : Float) (mass j wj : List Float) → friction_answer a link axis dt cfm mass j wj ≡ friction_answer b link axis dt cfm mass j wj
  unfolding friction_answer
  friction_same link axis dt cfm mass j wj = rw (same_friction link axis) (same_axis link axis _ _ _ _ mass j wj)
