-- What the two rows refuse before they are worked out: the lowest of one list, a row's own tests and what refuses the arm handed in.
use Rattle.std.specs.Prelude.{ℕ, ◌*◌, Bool, not, ◌&&◌, List, [], ◌∷◌, leb, length, take, get_or, Float}
use Rattle.std.specs.Float.Ieee.{lt}
use Rattle.refusal.specs.Refusal.{unless_of, lowest}
use Rattle.floats.specs.Floats.{zero32, times, all_finite, entry_of}
use Rattle.masks.specs.Masks.{is_axis, is_free}
use Rattle.arm.specs.declared.Arm.{Arm}
use Rattle.arm.specs.declared.RowName.{RowName}
use Rattle.arm.specs.declared.RowName.TheVariants.{Frictions}
use Rattle.arm.specs.Arm.{is_link, mask_at, dof_count_of, row_number, rows_of}
use Rattle.arm.specs.Edits.{dof_at}
use Rattle.arm.specs.HandedIn.{arm_entries}
use Rattle.unit_multibody_joint.specs.declared.Limits.{Limits}

-- ---- what is needed: n by n floats of the mass matrix and n of each memory, n being the DoF count

abbrev pub memory_fits : ℕ → List Float → ℕ → ℕ → Bool
memory_fits n mass j wj = leb (n * n) (length mass) && leb n j && leb n wj

abbrev pub mass_finite : ℕ → List Float → Bool
mass_finite n mass = all_finite (take (n * n) mass)

-- ---- both rows: `fine` where the floats given are finite, `ordered` where their bounds are no reversed pair; j and wj are the memories' lengths

abbrev pub row_entries : Arm → ℕ → ℕ → Bool → Bool → List Float → ℕ → ℕ → List ℕ
row_entries a link axis fine ordered mass j wj =
    unless_of (memory_fits (dof_count_of a) mass j wj) 1
    ∷ unless_of (is_link a link) 4
    ∷ unless_of (is_axis axis) 5
    ∷ unless_of (is_free (mask_at a link) axis) 6
    ∷ unless_of (fine && mass_finite (dof_count_of a) mass) 7
    ∷ unless_of ordered 10
    ∷ arm_entries a

unfoldable pub row_refusal : Arm → ℕ → ℕ → Bool → Bool → List Float → ℕ → ℕ → ℕ
row_refusal a link axis fine ordered mass j wj = lowest (row_entries a link axis fine ordered mass j wj)

-- ---- the limit row; 10: min above max

abbrev pub limits_finite : Limits → Bool
limits_finite g = all_finite (g.position ∷ g.min ∷ g.max ∷ g.dt ∷ g.erp_inv_dt ∷ g.cfm_coeff ∷ [])

abbrev pub limits_ordered : Limits → Bool
limits_ordered g = not (lt g.max g.min)

-- ---- the friction row; 10: friction·dt below zero

-- a row's entries, up to the DoF count
abbrev pub row_up_to : Arm → RowName → List Float
row_up_to a name = get_or (rows_of a) (row_number name) []

-- the arm's row entry at the DoF; +0 where the arm has no such DoF
unfoldable pub friction_at : Arm → ℕ → ℕ → Float
friction_at a link axis = entry_of (row_up_to a Frictions) (dof_at a link axis)

abbrev pub friction_ordered : Arm → ℕ → ℕ → Float → Bool
friction_ordered a link axis dt = not (lt (times (friction_at a link axis) dt) zero32)
