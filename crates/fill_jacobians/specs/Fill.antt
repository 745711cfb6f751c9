-- `fill_jacobians` of a link, refused or not: the lowest of one list, its own tests and what refuses the arm handed in.
use Rattle.std.specs.Prelude.{ℕ, Bool, ◌&&◌, List, [], ◌∷◌, leb, length, Float}
use Rattle.limits.specs.Limits.{table_size}
use Rattle.refusal.specs.Refusal.{unless_of, lowest}
use Rattle.floats.specs.Floats.{all_finite}
use Rattle.arm.specs.declared.Arm.{Arm}
use Rattle.arm.specs.declared.RowName.TheVariants.{Velocities}
use Rattle.arm.specs.Arm.{is_link, dof_count_of}
use Rattle.arm.specs.HandedIn.{arm_entries}
use Rattle.kinematics.specs.Blocks.{block_at}
use Rattle.unit_multibody_joint.specs.Outcome.{Outcome}
use Rattle.unit_multibody_joint.specs.Refusals.{memory_fits, mass_finite, row_up_to}
use Rattle.fill_jacobians.specs.declared.Force.{Force}
use Rattle.fill_jacobians.specs.declared.Sums.{Sums}
use Rattle.fill_jacobians.specs.Sums.{force_row, sums_answer}

abbrev pub force_finite : Force → Bool
force_finite f = all_finite (f.x ∷ f.y ∷ f.torque ∷ [])

-- of the tables the asked link's whole block is read; j and wj are the memories' lengths
abbrev pub fill_entries : Arm → ℕ → Force → List Float → List Float → ℕ → ℕ → List ℕ
fill_entries a link f tables mass j wj =
    unless_of (leb table_size (length tables) && memory_fits (dof_count_of a) mass j wj) 1
    ∷ unless_of (is_link a link) 4
    ∷ unless_of (force_finite f && all_finite (block_at link tables) && mass_finite (dof_count_of a) mass) 7
    ∷ arm_entries a

unfoldable pub fill_refusal : Arm → ℕ → Force → List Float → List Float → ℕ → ℕ → ℕ
fill_refusal a link f tables mass j wj = lowest (fill_entries a link f tables mass j wj)

unfoldable pub fill_answer : Arm → ℕ → Force → List Float → List Float → List Float → List Float → Outcome Sums
fill_answer a link f tables mass j wj =
    let n = dof_count_of a in
    sums_answer (force_row f (block_at link tables) n) (row_up_to a Velocities) (fill_refusal a link f tables mass (length j) (length wj)) n mass j wj
