-- Theorems about `fill_jacobians`: its refusal is the lowest of its list, arms that agree up to their counts get the same, and an arm of no DoF gets zero sums.
-- Assumes nothing.
use Prim.Native.Nat.{ℕ}
use mathlib.Core.Path.{◌≡◌, refl}
use mathlib.Core.List.{List}
use lib.Ieee.{Float, of_bits}
use Rattle.std.specs.Float.{float_is_finite}
use Rattle.refusal.specs.Refusal.{Lowest}
use Rattle.refusal.proofs.Laws.{is_lowest}
use Rattle.elimination.specs.Elimination.{columns}
use Rattle.solve.specs.Solve.{permuted, forward, backward, substituted, solution}
use Rattle.arm.specs.declared.Arm.{Arm}
use Rattle.arm.specs.declared.RowName.TheVariants.{Velocities}
use Rattle.arm.specs.Agree.{Agree}
use Rattle.arm.proofs.Agree.{same_dofs, same_arm_refusal}
use Rattle.unit_multibody_joint.specs.Outcome.{out, or_then, answered, solved_answer}
use Rattle.unit_multibody_joint.proofs.Theorems.{same_row}
use Rattle.fill_jacobians.specs.declared.Force.{Force}
use Rattle.fill_jacobians.specs.Sums.{force_row, sums_of, refused_sums, sums_answer}
use Rattle.floats.specs.Floats.{dot}
use Rattle.fill_jacobians.specs.Fill.{fill_entries, fill_refusal, fill_answer}

pub fill_lowest : (a : Arm) (link : ℕ) (f : Force) (tables mass : List Float) (j wj : ℕ) → Lowest (fill_entries a link f tables mass j wj) (fill_refusal a link f tables mass j wj)
unfolding fill_refusal
fill_lowest a link f tables mass j wj = is_lowest (fill_entries a link f tables mass j wj)

pub fill_same : (a b : Arm) → Agree a b → (link : ℕ) (f : Force) (tables mass j wj : List Float) → fill_answer a link f tables mass j wj ≡ fill_answer b link f tables mass j wj
unfolding fill_answer fill_refusal
fill_same a b g link f tables mass j wj = rw (same_row a b g Velocities, same_arm_refusal a b g, same_dofs a b g, g.link_count)

-- with n = 0 nothing is written, and both sums are +0
pub fill_nothing : (f : Force) (block velocities mass j wj : List Float) → sums_answer (force_row f block 0) velocities 0 0 mass j wj ≡ out (refused_sums 0) j wj
unfolding sums_answer solved_answer or_then answered force_row dot sums_of of_bits float_is_finite solution substituted columns permuted forward backward
fill_nothing f block velocities mass j wj = refl
