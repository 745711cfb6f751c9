-- What an accepted call knows: the link and its block are there, the memories and the mass matrix fit. And what is then filled is the answer.
use Prim.Native.Nat.{ℕ, suc, ◌*◌, ◌≤◌, ◌<◌}
use mathlib.Core.Path.{◌≡◌, refl}
use mathlib.Core.Bool.{Bool, true, ◌&&◌}
use mathlib.Core.Logic.{inl, inr}
use mathlib.Core.List.{List}
use native.Mathlib.Omega.{arith}
use borrow.Author.Tests.{leb-true}
use lib.Dec.{leb}
use lib.ListN.{length, take}
use lib.Ieee.{Float}
use Rattle.lists.proofs.Bools.{both_hold}
use Rattle.limits.specs.Limits.{link_limit, dof_limit, table_size}
use Rattle.refusal.specs.Refusal.{unless_of, In}
use Rattle.refusal.proofs.Laws.{is_lowest, holds_in}
use Rattle.arm.specs.declared.Arm.{Arm}
use Rattle.arm.specs.Arm.{is_link, dof_count_of, row_in}
use Rattle.arm.specs.declared.RowName.TheVariants.{Velocities}
use Rattle.arm.specs.HandedIn.{arm_refusal}
use Rattle.arm.proofs.Accepted.{Link-there, there}
use Rattle.arm.proofs.Live.{dof_count_le}
use Rattle.kinematics.specs.Blocks.{block_at}
use Rattle.unit_multibody_joint.specs.Refusals.{memory_fits}
use Rattle.unit_multibody_joint.proofs.Accepted.{fits}
use Rattle.fill_jacobians.specs.declared.Force.{Force}
use Rattle.fill_jacobians.specs.Fill.{fill_entries, fill_refusal, fill_answer}
use Rattle.fill_jacobians.specs.Sums.{force_row, sums_answer}
use Rattle.unit_multibody_joint.proofs.Rows.{row-front}

module _ (a : Arm) (link : ℕ) (f : Force) (tables mass : List Float) (j wj : ℕ) (e : fill_refusal a link f tables mass j wj ≡ 0) where
  passes : (b : Bool) (k : ℕ) → In (unless_of b (suc k)) (fill_entries a link f tables mass j wj) → b ≡ true
  unfolding fill_refusal
  passes = holds_in (fill_entries a link f tables mass j wj) e

  abbrev n : ℕ
  n = dof_count_of a

  both_fit : (leb table_size (length tables) ≡ true) × (memory_fits n mass j wj ≡ true)
  both_fit = both_hold _ _ (passes (leb table_size (length tables) && memory_fits n mass j wj) 0 (inl refl))

  link_there : Link-there a link
  unfolding fill_refusal
  link_there =
      let armed = (is_lowest (fill_entries a link f tables mass j wj)).none e (arm_refusal a) (inr (inr (inr (inl refl)))) in
      there a link (passes (is_link a link) 3 (inr (inl refl))) armed

  pub fill_ready : (n ≤ dof_limit) × (n * n ≤ length mass) × (n ≤ j) × (n ≤ wj) × (link < link_limit) × (table_size ≤ length tables)
  fill_ready =
      let q = fits n mass j wj both_fit.1 in
      let l = link_there in
      (dof_count_le a, q.matrix, q.j_room, q.wj_room, omega (arith, l.below, l.room), leb-true table_size (length tables) both_fit.0)

-- what is filled of an accepted call is its answer; m is the DoF count
pub fill_is : (a : Arm) (link : ℕ) (f : Force) (tables mass j wj : List Float) → fill_refusal a link f tables mass (length j) (length wj) ≡ 0
    → (m : ℕ) (block velocities : List Float) → m ≡ dof_count_of a → block ≡ block_at link tables → velocities ≡ row_in a Velocities
    → sums_answer (force_row f block m) (take m velocities) 0 m mass j wj ≡ fill_answer a link f tables mass j wj
unfolding fill_answer
fill_is a link f tables mass j wj e m block velocities em eb ev = rw (row-front a Velocities m velocities em ev, em, eb, e)
