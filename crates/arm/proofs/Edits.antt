-- Edits of an arm, refused or not; a free axis' entry lies within the row. Assumes nothing.
use Prim.Native.Nat.{ℕ, ◌<◌}
use mathlib.Core.Path.{◌≡◌}
use Rattle.std.proofs.Common.{Result, Ok, Err}
use Rattle.std.specs.Result.{IsErrAnd}
use mathlib.Core.Bool.{true}
use native.Mathlib.Omega.{arith}
use lib.ListN.{length}
use Rattle.limits.specs.Limits.{link_limit, dof_limit}
use Rattle.refusal.specs.declared.Refusal.{Refusal}
use Rattle.refusal.specs.Refusal.{code}
use Rattle.refusal.proofs.Answers.{passed, refused}
use Rattle.refusal.proofs.Number.{number-suc}
use Rattle.masks.specs.Masks.{is_free}
use Rattle.masks.proofs.Laws.{below_free}
use Rattle.arm.specs.declared.Arm.{Arm}
use Rattle.arm.specs.declared.RowName.{RowName}
use Rattle.arm.specs.declared.RowName.TheVariants.{Velocities, Damping, Armature, Frictions, Accelerations}
use Rattle.arm.specs.Arm.{live_links, mask_at, dof_count_of, row_number}
use Rattle.arm.specs.Edits.{edited, edited_as, dof_at}
use Rattle.arm.proofs.Live.{part_within, dof_count_le}

-- ---- the answer: what a `?` gives where t refuses, and the end where it passes

pub edited_passed : {A : Type 0} {t : Result A Refusal} {x : A} {k : ℕ} → t ≡ Ok x → code t ≡ k → (old new : Arm) → edited_as new (Ok tt) ≡ edited k old new
unfolding edited
edited_passed p e old new = rw (passed p e)

pub edited_exit : {A : Type 0} {t : Result A Refusal} {e : Refusal} {k : ℕ} → t ≡ Err e → code t ≡ k → (old new : Arm) (r : Result Unit Refusal)
    → IsErrAnd r (λ y. y ≡ e) → edited_as old r ≡ edited k old new
unfolding edited
edited_exit p h old new (Ok x) q = absurd q
edited_exit p h old new (Err y) q = rw (q, refused p h, number-suc _)

-- ---- rows

pub row-there : (name : RowName) → row_number name < 5
row-there Velocities = omega arith
row-there Damping = omega arith
row-there Armature = omega arith
row-there Frictions = omega arith
row-there Accelerations = omega arith

-- the entry of a free axis lies within the DoF count
pub dof_within : (a : Arm) (link axis : ℕ) → length a.links ≡ link_limit → link < live_links a → is_free (mask_at a link) axis ≡ true
    → dof_at a link axis < dof_count_of a
unfolding dof_at
dof_within a link axis w h free = omega (arith, part_within a w link h, below_free (mask_at a link) axis free)

pub dof_in_row : (a : Arm) (link axis : ℕ) → length a.links ≡ link_limit → link < live_links a → is_free (mask_at a link) axis ≡ true
    → dof_at a link axis < dof_limit
dof_in_row a link axis w h free = omega (arith, dof_within a link axis w h free, dof_count_le a)
