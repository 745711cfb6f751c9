-- What an accepted row knows: its memories and its mass matrix fit, and the DoF lies within the count. Assumes nothing.
use Prim.Native.Nat.{ℕ, ◌*◌, ◌≤◌, ◌<◌}
use mathlib.Core.Path.{◌≡◌, refl, ap, ◌∙◌}
use mathlib.Core.Bool.{Bool, true, ◌&&◌}
use mathlib.Core.Logic.{inl, inr}
use mathlib.Core.List.{List}
use borrow.Author.Tests.{leb-true}
use lib.Dec.{leb}
use lib.ListN.{length, take, set, replicate, get_or, get_or-eq_default}
use native.Mathlib.Omega.{arith}
use native.Mathlib.Decide.{dec_lt}
use lib.Ieee.{Float}
use Rattle.lists.proofs.Bools.{both_hold}
use Rattle.limits.specs.Limits.{dof_limit}
use Rattle.refusal.proofs.Laws.{holds_in}
use Rattle.masks.specs.Masks.{is_free}
use Rattle.masks.proofs.Laws.{below_free, fixed_dofs}
use Rattle.masks.proofs.Totals.{start_in}
use Rattle.arm.specs.declared.Arm.{Arm}
use Rattle.arm.specs.Arm.{mask_at, masks_of, start_at, dof_count_of}
use Rattle.arm.specs.Edits.{dof_at}
use Rattle.arm.proofs.Live.{dof_count_le}
use Rattle.floats.specs.Floats.{zero32, one32}
use Rattle.unit_multibody_joint.specs.Rows.{unit_row}
use Rattle.unit_multibody_joint.proofs.Rows.{unit_front, unit_length}
use Rattle.unit_multibody_joint.specs.Refusals.{memory_fits, row_entries, row_refusal}

-- the needed lengths
pub record Fits (n : ℕ) (mass : List Float) (j wj : ℕ) : Type 0 where
  pub matrix : n * n ≤ length mass
  pub j_room : n ≤ j
  pub wj_room : n ≤ wj

pub fits : (n : ℕ) (mass : List Float) (j wj : ℕ) → memory_fits n mass j wj ≡ true → Fits n mass j wj
fits n mass j wj h =
    let p = both_hold (leb (n * n) (length mass) && leb n j) (leb n wj) h in
    let q = both_hold (leb (n * n) (length mass)) (leb n j) p.0 in
    record { matrix = leb-true _ _ q.0; j_room = leb-true _ _ q.1; wj_room = leb-true _ _ p.1 }

-- a mask that is free somewhere is that of a link: where there is none, all is locked
free_there : (masks : List ℕ) (link axis : ℕ) → is_free (get_or masks link 7) axis ≡ true → link < length masks
free_there masks link axis h = elim (dec_lt link (length masks)) [
  | yes l ↦ l
  | no l ↦
      let g : length masks ≤ link = omega arith in
      let f : is_free 7 axis ≡ true = rw (get_or-eq_default masks 7 g) at h in
      absurd (omega (arith, below_free 7 axis f, fixed_dofs))
]

free_dof : (a : Arm) (link axis : ℕ) → is_free (mask_at a link) axis ≡ true → dof_at a link axis < dof_count_of a
unfolding mask_at dof_at start_at dof_count_of
free_dof a link axis h =
    omega (arith, start_in (masks_of a) link 7 (free_there (masks_of a) link axis h), below_free (get_or (masks_of a) link 7) axis h)

-- what an accepted row can be worked in
pub row_ready : (a : Arm) (link axis : ℕ) (fine ordered : Bool) (mass : List Float) (j wj : ℕ) → row_refusal a link axis fine ordered mass j wj ≡ 0
    → (dof_at a link axis < dof_count_of a) × (dof_count_of a ≤ dof_limit) × (dof_count_of a * dof_count_of a ≤ length mass) × (dof_count_of a ≤ j) × (dof_count_of a ≤ wj)
unfolding row_refusal
row_ready a link axis fine ordered mass j wj e =
    let passes = holds_in (row_entries a link axis fine ordered mass j wj) e in
    let f = fits (dof_count_of a) mass j wj (passes (memory_fits (dof_count_of a) mass j wj) 0 (inl refl)) in
    (free_dof a link axis (passes (is_free (mask_at a link) axis) 5 (inr (inr (inr (inl refl))))), dof_count_le a, f.matrix, f.j_room, f.wj_room)

-- so with the code's numbers: n the DoF count, dof the axis' DoF, and u the array of zeros with 1 there
pub row_worked : (a : Arm) (link axis : ℕ) (fine ordered : Bool) (mass : List Float) (j wj : ℕ) → row_refusal a link axis fine ordered mass j wj ≡ 0
    → (n dof : ℕ) (u : List Float) → n ≡ dof_count_of a → dof ≡ dof_at a link axis → u ≡ set (replicate dof_limit zero32) dof one32
    → (take n u ≡ unit_row n dof) × (length (take n u) ≡ n) × (n ≤ dof_limit) × (dof < n) × (n * n ≤ length mass) × (n ≤ j) × (n ≤ wj)
row_worked a link axis fine ordered mass j wj e n dof u en ed eu =
    let r = row_ready a link axis fine ordered mass j wj e in
    let few : n ≤ dof_limit = omega arith in
    let below : dof < n = omega arith in
    let front : take n u ≡ unit_row n dof = rw eu (unit_front n dof_limit dof few below) in
    (front, ap length front ∙ unit_length n dof, few, below, rw en r.2, omega arith, omega arith)
