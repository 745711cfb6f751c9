-- J of one degree of freedom; a row's entries up to the DoF count. Assumes nothing.
use Prim.Native.Nat.{ℕ, zero, suc, ◌≤◌, ◌<◌}
use mathlib.Core.Path.{◌≡◌, refl, ap, ◌∙◌}
use mathlib.Core.List.{List, [], ◌∷◌, map}
use native.Mathlib.Omega.{arith}
use lib.ListN.{length, take, get_or, set, replicate, length-replicate, length-set}
use lib.Seq.{take-set-lt, take-nil}
use lib.Ieee.{Float}
use Rattle.floats.specs.Floats.{zero32, one32, entry_of}
use Rattle.arm.specs.declared.Arm.{Arm}
use Rattle.arm.specs.declared.Row.{Row}
use Rattle.arm.specs.declared.RowName.{RowName}
use Rattle.arm.specs.declared.RowName.TheVariants.{Frictions}
use Rattle.arm.specs.Arm.{dof_count_of, row_number, entries_of, entries_to, rows_of, row_in}
use Rattle.arm.specs.Edits.{dof_at}
use Rattle.unit_multibody_joint.specs.declared.Bounds.{Bounds}
use Rattle.unit_multibody_joint.specs.Rows.{row_answer, unit_row, lhs_at}
use Rattle.unit_multibody_joint.specs.Refusals.{row_up_to, friction_at}

-- ---- J

take-replicate : (n k : ℕ) (x : Float) → n ≤ k → take n (replicate k x) ≡ replicate n x
take-replicate zero k x h = refl
take-replicate (suc n) zero x h = absurd (omega arith)
take-replicate (suc n) (suc k) x h = ap (λ (l : List Float). x ∷ l) (take-replicate n k x (omega arith))

-- the front of an array of k zeros with 1 at the DoF
pub unit_front : (n k dof : ℕ) → n ≤ k → dof < n → take n (set (replicate k zero32) dof one32) ≡ unit_row n dof
unfolding unit_row
unit_front n k dof h l = take-set-lt n (replicate k zero32) dof one32 l ∙ ap (λ (xs : List Float). set xs dof one32) (take-replicate n k zero32 h)

pub unit_length : (n dof : ℕ) → length (unit_row n dof) ≡ n
unfolding unit_row
unit_length n dof = length-set (replicate n zero32) dof one32 ∙ length-replicate n zero32

-- with the code's numbers for those of the definition
pub unit_on : (b : Bounds) (cfm : Float) (k n n₁ dof dof₁ : ℕ) (u m j wj : List Float) → k ≡ 0 → n ≡ n₁ → dof ≡ dof₁ → u ≡ unit_row n dof
    → row_answer b cfm (lhs_at dof) 0 (length u) u m j wj ≡ row_answer b cfm (lhs_at dof₁) k n₁ (unit_row n₁ dof₁) m j wj
unit_on b cfm k n n₁ dof dof₁ u m j wj ek en ed eu = rw (eu, unit_length n dof, ek, en, ed)

-- ---- a row's entries up to the DoF count

taken_at : (n : ℕ) (rows : List Row) (k : ℕ) → take n (get_or (map entries_of rows) k []) ≡ get_or (map (entries_to n) rows) k []
taken_at n [] k = take-nil n
taken_at n (row ∷ rows) zero = refl
taken_at n (row ∷ rows) (suc k) = taken_at n rows k

pub row-front : (a : Arm) (name : RowName) (n : ℕ) (row : List Float) → n ≡ dof_count_of a → row ≡ row_in a name → take n row ≡ row_up_to a name
unfolding rows_of row_in
row-front a name n row e f = rw (f, e) (taken_at (dof_count_of a) a.rows (row_number name))

-- the friction of a link's axis
pub friction_is : (a : Arm) (link axis n at : ℕ) (row : List Float) → n ≡ dof_count_of a → row ≡ row_in a Frictions → at ≡ dof_at a link axis
    → entry_of (take n row) at ≡ friction_at a link axis
unfolding friction_at
friction_is a link axis n at row e f g = rw (row-front a Frictions n row e f, g)
