-- Rows seen up to the DoF count: what reads no more of each is the same of rows that agree. Assumes nothing.
use Prim.Native.Nat.{ℕ, suc, ◌<◌}
use mathlib.Core.Path.{◌≡◌, refl, ap₂}
use mathlib.Core.List.{List, [], ◌∷◌, map}
use native.Mathlib.Omega.{arith}
use lib.ListN.{length, get_or}
use lib.Ieee.{Float}
use Rattle.arm.specs.Sized.{Sized}
use Rattle.limits.specs.Limits.{dof_limit}
use Rattle.arm.specs.declared.Row.{Row}
use Rattle.arm.specs.declared.Arm.{Arm}
use Rattle.arm.specs.Arm.{dof_count_of, entries_of, entries_to, rows_of}

-- f reads the first n entries of a row
module _ {B : Type 0} (n : ℕ) (f : Row → B) (g : List Float → B) (reads : (row : Row) → length row.entries ≡ dof_limit → f row ≡ g (entries_to n row)) where
  each_row : (rows : List Row) → ((k : ℕ) → k < length rows → length (get_or (map entries_of rows) k []) ≡ dof_limit) → map f rows ≡ map g (map (entries_to n) rows)
  each_row [] h = refl
  each_row (row ∷ rows) h = ap₂ ◌∷◌ (reads row (h 0 (omega arith))) (each_row rows (λ k l. h (suc k) (omega arith)))

pub of_rows : {B : Type 0} (a : Arm) → Sized a → (f : Row → B) (g : List Float → B) → ((row : Row) → length row.entries ≡ dof_limit → f row ≡ g (entries_to (dof_count_of a) row))
    → map f a.rows ≡ map g (rows_of a)
unfolding rows_of
of_rows a s f g reads = each_row (dof_count_of a) f g reads a.rows (λ k h. s.entries k (omega (arith, s.rows)))
