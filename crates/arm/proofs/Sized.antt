-- Every arm that code owns is sized: each array's length is part of what owning it means. Assumes nothing.
use Prim.Native.Nat.{ℕ, zero, suc, ◌<◌}
use mathlib.Core.Path.{◌≡◌}
use mathlib.Core.List.{List, [], ◌∷◌, map}
use native.Mathlib.Omega.{arith}
use lib.ListN.{length, get_or}
use mir.Val.{Val}
use denote.Array.{each}
use denote.Laws.{Is}
use denote.Shadow.{shadow}
use denote.Struct.Declared.{row}
use Rattle.arm.specs.Sized.{Sized}
use Rattle.limits.specs.Limits.{dof_limit}
use Rattle.arm.specs.declared.Arm.{Arm}
use Rattle.arm.specs.declared.Row.{Row}
use Rattle.arm.specs.Arm.{entries_of}
use Rattle.arm.specs.contracts.Arm.{the_type}
use Rattle.arm.specs.contracts.Row as row_type
use Rattle.arm.proofs.Shape.{links_length, couplings_length, rows_length, row-length}

-- the rows are owned one by one
each_row : (rows : List Row) (us : List Val)
    → shadow (each (row_type.the_row).Denot (row_type.the_row).own_val rows us)
    → (k : ℕ) → k < length rows → length (get_or (map entries_of rows) k []) ≡ dof_limit
each_row [] us s k h = absurd (omega arith)
each_row (r ∷ rows) [] s k h = absurd s
each_row (r ∷ rows) (u ∷ us) s zero h = row-length r s.0
each_row (r ∷ rows) (u ∷ us) s (suc k) h = each_row rows us s.1 k (omega arith)

pub sized : (a : Arm) {vs : List Val} → Is (row the_type) a vs → Sized a
sized a p = record {
  links = links_length a p;
  couplings = couplings_length a p;
  rows = rows_length a p;
  entries = λ k h. each_row a.rows p.1.1.1.1.1.1.0.0 p.1.1.1.1.1.1.0.1.1 k (omega (arith, rows_length a p));
}
