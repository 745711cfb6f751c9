-- The words of the theorem about row writes.
use Rattle.std.specs.Prelude.{ℕ, ◌≡◌, get_or, Float}
use Rattle.std.specs.Float.{nan}
use Rattle.arm.specs.declared.RowName.{RowName}
use Rattle.arm.specs.declared.Arm.{Arm}
use Rattle.arm.specs.Arm.{row_number, row_in}

-- b is a with the entry of one place of one row set, and nothing else changed
pub record OneEntry (a : Arm) (name : RowName) (place : ℕ) (value : Float) (b : Arm) : Type 0 where
  pub written : get_or (row_in b name) place nan ≡ value
  pub other_places : (k : ℕ) → (k ≡ place → ⊥) → get_or (row_in b name) k nan ≡ get_or (row_in a name) k nan
  pub other_rows : (other : RowName) → (row_number other ≡ row_number name → ⊥) → row_in b other ≡ row_in a other
  pub link_count : b.link_count ≡ a.link_count
  pub coupling_count : b.coupling_count ≡ a.coupling_count
  pub links : b.links ≡ a.links
  pub couplings : b.couplings ≡ a.couplings
