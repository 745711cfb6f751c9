-- What every arm is that code holds.
use Rattle.std.specs.Prelude.{ℕ, ◌<◌, ◌≡◌, [], map, length, get_or}
use Rattle.limits.specs.Limits.{link_limit, coupling_limit, dof_limit}
use Rattle.arm.specs.declared.Arm.{Arm}
use Rattle.arm.specs.Arm.{entries_of}

-- its arrays have their lengths
pub record Sized (a : Arm) : Type 0 where
  pub links : length a.links ≡ link_limit
  pub couplings : length a.couplings ≡ coupling_limit
  pub rows : length a.rows ≡ 5
  pub entries : (k : ℕ) → k < 5 → length (get_or (map entries_of a.rows) k []) ≡ dof_limit
