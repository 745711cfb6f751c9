-- Demand 3 of the addition, over the definitions that its contract cites.
use Rattle.std.specs.Prelude.{ℕ, ◌≡◌}
use Rattle.arm.specs.declared.Arm.{Arm}

-- the added link; none is below it
abbrev pub IsAdded : Arm → ℕ → Type 0
IsAdded a j = j ≡ a.link_count
