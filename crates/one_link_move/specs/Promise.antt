-- Demand 3 of the one-link move, over the definitions that its contract cites.
use Rattle.std.specs.Prelude.{ℕ, ◌<◌}
use Rattle.topology.specs.Parents.{parent_in}
use Rattle.topology.specs.Above.{AtOrAbove}
use Rattle.arm.specs.declared.Arm.{Arm}
use Rattle.arm.specs.Arm.{parents_of}

-- link j counts, and is the moved link or below it, by the parents
abbrev pub AtOrBelow : Arm → ℕ → ℕ → Type 0
AtOrBelow a link j = (j < a.link_count) × AtOrAbove (parent_in (parents_of a)) link j
