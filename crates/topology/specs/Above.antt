-- At or above, by the parents alone.
use Rattle.std.specs.Prelude.{ℕ, ◌<◌}

-- link i is at or above link j: it is j, or it is at or above the parent of a later j
pub data AtOrAbove (par : ℕ → ℕ) (i : ℕ) : ℕ → Type 0 where
  itself : AtOrAbove par i i
  above : {j : ℕ} → 0 < j → AtOrAbove par i (par j) → AtOrAbove par i j
