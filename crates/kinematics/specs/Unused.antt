-- Unused places of the tables, and that they hold +0.
use Rattle.std.specs.Prelude.{ℕ, ◌+◌, ◌*◌, ◌≤◌, ◌<◌, ◌≡◌, List, map, get_or, Float}
use Rattle.std.specs.Float.{nan}
use Rattle.limits.specs.Limits.{link_limit, dof_limit}
use Rattle.floats.specs.Floats.{zero32}
use Rattle.masks.specs.Masks.{dofs_of}
use Rattle.masks.specs.Starts.{start_of}
use Rattle.topology.specs.Above.{AtOrAbove}
use Rattle.arm.specs.declared.Link.{Link}
use Rattle.arm.specs.Arm.{link_at, locked_of}
use Rattle.kinematics.specs.Blocks.{block_at}
use Rattle.kinematics.specs.State.{parent_at}

-- column c of a block holds +0, in each of its three rows
abbrev pub ZeroAt : ℕ → List Float → Type 0
ZeroAt c b = (get_or b c nan ≡ zero32) × (get_or b (dof_limit + c) nan ≡ zero32) × (get_or b (2 * dof_limit + c) nan ≡ zero32)

-- column c is a degree of freedom of a joint with this start and these locked axes
abbrev pub OwnColumn : ℕ → ℕ → ℕ → Type 0
OwnColumn start locked c = (start ≤ c) × (c < start + dofs_of locked)

-- of n links: j is one of them, and column c is a degree of freedom of a link at or above it
pub record Used (ls : List Link) (n j c : ℕ) : Type 0 where
  pub counted : j < n
  pub link : ℕ
  pub above : AtOrAbove (parent_at ls) link j
  pub own : OwnColumn (start_of (map locked_of ls) link) (link_at ls link).joint.locked c

-- every place of the tables that isn't used holds +0
abbrev pub UnusedZero : List Link → ℕ → List Float → Type 0
UnusedZero ls n t = (j c : ℕ) → j < link_limit → c < dof_limit → (Used ls n j c → ⊥) → ZeroAt c (block_at j t)
