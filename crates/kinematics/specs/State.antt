-- What is kept of an arm, poses and shifts in its links and Jacobian blocks in the tables, and the pass that refreshes marked links.
use Rattle.std.specs.Prelude.{ℕ, Bool, true, false, cond, List, ◌++◌, map, eqb, get_or, set, drop, replicate, Float}
use Rattle.lists.specs.Numbers.{all_below}
use Rattle.limits.specs.Limits.{table_size}
use Rattle.floats.specs.Floats.{zero32}
use Rattle.masks.specs.Starts.{start_of}
use Rattle.arm.specs.declared.Link.{Link}
use Rattle.arm.specs.Arm.{link_at, locked_of}
use Rattle.kinematics.specs.Blocks.{block_at, with_block}
use Rattle.kinematics.specs.Link.{Kept, Inputs, root_kept, later_kept, finite_kept, with_kept}
use Rattle.kinematics.specs.Pass.{Ops, run}

-- ---- the links

-- the parent of link j
unfoldable pub parent_at : List Link → ℕ → ℕ
parent_at ls j = (link_at ls j).parent

-- link j's inputs; its start is the sum of all earlier links' DoFs
unfoldable pub inputs_of : List Link → ℕ → Inputs
inputs_of ls j = record {
  joint = (link_at ls j).joint;
  centre = (link_at ls j).centre;
  start = start_of (map locked_of ls) j;
  above = (link_at ls (parent_at ls j)).centre;
}

-- ---- what is kept

pub record State : Type 0 where
  pub links : List Link
  pub tables : List Float

abbrev pub state : List Link → List Float → State
state ls t = record { links = ls; tables = t }

-- what is kept of a link, in it and in its block
abbrev pub kept_in : Link → List Float → Kept
kept_in l block = record { world = l.world; shift02 = l.shift02; shift23 = l.shift23; block = block }

-- what is kept of link j, read and written
unfoldable pub kept_at : State → ℕ → Kept
kept_at s j = kept_in (link_at s.links j) (block_at j s.tables)

unfoldable pub put_kept : State → ℕ → Kept → State
put_kept s j k = state (set s.links j (with_kept (link_at s.links j) k)) (with_block j k.block s.tables)

abbrev pub kept_ops : Ops Inputs Kept State
kept_ops = record { root = root_kept; later = later_kept; at = kept_at; put = put_kept }

-- ---- the pass

abbrev pub marked : List Bool → ℕ → Bool
marked marks j = get_or marks j false

-- all of them
abbrev pub every_link : ℕ → Bool
every_link j = true

-- link j alone
abbrev pub only : ℕ → ℕ → Bool
only j k = eqb k j

-- of the first n links those marked are worked out, rising, each from what is kept of its parent
unfoldable pub state_after : List Link → ℕ → (ℕ → Bool) → List Float → State
state_after ls n b t = run kept_ops (parent_at ls) (inputs_of ls) b n (state ls t)

-- every result that is worked out is finite
unfoldable pub fine_after : List Link → ℕ → (ℕ → Bool) → List Float → Bool
fine_after ls n b t = all_below n (λ j. cond (b j) (finite_kept (kept_at (state_after ls n b t) j)) true)

-- the tables with +0 in every place; memory past them stays
abbrev pub cleared : List Float → List Float
cleared t = replicate table_size zero32 ++ drop table_size t
