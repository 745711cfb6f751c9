-- What the pass over marked links promises, over the definitions that the contracts cite.
use Rattle.std.specs.Prelude.{ℕ, ◌+◌, ◌≤◌, ◌<◌, ◌≡◌, Bool, true, false, List, length, drop, Float}
use Rattle.kinematics.specs.Inner.{result_of}
use Rattle.arm.specs.Arm.{link_at}
use Rattle.limits.specs.Limits.{link_limit, dof_limit, block_size, table_size}
use Rattle.planar.specs.Poses.{finite_point}
use Rattle.arm.specs.declared.Link.{Link}
use Rattle.kinematics.specs.Blocks.{block_at, zero_block}
use Rattle.kinematics.specs.declared.Posed.{Posed}
use Rattle.kinematics.specs.Link.{block_from, finite_kept}
use Rattle.kinematics.specs.State.{State, state, kept_at, state_after, fine_after, cleared, parent_at, every_link}
use Rattle.kinematics.specs.Unused.{ZeroAt, OwnColumn, UnusedZero}

-- what is kept of link j is what its parent's gives
abbrev pub Fresh : List Link → List Float → ℕ → Type 0
Fresh ls t j = kept_at (state ls t) j ≡ result_of ls (state ls t) j

-- link j and its block are as they were
abbrev pub Untouched : List Link → List Float → State → ℕ → Type 0
Untouched ls t s j = (link_at s.links j ≡ link_at ls j) × (block_at j s.tables ≡ block_at j t)

-- links in their places, and tables that are long enough, for n links
pub record Fits (ls : List Link) (n : ℕ) (t : List Float) : Type 0 where
  pub places : length ls ≡ link_limit
  pub few : n ≤ link_limit
  pub long : table_size ≤ length t

-- what is below a marked link is marked
abbrev pub Closed : (ℕ → ℕ) → (ℕ → Bool) → ℕ → Type 0
Closed par b n = (j : ℕ) → j < n → par j < j → b (par j) ≡ true → b j ≡ true

-- only what is at or below a changed link is marked: what is below a marked link is marked, unmarked links are fresh and finite, unused blocks are +0
pub record Ready (ls : List Link) (n : ℕ) (b : ℕ → Bool) (t : List Float) : Type 0 where
  pub closed : Closed (parent_at ls) b n
  pub fresh : (j : ℕ) → j < n → b j ≡ false → Fresh ls t j
  pub finite : (j : ℕ) → j < n → b j ≡ false → finite_kept (kept_at (state ls t) j) ≡ true
  pub unused : (j : ℕ) → n ≤ j → j < link_limit → block_at j t ≡ zero_block

-- then the pass over the marked links leaves, bit for bit, what the full pass over cleared tables leaves, and is not finite exactly when that isn't
abbrev pub LikeFull : Type 0
LikeFull = (ls : List Link) (n : ℕ) (b : ℕ → Bool) (t : List Float) → Fits ls n t → Ready ls n b t
    → (state_after ls n b t ≡ state_after ls n every_link (cleared t)) × (fine_after ls n b t ≡ fine_after ls n every_link (cleared t))

-- the full pass leaves every link fresh
abbrev pub AllFresh : Type 0
AllFresh = (ls : List Link) (n : ℕ) (t : List Float) → Fits ls n t → (j : ℕ) → j < n → kept_at (state_after ls n every_link t) j ≡ result_of ls (state_after ls n every_link t) j

-- unmarked links and their blocks, links past the first n, and memory past the tables are untouched
abbrev pub Stays : Type 0
Stays = (ls : List Link) (n : ℕ) (b : ℕ → Bool) (t : List Float) → Fits ls n t
    → ((j : ℕ) → j < link_limit → (j < n → b j ≡ false) → Untouched ls t (state_after ls n b t) j) × (drop table_size (state_after ls n b t).tables ≡ drop table_size t)

-- parents are no later than their links
abbrev pub Rising : List Link → ℕ → Type 0
Rising ls n = (j : ℕ) → j < n → parent_at ls j ≤ j

-- links that agree up to n get the same results, tables and test
abbrev pub UpTo : Type 0
UpTo = (ls ls' : List Link) (n : ℕ) (b : ℕ → Bool) (t : List Float) → Fits ls n t → Fits ls' n t → Rising ls n → ((j : ℕ) → j < n → link_at ls j ≡ link_at ls' j)
    → ((j : ℕ) → j < n → link_at (state_after ls n b t).links j ≡ link_at (state_after ls' n b t).links j)
    × ((state_after ls n b t).tables ≡ (state_after ls' n b t).tables)
    × (fine_after ls n b t ≡ fine_after ls' n b t)

-- where a link's shifts are finite, a column that isn't its own and holds +0 in the copied block stays +0
abbrev pub ZerosStay : Type 0
ZerosStay = (p : Posed) (locked start c : ℕ) (b : List Float) → length b ≡ block_size → start + 3 ≤ dof_limit → c < dof_limit → (OwnColumn start locked c → ⊥)
    → finite_point p.shift02 ≡ true → finite_point p.shift23 ≡ true → ZeroAt c b → ZeroAt c (block_from p locked start b)

-- so where all is finite the full pass over cleared tables leaves +0 in every unused place
abbrev pub UnusedLeft : Type 0
UnusedLeft = (ls : List Link) (n : ℕ) (t : List Float) → Fits ls n t → fine_after ls n every_link (cleared t) ≡ true
    → UnusedZero ls n (state_after ls n every_link (cleared t)).tables
