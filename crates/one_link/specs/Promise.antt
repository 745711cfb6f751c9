-- Demand 3 of a call on one link, over the definitions that the contracts cite: what a one-link move or an addition promises of an arm and tables that are
-- settled.
use Rattle.std.specs.Prelude.{ℕ, ◌<◌, ◌≡◌, ◌↔◌, List, drop, Float}
use Rattle.arm.specs.declared.RowName.{RowName}
use Rattle.arm.specs.Arm.{link_at, couplings_of, row_in, own_part}
use Rattle.arm.specs.Sized.{Sized}
use Rattle.limits.specs.Limits.{link_limit, table_size}
use Rattle.arm.specs.declared.Arm.{Arm}
use Rattle.kinematics.specs.Blocks.{block_at}
use Rattle.full_working.specs.Outcome.{Outcome, worked_all}
use Rattle.full_working.specs.Full.{full_working, Settled}

-- arm b has arm a's couplings and, for each link of a, its own part of each row, bit for bit
pub record RestKept (a b : Arm) : Type 0 where
  pub couplings : couplings_of b ≡ couplings_of a
  pub entries : (name : RowName) (j : ℕ) → j < a.link_count → own_part b j (row_in b name) ≡ own_part a j (row_in a name)

-- link j and its block are, bit for bit, as they were
abbrev pub Untouched : Arm → List Float → Outcome → ℕ → Type 0
Untouched a t r j = (link_at r.answer.arm.links j ≡ link_at a.links j) × (block_at j r.memory ≡ block_at j t)

-- r is what the call left of arm a and memory t. `own` is its refusal before any result is worked out, `new` the arm with the new inputs, Below the link
-- that is moved or added and those below it
pub record Right (a : Arm) (t : List Float) (own : ℕ) (new : Arm) (Below : ℕ → Type 0) (r : Outcome) : Type 0 where
  -- a refusal of its own is given
  pub refused : (own ≡ 0 → ⊥) → r.answer.refusal ≡ own
  -- else it answers and leaves what the working of every link of the new arm would: 12, or the arm and all of the memory
  pub as_all : own ≡ 0 → r ≡ worked_all a new t
  -- so it is refused for its results exactly when the full working of the new arm would be refused
  pub exactly : own ≡ 0 → (r.answer.refusal ≡ 12) ↔ ((full_working new t).answer.refusal ≡ 0 → ⊥)
  -- and where it isn't refused, poses, shifts and all of the memory are the full working's
  pub as_full : r.answer.refusal ≡ 0 → r ≡ full_working new t
  -- a refusal leaves the arm and the memory
  pub left : (r.answer.refusal ≡ 0 → ⊥) → (r.answer.arm ≡ a) × (r.memory ≡ t)
  -- links that are neither the one nor below it, and memory past the tables, are untouched
  pub untouched : (j : ℕ) → j < link_limit → (Below j → ⊥) → Untouched a t r j
  pub behind : drop table_size r.memory ≡ drop table_size t
  -- refused or not, arm and memory are settled again
  pub settled : Settled r.answer.arm r.memory
  pub sized : Sized r.answer.arm
