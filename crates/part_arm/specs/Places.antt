-- Where the links of an arm go in a split, seen from one part.
use Rattle.std.specs.Prelude.{ℕ, Bool, not, ◌&&◌}
use Rattle.topology.specs.declared.Split.{Split}
use Rattle.topology.specs.Split.{is_head, is_in, number_of}
use Rattle.arm.specs.declared.Arm.{Arm}
use Rattle.arm.specs.Arm.{parents_of}

pub record Places : Type 0 where
  -- is link j a survivor in the part?
  pub here : ℕ → Bool
  -- is link j a head?
  pub head : ℕ → Bool
  -- link j's new number
  pub number : ℕ → ℕ

-- part k of a split of the arm
abbrev pub places_of : Arm → Split → ℕ → Places
places_of a s k = record { here = is_in (parents_of a) s k; head = is_head (parents_of a) s; number = number_of (parents_of a) s }

-- a survivor in the part that keeps its joint and its row entries: any but a head
abbrev pub goes_on : Places → ℕ → Bool
goes_on p j = p.here j && not (p.head j)
