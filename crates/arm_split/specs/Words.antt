-- What is promised of every part that is handed out.
use Rattle.std.specs.Prelude.{ℕ, ◌≡◌, List, length, Float}
use Rattle.lists.specs.Numbers.{chosen}
use Rattle.limits.specs.Limits.{dof_limit}
use Rattle.masks.specs.Starts.{total_of}
use Rattle.topology.specs.declared.Split.{Split}
use Rattle.arm.specs.declared.Arm.{Arm}
use Rattle.arm.specs.Arm.{live_links, mask_at, dof_count_of}
use Rattle.arm.specs.Sized.{Sized}
use Rattle.arm.specs.HandedIn.{arm_refusal}
use Rattle.full_working.specs.Full.{Settled}
use Rattle.part_arm.specs.Places.{places_of, goes_on}
use Rattle.part_arm.specs.Part.{part_entries, part_arm}
use Rattle.arm_split.specs.Answers.{arm_part}

-- a part of an accepted arm passes every test of an arm handed in
abbrev pub PartPasses : Type 0
PartPasses = (a : Arm) (s : Split) (k : ℕ) → Sized a → arm_refusal a ≡ 0 → arm_refusal (part_arm (places_of a s k) a) ≡ 0

-- a part that is handed out is settled over its tables: its full working is not refused, and changes no bit
abbrev pub PartSettles : Type 0
PartSettles = (a : Arm) (s : Split) (k : ℕ) (t : List Float) → Sized a → (arm_part a s k t).answer.refusal ≡ 0 → Settled (arm_part a s k t).answer.arm (arm_part a s k t).memory

-- its DoF count is the sum of the DoFs of the links that go on: heads have none
abbrev pub PartDofs : Type 0
PartDofs = (a : Arm) (s : Split) (k : ℕ) → Sized a → dof_count_of (part_arm (places_of a s k) a) ≡ total_of (chosen (live_links a) (goes_on (places_of a s k)) (mask_at a))

-- and that many entries of each row go with them
abbrev pub PartRows : Type 0
PartRows = (a : Arm) (s : Split) (k : ℕ) → Sized a → (entries : List Float) → length entries ≡ dof_limit
    → length (part_entries (places_of a s k) a entries) ≡ dof_count_of (part_arm (places_of a s k) a)
