-- What a split of an arm answers, and one of its parts.
use Rattle.std.specs.Prelude.{ℕ, ◌*◌, List, ◌∷◌, leb, ltb, length, Float}
use Rattle.refusal.specs.Counted.{Outcome as MapOutcome, filled}
use Rattle.refusal.specs.Refusal.{unless_of, lowest}
use Rattle.topology.specs.declared.Split.{Split}
use Rattle.topology.specs.Split.{link_of, part_count, split_map}
use Rattle.arm.specs.declared.Arm.{Arm}
use Rattle.arm.specs.Arm.{live_links, is_link, parents_of}
use Rattle.arm.specs.Empty.{empty_arm}
use Rattle.arm.specs.HandedIn.{arm_entries}
use Rattle.full_working.specs.Outcome.{Outcome, unless_refused, tables_fit, worked_all}
use Rattle.part_arm.specs.Places.{places_of}
use Rattle.part_arm.specs.Part.{part_arm}

-- ---- the map

-- 1: two bytes for each link that counts; 4: the link that is deleted or cut
unfoldable pub split_refusal : Arm → Split → List ℕ → ℕ
split_refusal a s m =
    lowest
    (unless_of (leb (2 * live_links a) (length m)) 1
    ∷ unless_of (is_link a (link_of s)) 4
    ∷ arm_entries a)

-- the part count, and part and number of each link
unfoldable pub arm_split : Arm → Split → List ℕ → MapOutcome ℕ
arm_split a s m = filled (split_refusal a s m) (part_count (parents_of a) s) (split_map (parents_of a) s (live_links a)) m

-- ---- a part

-- 4: the link that is deleted or cut, and a part number that isn't below the part count
unfoldable pub part_refusal : Arm → Split → ℕ → List Float → ℕ
part_refusal a s k t =
    lowest
    (unless_of (tables_fit t) 1
    ∷ unless_of (is_link a (link_of s)) 4
    ∷ unless_of (ltb k (part_count (parents_of a) s)) 4
    ∷ arm_entries a)

-- part k as an arm, worked out into tables of its own; refused: the number, an empty arm, and the tables as they were
unfoldable pub arm_part : Arm → Split → ℕ → List Float → Outcome
arm_part a s k t = unless_refused (part_refusal a s k t) empty_arm t (worked_all empty_arm (part_arm (places_of a s k) a) t)
