-- `kinematic_branch` of an arm: from the root to a link, into lent memory.
use Rattle.std.specs.Prelude.{ℕ, List, ◌∷◌, leb, length}
use Rattle.refusal.specs.Counted.{Outcome, filled}
use Rattle.refusal.specs.Refusal.{unless_of, lowest}
use Rattle.topology.specs.Parents.{branch}
use Rattle.arm.specs.declared.Arm.{Arm}
use Rattle.arm.specs.Arm.{is_link, parents_of}
use Rattle.arm.specs.HandedIn.{arm_entries}

-- how many places a branch needs: it climbs while the parent is earlier; none where there is no such link
unfoldable pub branch_needed : Arm → ℕ → ℕ
branch_needed a link = length (branch (parents_of a) link)

abbrev pub branch_entries : Arm → ℕ → ℕ → List ℕ
branch_entries a link room = unless_of (leb (branch_needed a link) room) 1 ∷ unless_of (is_link a link) 4 ∷ arm_entries a

unfoldable pub branch_refusal : Arm → ℕ → ℕ → ℕ
branch_refusal a link room = lowest (branch_entries a link room)

-- the count, and the branch at the front of the lent memory; refused, no count, and the memory is as it was
unfoldable pub arm_branch : Arm → ℕ → List ℕ → Outcome ℕ
arm_branch a link m =
    let b = branch (parents_of a) link in
    filled (branch_refusal a link (length m)) (length b) b m
