-- What a root change leaves, over the definition that its contract cites.
use Rattle.std.specs.Prelude.{◌≡◌, List, length, Float}
use Rattle.arm.specs.Arm.{link_at}
use Rattle.limits.specs.Limits.{link_limit}
use Rattle.root_change.specs.declared.Root.{Root}
use Rattle.arm.specs.declared.Arm.{Arm}
use Rattle.full_working.specs.Full.{Settled}
use Rattle.root_change.specs.Root.{changed_root}

-- a change that isn't refused leaves an arm and tables of which the full working changes no bit
abbrev pub RootSettles : Type 0
RootSettles = (a : Arm) (t : List Float) (root : Root) → length a.links ≡ link_limit → length (link_at a.links 0).joint.coordinates ≡ 3
    → (changed_root a t root).answer.refusal ≡ 0 → Settled (changed_root a t root).answer.arm (changed_root a t root).memory

-- and from such an arm and tables a change leaves such, refused or not
abbrev pub RootKeeps : Type 0
RootKeeps = (a : Arm) (t : List Float) (root : Root) → length a.links ≡ link_limit → length (link_at a.links 0).joint.coordinates ≡ 3 → Settled a t
    → (length (changed_root a t root).answer.arm.links ≡ link_limit)
    × (length (link_at (changed_root a t root).answer.arm.links 0).joint.coordinates ≡ 3)
    × Settled (changed_root a t root).answer.arm (changed_root a t root).memory
