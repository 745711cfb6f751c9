-- What a whole step leaves, over the definition that its contract cites.
use Rattle.std.specs.Prelude.{◌≡◌, List, length, Float}
use Rattle.arm.specs.Arm.{link_at}
use Rattle.limits.specs.Limits.{link_limit}
use Rattle.arm.specs.declared.Arm.{Arm}
use Rattle.full_working.specs.Full.{Settled}
use Rattle.whole_step.specs.Step.{whole_step}

-- a step that isn't refused leaves an arm and tables of which the full working changes no bit
abbrev pub StepSettles : Type 0
StepSettles = (a : Arm) (t : List Float) (dt : Float) → length a.links ≡ link_limit
    → (whole_step a t dt).answer.refusal ≡ 0 → Settled (whole_step a t dt).answer.arm (whole_step a t dt).memory

-- and from such an arm and tables a step leaves such, refused or not; the root keeps its three coordinates
abbrev pub StepKeeps : Type 0
StepKeeps = (a : Arm) (t : List Float) (dt : Float) → length a.links ≡ link_limit → length (link_at a.links 0).joint.coordinates ≡ 3 → Settled a t
    → (length (whole_step a t dt).answer.arm.links ≡ link_limit)
    × (length (link_at (whole_step a t dt).answer.arm.links 0).joint.coordinates ≡ 3)
    × Settled (whole_step a t dt).answer.arm (whole_step a t dt).memory
