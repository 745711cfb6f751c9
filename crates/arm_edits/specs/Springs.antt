-- `set_spring` of a link's joint: a stiffness and a rest for an axis, locked or not. Link and axis are any numbers.
use Rattle.std.specs.Prelude.{ℕ, List, ◌∷◌}
use Rattle.arm.specs.Setters.{with_links, with_joint}
use Rattle.lists.specs.Lists.{modify}
use Rattle.refusal.specs.Refusal.{unless_of, lowest}
use Rattle.masks.specs.Masks.{is_axis}
use Rattle.multibody_joint.specs.declared.Spring.{Spring}
use Rattle.multibody_joint.specs.Springs.{spring_set, spring_finite}
use Rattle.arm.specs.declared.Link.{Link}
use Rattle.arm.specs.declared.Arm.{Arm}
use Rattle.arm.specs.declared.Edited.{Edited}
use Rattle.arm.specs.Arm.{is_link}
use Rattle.arm.specs.Edits.{edited}
use Rattle.arm.specs.HandedIn.{arm_entries}

abbrev pub spring_entries : Arm → ℕ → ℕ → Spring → List ℕ
spring_entries a link axis s =
    unless_of (is_link a link) 4
    ∷ unless_of (is_axis axis) 5
    ∷ unless_of (spring_finite s) 7
    ∷ arm_entries a

unfoldable pub spring_refusal : Arm → ℕ → ℕ → Spring → ℕ
spring_refusal a link axis s = lowest (spring_entries a link axis s)

unfoldable pub link_spring_set : ℕ → Spring → Link → Link
link_spring_set axis s l = with_joint l (spring_set l.joint axis s)

-- the arm with the spring of a link's axis set
unfoldable pub with_link_spring : Arm → ℕ → ℕ → Spring → Arm
with_link_spring a link axis s = with_links a (modify (link_spring_set axis s) link a.links)

unfoldable pub arm_spring_set : Arm → ℕ → ℕ → Spring → Edited
arm_spring_set a link axis s = edited (spring_refusal a link axis s) a (with_link_spring a link axis s)
