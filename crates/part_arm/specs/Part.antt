-- One part of a split as an arm, by document 01's 'Split'.
use Rattle.std.specs.Prelude.{ℕ, min, Bool, cond, ◌&&◌, List, [], map, length, Float}
use Rattle.arm.specs.Empty.{blank_row, empty_arm}
use Rattle.lists.specs.Lists.{laid}
use Rattle.lists.specs.Numbers.{gathered, chosen}
use Rattle.limits.specs.Limits.{coupling_limit}
use Rattle.multibody_joint.specs.Joint.{fixed_joint}
use Rattle.arm.specs.declared.Link.{Link}
use Rattle.arm.specs.declared.Coupling.{Coupling}
use Rattle.arm.specs.declared.Row.{Row}
use Rattle.arm.specs.declared.Arm.{Arm}
use Rattle.arm.specs.Setters.{with_inputs, arm_with}
use Rattle.arm.specs.Arm.{live_links, link_at, coupling_at, own_part}
use Rattle.part_arm.specs.Places.{Places, goes_on}

-- ---- links

-- a head is a root, with a fixed joint at its kept world pose; any other keeps its joint, and its parent's number is the new one
unfoldable pub new_link : Bool → ℕ → Link → Link
new_link head parent l = cond head (with_inputs l 0 (fixed_joint l.world) l.centre) (with_inputs l parent l.joint l.centre)

-- the survivors in the part, rising
unfoldable pub part_links : Places → Arm → List Link
part_links p a =
    chosen (live_links a) p.here
    (λ j. let l = link_at a.links j in new_link (p.head j) (p.number l.parent) l)

-- ---- rows

-- the entries of those that go on, in order; a head's are lost
unfoldable pub part_entries : Places → Arm → List Float → List Float
part_entries p a entries = gathered (live_links a) (λ j. cond (goes_on p j) (own_part a j entries) [])

unfoldable pub part_row : Places → Arm → Row → Row
part_row p a row = record { entries = laid (part_entries p a row.entries) blank_row.entries }

-- ---- couplings

-- it stays if both links survive in the part and neither is a head
unfoldable pub coupling_stays : Places → Coupling → Bool
coupling_stays p c = goes_on p c.link1 && goes_on p c.link2

-- with the new numbers of its links
unfoldable pub new_coupling : (ℕ → ℕ) → Coupling → Coupling
new_coupling number c = record {
  link1 = number c.link1;
  axis1 = c.axis1;
  link2 = number c.link2;
  axis2 = c.axis2;
  coefficient = c.coefficient;
  offset = c.offset;
}

-- those that stay, in order
unfoldable pub part_couplings : Places → Arm → List Coupling
part_couplings p a =
    chosen (min a.coupling_count coupling_limit) (λ i. coupling_stays p (coupling_at a i)) (λ i. new_coupling p.number (coupling_at a i))

-- ---- the arm

-- all that is past the counts is as in an empty arm; poses and shifts are worked out afterwards
unfoldable pub part_arm : Places → Arm → Arm
part_arm p a =
    let links = part_links p a in
    let couplings = part_couplings p a in
    arm_with a (length links) (length couplings) (laid links empty_arm.links) (laid couplings empty_arm.couplings) (map (part_row p a) a.rows)
