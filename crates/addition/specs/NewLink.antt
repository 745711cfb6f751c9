-- A new link, its row entries, and the arm with it: damping by default, other rows, coordinates and springs zero, joint rotation identity.
use Rattle.std.specs.Prelude.{ℕ, ◌+◌, List, map, set, take, Float}
use Rattle.lists.specs.Lists.{laid, modify, with_part}
use Rattle.masks.specs.Masks.{dofs_of, damping_row}
use Rattle.multibody_joint.specs.Joint.{zeros, new_joint}
use Rattle.arm.specs.Setters.{unplaced, arm_with}
use Rattle.arm.specs.declared.Link.{Link}
use Rattle.arm.specs.declared.Row.{Row}
use Rattle.arm.specs.declared.RowName.TheVariants.{Damping}
use Rattle.arm.specs.declared.Arm.{Arm}
use Rattle.arm.specs.Arm.{dof_count_of, row_number}
use Rattle.addition.specs.declared.NewLink.{NewLink}

-- the link; its pose and shifts are yet to be worked out
unfoldable pub link_of : NewLink → Link
link_of new = unplaced new.tag new.parent (new_joint new.locked new.limit new.motor new.frame1 new.frame2) new.centre

-- the first n of the values stand in the row from `start` on
unfoldable pub entries_set : ℕ → ℕ → List Float → Row → Row
entries_set start n values row = record { entries = with_part start n (take n values) row.entries }

-- from `start` on, one for each of the mask's DoFs: +0 in each row, then the default damping in its row
abbrev pub rows_from : ℕ → ℕ → List Row → List Row
rows_from start mask rows =
    let n = dofs_of mask in
    modify (entries_set start n (laid (damping_row mask) zeros)) (row_number Damping) (map (entries_set start n zeros) rows)

-- behind the arm's own entries
unfoldable pub rows_with : Arm → ℕ → List Row
rows_with a mask = rows_from (dof_count_of a) mask a.rows

-- the arm with the link behind its last, and nothing worked out
unfoldable pub added_inputs : Arm → NewLink → Arm
added_inputs a new =
    let n = a.link_count in
    arm_with a (n + 1) a.coupling_count (set a.links n (link_of new)) a.couplings (rows_with a new.locked)
