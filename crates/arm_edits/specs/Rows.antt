-- A row write: one entry of one row is set, named by link and axis. Both are any numbers.
use Rattle.std.specs.Prelude.{ℕ, List, ◌∷◌, set, Float}
use Rattle.arm.specs.Setters.{with_rows}
use Rattle.lists.specs.Lists.{modify}
use Rattle.refusal.specs.Refusal.{unless_of, lowest}
use Rattle.floats.specs.Floats.{is_finite}
use Rattle.masks.specs.Masks.{is_axis, is_free}
use Rattle.arm.specs.declared.Row.{Row}
use Rattle.arm.specs.declared.RowName.{RowName}
use Rattle.arm.specs.declared.Arm.{Arm}
use Rattle.arm.specs.declared.Edited.{Edited}
use Rattle.arm.specs.Arm.{is_link, mask_at, row_number}
use Rattle.arm.specs.Edits.{edited, dof_at}
use Rattle.arm.specs.HandedIn.{arm_entries}

-- 6: the axis asked for is locked
abbrev pub write_entries : Arm → ℕ → ℕ → Float → List ℕ
write_entries a link axis value =
    unless_of (is_link a link) 4
    ∷ unless_of (is_axis axis) 5
    ∷ unless_of (is_free (mask_at a link) axis) 6
    ∷ unless_of (is_finite value) 7
    ∷ arm_entries a

unfoldable pub write_refusal : Arm → ℕ → ℕ → Float → ℕ
write_refusal a link axis value = lowest (write_entries a link axis value)

unfoldable pub entry_set : ℕ → Float → Row → Row
entry_set at value row = record { entries = set row.entries at value }

-- the arm with the entry of a link's axis set, in the named row
unfoldable pub with_entry : Arm → RowName → ℕ → ℕ → Float → Arm
with_entry a name link axis value = with_rows a (modify (entry_set (dof_at a link axis) value) (row_number name) a.rows)

unfoldable pub row_written : Arm → RowName → ℕ → ℕ → Float → Edited
row_written a name link axis value = edited (write_refusal a link axis value) a (with_entry a name link axis value)
