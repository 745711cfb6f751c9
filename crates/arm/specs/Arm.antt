-- An arm, up to its counts: what lies past them is no part of it.
use Rattle.std.specs.Prelude.{ℕ, min, Bool, List, [], map, ltb, take, get_or, Float}
use Rattle.std.specs.Float.{nan}
use Rattle.lists.specs.Lists.{part}
use Rattle.limits.specs.Limits.{link_limit, coupling_limit}
use Rattle.masks.specs.Masks.{dofs_of}
use Rattle.masks.specs.Starts.{total_of, start_of}
use Rattle.planar.specs.declared.Point.{Point}
use Rattle.planar.specs.declared.Pose.{Pose}
use Rattle.multibody_joint.specs.declared.Joint.{Joint}
use Rattle.arm.specs.declared.Link.{Link}
use Rattle.arm.specs.declared.Coupling.{Coupling}
use Rattle.arm.specs.declared.Row.{Row}
use Rattle.arm.specs.declared.RowName.{RowName}
use Rattle.arm.specs.declared.RowName.TheVariants.{Velocities, Damping, Armature, Frictions, Accelerations}
use Rattle.arm.specs.declared.Arm.{Arm}

-- ---- links and couplings

-- how many links count: never more than fit
abbrev pub live_links : Arm → ℕ
live_links a = min a.link_count link_limit

-- what is read past the end of the list
abbrev pub no_link : Link
no_link =
    let p : Point = record { x = nan; y = nan } in
    let q : Pose = record { re = nan; im = nan; x = nan; y = nan } in
    let j : Joint = record { locked = 0; limit = 0; motor = 0; frame1 = q; frame2 = q; coordinates = []; rotation = record { re = nan; im = nan }; stiffness = []; rest = [] } in
    record { tag = 0; parent = 0; joint = j; centre = p; world = q; shift02 = p; shift23 = p }

abbrev pub link_at : List Link → ℕ → Link
link_at ls j = get_or ls j no_link

unfoldable pub links_of : Arm → List Link
links_of a = take (live_links a) a.links

unfoldable pub couplings_of : Arm → List Coupling
couplings_of a = take (min a.coupling_count coupling_limit) a.couplings

abbrev pub no_coupling : Coupling
no_coupling = record { link1 = 0; axis1 = 0; link2 = 0; axis2 = 0; coefficient = nan; offset = nan }

abbrev pub coupling_at : Arm → ℕ → Coupling
coupling_at a i = get_or a.couplings i no_coupling

-- a number that is below the link count
abbrev pub is_link : Arm → ℕ → Bool
is_link a link = ltb link a.link_count

abbrev pub tag_of : Link → ℕ
tag_of l = l.tag

abbrev pub parent_of : Link → ℕ
parent_of l = l.parent

abbrev pub locked_of : Link → ℕ
locked_of l = l.joint.locked

unfoldable pub tags_of : Arm → List ℕ
tags_of a = map tag_of (links_of a)

unfoldable pub parents_of : Arm → List ℕ
parents_of a = map parent_of (links_of a)

-- ---- degrees of freedom

-- the locked masks
unfoldable pub masks_of : Arm → List ℕ
masks_of a = map locked_of (links_of a)

-- the locked mask of a link; where there is no such link, all is locked
unfoldable pub mask_at : Arm → ℕ → ℕ
mask_at a link = get_or (masks_of a) link 7

-- the start of a link: the sum of all earlier links' DoFs
unfoldable pub start_at : Arm → ℕ → ℕ
start_at a link = start_of (masks_of a) link

unfoldable pub dof_count_of : Arm → ℕ
dof_count_of a = total_of (masks_of a)

-- ---- rows

abbrev pub row_number : RowName → ℕ
row_number Velocities = 0
row_number Damping = 1
row_number Armature = 2
row_number Frictions = 3
row_number Accelerations = 4

abbrev pub entries_of : Row → List Float
entries_of row = row.entries

-- a row's first n entries
abbrev pub entries_to : ℕ → Row → List Float
entries_to n row = take n (entries_of row)

-- all entries of a row, those past the DoF count too
unfoldable pub row_in : Arm → RowName → List Float
row_in a name = get_or (map entries_of a.rows) (row_number name) []

-- a link's own part of a row: from its start, as many entries as it has DoFs
unfoldable pub own_part : Arm → ℕ → List Float → List Float
own_part a link row = part (start_at a link) (dofs_of (mask_at a link)) row

-- the rows, up to the DoF count
unfoldable pub rows_of : Arm → List (List Float)
rows_of a = map (entries_to (dof_count_of a)) a.rows
