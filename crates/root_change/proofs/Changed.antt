-- A row without its first three entries, and the arm with its new root and rows in their places. Assumes nothing.
use Prim.Native.Nat.{◌-◌}
use mathlib.Core.Path.{◌≡◌, ap, ◌∙◌}
use mathlib.Core.List.{List, ◌++◌}
use native.Mathlib.Omega.{arith}
use lib.ListN.{length, take, drop, set, length-drop}
use lib.Seq.{take_all}
use lib.Ieee.{Float}
use Rattle.limits.specs.Limits.{dof_limit}
use Rattle.lists.proofs.Modified.{set-modify}
use Rattle.multibody_joint.specs.Joint.{zeros}
use Rattle.arm.proofs.Relinked.{with_parts}
use Rattle.arm.specs.Arm.{no_link, link_at}
use Rattle.arm.specs.declared.Link.{Link}
use Rattle.arm.specs.declared.Row.{Row}
use Rattle.arm.specs.declared.Arm.{Arm}
use Rattle.root_change.specs.declared.Root.{Root}
use Rattle.root_change.specs.Root.{narrowed, root_link, root_rows, root_changed}

pub is_narrowed : (row : Row) → length row.entries ≡ dof_limit → (z : List Float) → z ≡ take (dof_limit - 3) (drop 3 row.entries)
    → ◌≡◌ {A = Row} (record { entries = z ++ zeros }) (narrowed row)
unfolding narrowed
is_narrowed row whole z e =
    ap (λ (l : List Float). record { entries = l ++ zeros }) (e ∙ take_all (dof_limit - 3) (drop 3 row.entries) (omega (arith, length-drop 3 row.entries)))

pub changed_is : (a : Arm) (root : Root) (l : Link) (rows : List Row) → rows ≡ root_rows a root → l ≡ root_link root (link_at a.links 0)
    → with_parts a (set a.links 0 l) rows ≡ root_changed a root
unfolding root_changed
changed_is a root l rows e f = rw (e, set-modify (root_link root) a.links 0 no_link l f)
