-- A row view: a link's own part of the velocities or of the accelerations, out of two lent rows.
use Rattle.std.specs.Prelude.{ℕ, zero, suc, ◌&&◌, List, [], ◌∷◌, leb, length, Float, Result, Ok, Err}
use Rattle.std.specs.Borrow.{Bor}
use Rattle.refusal.specs.declared.Refusal.{Refusal}
use Rattle.refusal.specs.Refusal.{number, unless_of, lowest}
use Rattle.arm.specs.declared.Arm.{Arm}
use Rattle.arm.specs.Arm.{is_link, dof_count_of, own_part}
use Rattle.arm.specs.HandedIn.{arm_entries}
use Rattle.arm_views.specs.declared.Role.{Role}
use Rattle.arm_views.specs.declared.Role.TheVariants.{Velocities, Accelerations}

-- the part that is returned, and the number that goes out
pub record Seen : Type 0 where
  pub part : List Float
  pub refusal : ℕ

abbrev pub seen : List Float → ℕ → Seen
seen part refusal = record { part = part; refusal = refusal }

-- what is seen of what a call answers: refused, the empty part
abbrev pub seen_as : Result (Bor (List Float)) Refusal → Seen
seen_as (Ok part) = seen part.now 0
seen_as (Err r) = seen [] (number r)

-- the row that is asked for
abbrev pub row_of : Role → List Float → List Float → List Float
row_of Velocities velocities accelerations = velocities
row_of Accelerations velocities accelerations = accelerations

-- both rows are at least as long as the DoF count; their lengths are given
abbrev pub view_entries : Arm → ℕ → ℕ → ℕ → List ℕ
view_entries a link velocities accelerations =
    unless_of (leb (dof_count_of a) velocities && leb (dof_count_of a) accelerations) 1
    ∷ unless_of (is_link a link) 4
    ∷ arm_entries a

unfoldable pub view_refusal : Arm → ℕ → ℕ → ℕ → ℕ
view_refusal a link velocities accelerations = lowest (view_entries a link velocities accelerations)

-- refused: the empty part
unfoldable pub view_by : ℕ → List Float → Seen
view_by zero part = seen part 0
view_by (suc k) part = seen [] (suc k)

unfoldable pub view_answer : Arm → Role → ℕ → List Float → List Float → Seen
view_answer a role link velocities accelerations =
    view_by (view_refusal a link (length velocities) (length accelerations)) (own_part a link (row_of role velocities accelerations))
