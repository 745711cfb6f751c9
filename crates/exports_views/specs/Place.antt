-- A row view as a C function gives it: the part that it returns, by where it stands in the asked row.
use Rattle.std.specs.Prelude.{ℕ, zero, suc, List, length, Float}
use Rattle.arm.specs.declared.Arm.{Arm}
use Rattle.arm.specs.Arm.{start_at}
use Rattle.arm_views.specs.declared.Role.{Role}
use Rattle.arm_views.specs.View.{view_answer}
use Rattle.arm_views.specs.declared.RowPart.{RowPart}

-- from a start, as many entries as the part has; refused, the number alone
unfoldable pub placed : ℕ → ℕ → ℕ → RowPart
placed zero start n = record { refusal = 0; offset = start; length = n }
placed (suc k) start n = record { refusal = suc k; offset = 0; length = 0 }

unfoldable pub place_of : Arm → Role → ℕ → List Float → List Float → RowPart
place_of a role link velocities accelerations =
    let s = view_answer a role link velocities accelerations in
    placed s.refusal (start_at a link) (length s.part)
