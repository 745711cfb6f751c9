-- An edit of an arm, and what the call that makes it answers.
use Rattle.std.specs.Prelude.{ℕ, zero, suc, ◌+◌, Result, Ok, Err}
use Rattle.refusal.specs.declared.Refusal.{Refusal}
use Rattle.refusal.specs.Refusal.{number, code}
use Rattle.masks.specs.Masks.{dofs_below}
use Rattle.arm.specs.declared.Arm.{Arm}
use Rattle.arm.specs.declared.Edited.{Edited}
use Rattle.arm.specs.Arm.{mask_at, start_at}
use Rattle.arm.specs.Empty.{empty_arm}

-- refused: the number and the arm as it came; else 0 and the new arm
unfoldable pub edited : ℕ → Arm → Arm → Edited
edited zero old new = record { refusal = 0; arm = new }
edited (suc k) old new = record { refusal = suc k; arm = old }

unfoldable pub dof_at : Arm → ℕ → ℕ → ℕ
dof_at a link axis = start_at a link + dofs_below (mask_at a link) axis

-- what C is told of an arm that a call left, and of what the call answered
abbrev pub edited_as : Arm → Result Unit Refusal → Edited
edited_as a r = record { refusal = code r; arm = a }

-- what C is told of an arm that a call makes; refused, it is the empty one
abbrev pub made_as : Result Arm Refusal → Edited
made_as (Ok a) = record { refusal = 0; arm = a }
made_as (Err r) = record { refusal = number r; arm = empty_arm }
