-- The start of a link, and the DoF count of an arm.
use Rattle.std.specs.Prelude.{ℕ, List, ◌∷◌}
use Rattle.refusal.specs.Counted.{counted_of}
use Rattle.refusal.specs.declared.Counted.{Counted}
use Rattle.refusal.specs.Refusal.{unless_of, lowest}
use Rattle.arm.specs.declared.Arm.{Arm}
use Rattle.arm.specs.Arm.{is_link, start_at, dof_count_of}
use Rattle.arm.specs.HandedIn.{arm_refusal, arm_entries}

abbrev pub start_entries : Arm → ℕ → List ℕ
start_entries a link = unless_of (is_link a link) 4 ∷ arm_entries a

unfoldable pub start_refusal : Arm → ℕ → ℕ
start_refusal a link = lowest (start_entries a link)

unfoldable pub start_answer : Arm → ℕ → Counted
start_answer a link = counted_of (start_refusal a link) (start_at a link)

unfoldable pub dofs_answer : Arm → Counted
dofs_answer a = counted_of (arm_refusal a) (dof_count_of a)
