-- The full working: all links rising, all of the tables rewritten.
use Rattle.std.specs.Prelude.{ℕ, ◌≡◌, List, ◌∷◌, Float}
use Rattle.refusal.specs.Refusal.{unless_of, lowest}
use Rattle.arm.specs.declared.Arm.{Arm}
use Rattle.arm.specs.HandedIn.{arm_entries}
use Rattle.full_working.specs.Outcome.{Outcome, says, unless_refused, tables_fit, worked_all}

unfoldable pub full_refusal : Arm → List Float → ℕ
full_refusal a t = lowest (unless_of (tables_fit t) 1 ∷ arm_entries a)

unfoldable pub full_working : Arm → List Float → Outcome
full_working a t = unless_refused (full_refusal a t) a t (worked_all a a t)

-- what is kept is what the full working gives: it is not refused, and changes no bit
abbrev pub Settled : Arm → List Float → Type 0
Settled a t = full_working a t ≡ says 0 a t
