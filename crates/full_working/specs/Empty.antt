-- The empty arm: no links, no couplings, +0 over the tables.
use Rattle.std.specs.Prelude.{cond, List, Float}
use Rattle.arm.specs.Empty.{empty_arm}
use Rattle.kinematics.specs.State.{cleared}
use Rattle.full_working.specs.Outcome.{Outcome, says, tables_fit}

unfoldable pub emptied : List Float → Outcome
emptied t = cond (tables_fit t) (says 0 empty_arm (cleared t)) (says 1 empty_arm t)
