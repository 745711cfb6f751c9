-- What clearing the tables alone answers: the refusal's number, 0 for none, and what the memory then holds.
use Rattle.std.specs.Prelude.{ℕ, cond, List, Float}
use Rattle.kinematics.specs.State.{cleared}
use Rattle.full_working.specs.Outcome.{tables_fit}

pub record Cleared : Type 0 where
  pub refusal : ℕ
  pub memory : List Float

abbrev pub cleared_as : ℕ → List Float → Cleared
cleared_as k t = record { refusal = k; memory = t }

-- +0 over the tables; refused, the memory as it was
unfoldable pub tables_cleared : List Float → Cleared
tables_cleared t = cond (tables_fit t) (cleared_as 0 (cleared t)) (cleared_as 1 t)
