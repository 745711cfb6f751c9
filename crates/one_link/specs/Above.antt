-- What a call on one link reads of the tables.
use Rattle.std.specs.Prelude.{ℕ, zero, suc, Bool, true, List, Float}
use Rattle.floats.specs.Floats.{all_finite}
use Rattle.kinematics.specs.Blocks.{block_at}

-- rule 7 on the tables: a link's parent's block is read whole, as far as it is lent; a first link reads none
unfoldable pub above_finite : ℕ → ℕ → List Float → Bool
above_finite zero parent t = true
above_finite (suc link) parent t = all_finite (block_at parent t)
