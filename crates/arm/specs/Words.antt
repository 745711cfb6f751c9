-- The words of the theorems about an arm's degrees of freedom.
use Rattle.std.specs.Prelude.{ℕ, ◌<◌, ◌≡◌, true, length}
use Rattle.masks.specs.Masks.{is_free}
use Rattle.arm.specs.declared.Arm.{Arm}
use Rattle.arm.specs.Arm.{links_of, mask_at}

-- a link that counts, with an axis that is free: it has an entry in each row
pub record FreeAxis (a : Arm) (link axis : ℕ) : Type 0 where
  pub link_there : link < length (links_of a)
  pub free : is_free (mask_at a link) axis ≡ true
