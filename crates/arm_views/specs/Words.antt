-- The words of the theorem about row views.
use Rattle.std.specs.Prelude.{ℕ, ◌+◌, ◌<◌, ◌≡◌, true, List, length, get_or, Float}
use Rattle.std.specs.Float.{nan}
use Rattle.masks.specs.Masks.{is_free, dofs_below, dofs_of}
use Rattle.arm.specs.declared.Arm.{Arm}
use Rattle.arm.specs.Arm.{mask_at, start_at}
use Rattle.arm.specs.Edits.{dof_at}

-- a part holds exactly a link's entries of a row: one for each DoF, the row's from the link's start on, each free axis' own among them
pub record OwnEntries (a : Arm) (link : ℕ) (row part : List Float) : Type 0 where
  pub count : length part ≡ dofs_of (mask_at a link)
  pub each : (k : ℕ) → k < dofs_of (mask_at a link) → get_or part k nan ≡ get_or row (start_at a link + k) nan
  pub of_axis : (axis : ℕ) → is_free (mask_at a link) axis ≡ true → get_or part (dofs_below (mask_at a link) axis) nan ≡ get_or row (dof_at a link axis) nan
