-- An axis as inner functions take it, and its number.
use Rattle.std.specs.Prelude.{ℕ, ◌≡◌, false, Result, Ok, Err}
use Rattle.refusal.specs.declared.Refusal.{Refusal}
use Rattle.refusal.specs.declared.Refusal.TheVariants.{Mask}
use Rattle.masks.specs.declared.Axis.{Axis}
use Rattle.masks.specs.declared.Axis.TheVariants.{X, Y, Angle}
use Rattle.masks.specs.Masks.{is_axis}

-- an axis' number
abbrev pub axis_number : Axis → ℕ
axis_number X = 0
axis_number Y = 1
axis_number Angle = 2

-- the axis of a number, or that it is none
abbrev pub NamesAxis : ℕ → Result Axis Refusal → Type 0
NamesAxis n (Ok axis) = axis_number axis ≡ n
NamesAxis n (Err refusal) = (refusal ≡ Mask) × (is_axis n ≡ false)
