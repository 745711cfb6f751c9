-- What inner functions are shown to do: no entry point's promise cites it.
use Rattle.std.specs.Prelude.{ℕ, Bool}
use Rattle.floats.specs.Floats.{all_finite}
use Rattle.arm.specs.declared.Row.{Row}
use Rattle.arm.specs.Arm.{entries_to}

-- a row's first n entries are finite
unfoldable pub row_finite : ℕ → Row → Bool
row_finite n row = all_finite (entries_to n row)
