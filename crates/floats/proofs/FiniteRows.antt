-- Zeros are finite, one and in a row. Assumes nothing.
use mathlib.Core.Path.{◌≡◌, refl}
use mathlib.Core.Bool.{true}
use Prim.Native.Nat.{ℕ}
use lib.ListN.{replicate}
use lib.Ieee.{of_bits}
use Rattle.lists.proofs.Every.{every_replicate}
use Rattle.std.specs.Float.{float_is_finite}
use Rattle.floats.specs.Floats.{zero32, is_finite, all_finite}

pub zero-finite : is_finite zero32 ≡ true
unfolding of_bits float_is_finite
zero-finite = refl

pub zeros_finite : (n : ℕ) → all_finite (replicate n zero32) ≡ true
zeros_finite n = every_replicate is_finite n zero32 zero-finite
