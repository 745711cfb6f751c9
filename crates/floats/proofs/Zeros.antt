-- The zeros, and what rounds to one. Assumes nothing.
use mathlib.Core.Path.{◌≡◌, refl}
use mathlib.Core.Bool.{Bool, true, false}
use Prim.Native.Nat.{ℕ, zero, suc, ◌<◌, compare, Ordering}
use native.Mathlib.Nat.{zero-div, zero-mod, mul-one}
use native.Mathlib.Omega.{arith}
use borrow.Author.Tests.{le-leb}
use lib.Dec.{is_le}
use lib.IntN.{pos}
use lib.Ieee.{Float, fin, binary32, nearest, round, size, span, climb, units, odd, of_bits}
use Rattle.floats.specs.Floats.{zero32}

abbrev pub nought : Bool → Float
nought s = fin s 0 (pos 0)

pub zero_is : zero32 ≡ nought false
unfolding of_bits
zero_is = refl

down_to_zero : (o : Ordering) → is_le o ≡ true → nearest 0 o ≡ 0
down_to_zero Ordering.lt h = refl
down_to_zero Ordering.eq h = refl
down_to_zero Ordering.gt h = cc

round-zero : (s : Bool) (d : ℕ) → round binary32 s 0 (suc d) ≡ nought s
unfolding round size span climb units odd
round-zero s d = rw (zero-div (suc d), mul-one (suc d), zero-div (suc d), zero-mod (suc d), down_to_zero (compare 0 (suc d)) (le-leb 0 (suc d) (omega arith)))

pub positive : (n : ℕ) → 0 < n → (s : Bool) → round binary32 s 0 n ≡ nought s
positive zero h s = absurd (omega arith)
positive (suc n) h s = round-zero s n
