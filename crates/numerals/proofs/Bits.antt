-- The bits of a float: what equals itself is no NaN, and the NaN alone does not; which patterns are the NaN's. Assumes nothing.
use Prim.Native.Nat.{ℕ, ◌%◌, ◌≤◌, ◌<◌}
use mathlib.Core.Path.{◌≡◌, refl, sym, ◌∙◌}
use mathlib.Core.Bool.{true, not, false≢true}
use borrow.Author.Tests.{lt-ltb, le-ltb}
use lib.Dec.{T}
use lib.Ieee.{Float, nan, inf, fin, binary32, is_nan, nan_bits, of_bits, to_bits}
use lib.Ieee.Bits.{nan_bits_is, nan_bits_above}

only_nan : (x : Float) → is_nan x ≡ true → x ≡ nan
unfolding is_nan
only_nan nan e = refl
only_nan (inf s) e = absurd (false≢true e)
only_nan (fin s m k) e = absurd (false≢true e)

-- the NaN's own pattern, as every pattern of a NaN is read
nan-of_bits : (b : ℕ) → 2139095040 < b % 2147483648 → of_bits binary32 b ≡ nan
nan-of_bits b h = only_nan (of_bits binary32 b) (sym (nan_bits_is binary32 b) ∙ nan_bits_above binary32 b ∙ lt-ltb 2139095040 (b % 2147483648) h)

pub nan_by_bits : (b : ℕ) → 2139095040 < b % 2147483648 → of_bits binary32 0x7FC0_0000 ≡ of_bits binary32 b
unfolding of_bits
nan_by_bits b h = sym (nan-of_bits b h)

pub bits_of_nan : (x : Float) → is_nan x ≡ true → 0x7FC0_0000 ≡ to_bits binary32 x
unfolding to_bits
bits_of_nan x e = rw (only_nan x e)

pub other_of_bits : (b : ℕ) → b % 2147483648 ≤ 2139095040 → T (not (nan_bits binary32 b))
other_of_bits b h = rw (nan_bits_above binary32 b, le-ltb 2139095040 (b % 2147483648) h) tt
