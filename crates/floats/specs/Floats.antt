-- Floats, one and in a row. Each operation is that of f32, rounded once.
use Rattle.std.specs.Prelude.{ℕ, Bool, List, [], ◌∷◌, get_or, Float}
use Rattle.std.specs.Float.{binary32, float_is_finite}
use Rattle.std.specs.Float.Ieee.{of_bits, add, sub, mul, div}
use Rattle.lists.specs.Tests.{every}

-- the f32 of these bits
abbrev pub f32 : ℕ → Float
f32 b = of_bits binary32 b

abbrev pub zero32 : Float
zero32 = f32 0

abbrev pub one32 : Float
one32 = f32 0x3F80_0000

abbrev pub plus : Float → Float → Float
plus x y = add binary32 x y

abbrev pub minus : Float → Float → Float
minus x y = sub binary32 x y

abbrev pub times : Float → Float → Float
times x y = mul binary32 x y

abbrev pub over : Float → Float → Float
over x y = div binary32 x y

-- neither an infinity nor a NaN
abbrev pub is_finite : Float → Bool
is_finite x = float_is_finite x

abbrev pub all_finite : List Float → Bool
all_finite xs = every is_finite xs

-- what stands at k, and +0 past the end
unfoldable pub entry_of : List Float → ℕ → Float
entry_of row k = get_or row k zero32

-- f at each entry of d with the entry of s at the same place; where s has none, d's entry stays
abbrev pub zip_to : (Float → Float → Float) → List Float → List Float → List Float
zip_to f [] ys = []
zip_to f (x ∷ xs) [] = x ∷ xs
zip_to f (x ∷ xs) (y ∷ ys) = f x y ∷ zip_to f xs ys

-- the products of two rows, added to v one after the other
abbrev pub sum_from : Float → List Float → List Float → Float
sum_from v [] ys = v
sum_from v (x ∷ xs) [] = v
sum_from v (x ∷ xs) (y ∷ ys) = sum_from (plus v (times x y)) xs ys

-- summed rising from +0
unfoldable pub dot : List Float → List Float → Float
dot xs ys = sum_from zero32 xs ys
