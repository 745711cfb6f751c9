-- j: the columns done are its front, and what is summed with it. Assumes nothing.
use Prim.Native.Nat.{ℕ, zero, suc, ◌+◌, ◌≤◌, ◌<◌}
use mathlib.Core.Path.{◌≡◌, refl, sym, ap, ◌∙◌}
use mathlib.Core.List.{List, [], ◌∷◌}
use native.Mathlib.Numerals.{add-one}
use native.Mathlib.Omega.{arith}
use lib.ListN.{length, take, set, length-append}
use lib.Seq.{take-suc-set, take_all}
use lib.Ieee.{Float}
use Rattle.floats.specs.Floats.{zero32, plus, times, sum_from, dot}
use Rattle.fill_jacobians.specs.declared.Force.{Force}
use Rattle.fill_jacobians.specs.Sums.{column_of, force_row, sums_of}

module _ (f : Force) (b : List Float) where
  pub force_length : (n : ℕ) → length (force_row f b n) ≡ n
  unfolding force_row
  force_length zero = refl
  force_length (suc n) = length-append (force_row f b n) (column_of f b n ∷ []) ∙ omega (arith, force_length n)

  pub force_more : (row : List Float) (c : ℕ) (v : Float) → c < length row → take c row ≡ force_row f b c → v ≡ column_of f b c
      → take (c + 1) (set row c v) ≡ force_row f b (c + 1)
  unfolding force_row
  force_more row c v h e ev = rw (add-one c) (take-suc-set row c v h ∙ rw (e, ev))

  pub force_all : (row : List Float) (c n : ℕ) → length row ≡ n → n ≤ c → c ≤ n → take c row ≡ force_row f b c → row ≡ force_row f b n
  force_all row c n l h g e = let z : c ≡ n = omega arith in sym (take_all c row (omega arith)) ∙ e ∙ ap (force_row f b) z

-- ---- no product is summed past the end of j

sum-front : (v : Float) (x y : List Float) → sum_from v x (take (length x) y) ≡ sum_from v x y
sum-front v [] y = refl
sum-front v (a ∷ x) [] = refl
sum-front v (a ∷ x) (b ∷ y) = sum-front (plus v (times a b)) x y

pub sums_front : (row z e : List Float) → sums_of row z e ≡ sums_of row (take (length row) z) (take (length row) e)
unfolding sums_of dot
sums_front row z e = rw (sum-front zero32 row z, sum-front zero32 row e)
