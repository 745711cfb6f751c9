-- 12 covers every value that a column works out: where what is kept of a row is finite, so are its factor and each product taken away.
use mathlib.Core.Path.{◌≡◌, refl}
use mathlib.Core.Bool.{true}
use mathlib.Core.List.{List, [], ◌∷◌}
use Prim.Native.Nat.{ℕ, ◌+◌}
use lib.ListN.{take, drop}
use lib.Ieee.{Float, binary32, mul}
use Rattle.lists.proofs.Every.{every_right}
use Rattle.lists.proofs.Bools.{both_hold, both}
use Rattle.floats.specs.Floats.{is_finite, all_finite, zip_to}
use Rattle.floats.proofs.Sticky.{finite_taken}
use Rattle.elimination.specs.Elimination.{factor_of, less, reduced_row}

-- f times each entry of s that stands beside one of d
abbrev pub products : Float → List Float → List Float → List Float
products f [] ys = []
products f (x ∷ xs) [] = []
products f (x ∷ xs) (y ∷ ys) = mul binary32 f y ∷ products f xs ys

products_finite : (f : Float) (d s : List Float) → all_finite (zip_to (less f) d s) ≡ true → all_finite (products f d s) ≡ true
products_finite f [] s h = refl
products_finite f (x ∷ xs) [] h = refl
products_finite f (x ∷ xs) (y ∷ ys) h =
    both (finite_taken x (mul binary32 f y) (both_hold (is_finite (less f x y)) _ h).0) (products_finite f xs ys (both_hold (is_finite (less f x y)) _ h).1)

pub every_value : (k : ℕ) (pivot r : List Float) → all_finite (reduced_row k pivot r) ≡ true
    → (is_finite (factor_of k pivot r) ≡ true) × (all_finite (products (factor_of k pivot r) (drop (k + 1) r) (drop (k + 1) pivot)) ≡ true)
unfolding reduced_row
every_value k pivot r h =
    let f = factor_of k pivot r in
    let t = every_right is_finite (take k r) _ h in
    ((both_hold (is_finite f) _ t).0, products_finite f (drop (k + 1) r) (drop (k + 1) pivot) (both_hold (is_finite f) _ t).1)
