-- Where the unknowns are finite, so was what the back substitution started from: one test at the end tells of both.
use mathlib.Core.Path.{◌≡◌}
use mathlib.Core.Bool.{true}
use mathlib.Core.List.{List, [], ◌∷◌}
use Prim.Native.Nat.{ℕ, zero, suc, ◌+◌}
use lib.ListN.{drop, get_or, set}
use lib.Ieee.{Float, nan, binary32, mul, div}
use Rattle.lists.proofs.Every.{every_before_set}
use Rattle.floats.specs.Floats.{is_finite, all_finite}
use Rattle.floats.proofs.Sticky.{finite_sub, finite_div}
use Rattle.elimination.specs.Elimination.{row, entry, less}
use Rattle.solve.specs.Solve.{less_products, backward}

pub finite_start : (v : Float) (r x : List Float) → is_finite (less_products v r x) ≡ true → is_finite v ≡ true
finite_start v [] x h = h
finite_start v (a ∷ rs) [] h = h
finite_start v (a ∷ rs) (x ∷ xs) h = finite_sub v (mul binary32 a x) (finite_start (less a v x) rs xs h)

pub finite_backward : (n : ℕ) (a : List Float) (i : ℕ) (x : List Float) → all_finite (backward n a i x) ≡ true → all_finite x ≡ true
unfolding backward
finite_backward n a zero x h = h
finite_backward n a (suc i) x h =
    let v = less_products (get_or x i nan) (drop (i + 1) (row n i a)) (drop (i + 1) x) in
    let q = div binary32 v (entry n i i a) in
    every_before_set is_finite nan i x q (λ f. finite_start (get_or x i nan) (drop (i + 1) (row n i a)) (drop (i + 1) x) (finite_div v (entry n i i a) f)) (finite_backward n a i (set x i q) h)
