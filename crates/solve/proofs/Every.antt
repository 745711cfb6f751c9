-- 12 covers every value that a substitution works out: where what is kept of a place is finite, so is each product and each difference before it.
use mathlib.Core.Path.{◌≡◌, refl}
use mathlib.Core.Bool.{true}
use mathlib.Core.List.{List, [], ◌∷◌}
use lib.Ieee.{Float, binary32, mul, div}
use Rattle.lists.proofs.Bools.{both}
use Rattle.floats.specs.Floats.{is_finite, all_finite}
use Rattle.floats.proofs.Sticky.{finite_taken, finite_div}
use Rattle.elimination.specs.Elimination.{less}
use Rattle.solve.specs.Solve.{less_products}
use Rattle.solve.proofs.Sticky.{finite_start}

-- each product, and what is left once it is taken away
abbrev pub steps : Float → List Float → List Float → List Float
steps v [] xs = []
steps v (a ∷ rs) [] = []
steps v (a ∷ rs) (x ∷ xs) = mul binary32 a x ∷ (less a v x ∷ steps (less a v x) rs xs)

pub every_step : (v : Float) (r x : List Float) → is_finite (less_products v r x) ≡ true → all_finite (steps v r x) ≡ true
every_step v [] x h = refl
every_step v (a ∷ rs) [] h = refl
every_step v (a ∷ rs) (x ∷ xs) h =
    let d = less a v x in
    let g = finite_start d rs xs h in
    both (finite_taken v (mul binary32 a x) g) (both g (every_step d rs xs h))

-- in the back substitution what is kept is a quotient
pub every_step_over : (v d : Float) (r x : List Float) → is_finite (div binary32 (less_products v r x) d) ≡ true → all_finite (steps v r x) ≡ true
every_step_over v d r x h = every_step v r x (finite_div (less_products v r x) d h)
