-- j of a force on a link, wj its solve, and the two sums, by document 01's 'Constraint rows'.
use Rattle.std.specs.Prelude.{ℕ, zero, suc, ◌+◌, ◌*◌, Bool, ◌&&◌, List, [], ◌∷◌, ◌++◌, get_or, Result, Ok, Err, Float}
use Rattle.std.specs.Float.{nan}
use Rattle.limits.specs.Limits.{dof_limit}
use Rattle.floats.specs.Floats.{zero32, plus, times, all_finite, dot}
use Rattle.refusal.specs.declared.Refusal.{Refusal}
use Rattle.refusal.specs.Refusal.{number}
use Rattle.unit_multibody_joint.specs.Outcome.{Outcome, solved_answer}
use Rattle.fill_jacobians.specs.declared.Force.{Force}
use Rattle.fill_jacobians.specs.declared.Products.{Products}
use Rattle.fill_jacobians.specs.declared.Sums.{Sums}

-- ---- j

-- J0·fx + J1·fy + J2·torque, in one column of a block
abbrev pub column_of : Force → List Float → ℕ → Float
column_of f b c =
    plus (plus (times (get_or b c nan) f.x) (times (get_or b (dof_limit + c) nan) f.y)) (times (get_or b (2 * dof_limit + c) nan) f.torque)

-- the first n columns
unfoldable pub force_row : Force → List Float → ℕ → List Float
force_row f b zero = []
force_row f b (suc c) = force_row f b c ++ (column_of f b c ∷ [])

-- ---- the sums

-- j·wj and j·velocities
unfoldable pub sums_of : List Float → List Float → List Float → Sums
sums_of row solved velocities = record { refusal = 0; j_wj = dot row solved; j_velocities = dot row velocities }

-- refused: the number, and zeros
abbrev pub refused_sums : ℕ → Sums
refused_sums k = record { refusal = k; j_wj = zero32; j_velocities = zero32 }

-- what C is told of the products
abbrev pub sums_as : Result Products Refusal → Sums
sums_as (Ok p) = record { refusal = 0; j_wj = p.j_wj; j_velocities = p.j_velocities }
sums_as (Err r) = refused_sums (number r)

abbrev pub finite_sums : Sums → Bool
finite_sums s = all_finite (s.j_wj ∷ s.j_velocities ∷ [])

-- wj solves M·wj = j; 12 also if j isn't finite
unfoldable pub sums_answer : List Float → List Float → ℕ → ℕ → List Float → List Float → List Float → Outcome Sums
sums_answer row velocities k n mass j wj = solved_answer refused_sums (λ s. all_finite row && finite_sums s) (λ w. sums_of row w velocities) k n row mass j wj
