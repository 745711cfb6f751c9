-- Constraint rows, by document 01's 'Constraint rows': bounds and right side, the row of any J, and J of one degree of freedom.
use Rattle.std.specs.Prelude.{ℕ, Bool, cond, List, [], ◌∷◌, get_or, set, replicate, Result, Ok, Err, Float}
use Rattle.std.specs.Float.{nan}
use Rattle.std.specs.Float.Ieee.{lt, eq, neg}
use Rattle.floats.specs.Floats.{f32, zero32, one32, plus, minus, times, over, all_finite}
use Rattle.refusal.specs.declared.Refusal.{Refusal}
use Rattle.refusal.specs.Refusal.{number}
use Rattle.unit_multibody_joint.specs.declared.Limits.{Limits}
use Rattle.unit_multibody_joint.specs.declared.Bounds.{Bounds}
use Rattle.unit_multibody_joint.specs.declared.Constraint.{Constraint}
use Rattle.unit_multibody_joint.specs.declared.ConstraintRow.{ConstraintRow}
use Rattle.unit_multibody_joint.specs.Outcome.{Outcome, solved_answer}

-- ---- bounds and right side

-- the greatest finite float either way, and minus zero
abbrev pub max32 : Float
max32 = f32 0x7F7F_FFFF

abbrev pub minus_max32 : Float
minus_max32 = f32 0xFF7F_FFFF

abbrev pub minus_zero32 : Float
minus_zero32 = f32 0x8000_0000

-- x, or +0 unless it is positive
unfoldable pub positive : Float → Float
positive x = cond (lt zero32 x) x zero32

-- −MAX if pos < min, else −0
unfoldable pub lower_bound : Float → Float → Float
lower_bound pos min = cond (lt pos min) minus_max32 minus_zero32

-- MAX if max < pos, else +0
unfoldable pub upper_bound : Float → Float → Float
upper_bound pos max = cond (lt max pos) max32 zero32

-- a limit: rhs = +0 + (p − m)·erp_inv_dt, where p is pos − max and m is min − pos, each +0 unless positive
unfoldable pub limit_bounds : Limits → Bounds
limit_bounds g =
    let p = positive (minus g.position g.max) in
    let m = positive (minus g.min g.position) in
    record {
      lower = lower_bound g.position g.min;
      upper = upper_bound g.position g.max;
      rhs = plus zero32 (times (minus p m) g.erp_inv_dt);
    }

-- friction: bounds ±friction·dt, rhs 0
abbrev pub friction_bounds : Float → Float → Bounds
friction_bounds friction dt = record { lower = neg (times friction dt); upper = times friction dt; rhs = zero32 }

-- ---- the row

-- the reciprocal, and 0 of zero
unfoldable pub inverse : Float → Float
inverse x = cond (eq x zero32) zero32 (over one32 x)

-- cfm_gain = lhs·cfm_coeff; inv_lhs is the inverse of lhs + cfm_gain
unfoldable pub row_of : Bounds → Float → Float → ConstraintRow
row_of b cfm lhs = record {
  refusal = 0;
  lower = b.lower;
  upper = b.upper;
  rhs = b.rhs;
  cfm_gain = times lhs cfm;
  inv_lhs = inverse (plus lhs (times lhs cfm));
}

-- refused: the number, and zeros
abbrev pub refused_row : ℕ → ConstraintRow
refused_row k = record { refusal = k; lower = zero32; upper = zero32; rhs = zero32; cfm_gain = zero32; inv_lhs = zero32 }

-- what C is told of a row
abbrev pub row_as : Result Constraint Refusal → ConstraintRow
row_as (Ok c) = record { refusal = 0; lower = c.lower; upper = c.upper; rhs = c.rhs; cfm_gain = c.cfm_gain; inv_lhs = c.inv_lhs }
row_as (Err r) = refused_row (number r)

abbrev pub finite_row : ConstraintRow → Bool
finite_row r = all_finite (r.lower ∷ r.upper ∷ r.rhs ∷ r.cfm_gain ∷ r.inv_lhs ∷ [])

-- ---- with J and WJ

-- the row of any J, where lhs is what it reads off WJ
unfoldable pub row_answer : Bounds → Float → (List Float → Float) → ℕ → ℕ → List Float → List Float → List Float → List Float → Outcome ConstraintRow
row_answer b cfm lhs = solved_answer refused_row finite_row (λ w. row_of b cfm (lhs w))

-- of one degree of freedom: J is 1 at the DoF, zero elsewhere; lhs = WJ at the DoF
unfoldable pub unit_row : ℕ → ℕ → List Float
unit_row n dof = set (replicate n zero32) dof one32

unfoldable pub lhs_at : ℕ → List Float → Float
lhs_at dof w = get_or w dof nan
