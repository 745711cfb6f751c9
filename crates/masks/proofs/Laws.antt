-- How many axes are free, for callers: at most three in all, and below a free axis fewer than in all. Assumes nothing.
use native.Mathlib.Decide.{dec_lt}
use borrow.Author.Tests.{lt-leb}
use Rattle.std.specs.Int.{from_bool}
use Rattle.std.proofs.Common.{ℕ, zero, suc, min, ◌+◌, ◌≤◌, ◌<◌, ◌≡◌, ◌∙◌, refl, ap, sym, Bool, true, false, not, cond, [], ◌∷◌, length, add-one, arith, Result, Ok, Err}
use Rattle.refusal.specs.declared.Refusal.{Refusal}
use Rattle.masks.specs.declared.Axis.{Axis}
use Rattle.masks.specs.declared.Axis.TheVariants.{X, Y, Angle}
use Rattle.masks.specs.Masks.{is_axis, one, is_free, dofs_below, dofs_of, bit_of}
use Rattle.masks.specs.Axis.{axis_number, NamesAxis}

pub one_le : (b : Bool) → one b ≤ 1
one_le true = omega arith
one_le false = omega arith

-- the library's number of a test
pub from_one : (b : Bool) → from_bool b ≡ one b
from_one true = refl
from_one false = refl

pub from_le : (b : Bool) → from_bool b ≤ 1
from_le true = omega arith
from_le false = omega arith

-- a list of one, if it holds
pub one_entry : {A : Type 0} (x : A) (b : Bool) → length (cond b (x ∷ []) []) ≡ one b
one_entry x true = refl
one_entry x false = refl

-- ---- an axis, and the number that names it

pub number_axis : (a : Axis) → is_axis (axis_number a) ≡ true
number_axis X = refl
number_axis Y = refl
number_axis Angle = refl

-- free is the axis that a number names, where its bit is clear
pub free_named : (m n : ℕ) (r : Result Axis Refusal) (b : Bool) → NamesAxis n r
    → ((a : Axis) → r ≡ Ok a → b ≡ not (bit_of m (axis_number a))) → ((e : Refusal) → r ≡ Err e → b ≡ false) → b ≡ is_free m n
unfolding is_free
free_named m n (Ok a) b k f g = rw (f a refl, sym k, number_axis a)
free_named m n (Err e) b k f g = rw (g e refl, k.1)

-- ---- along the axes

-- one axis more
pub below_suc : (m a : ℕ) → dofs_below m (suc a) ≡ dofs_below m a + one (is_free m a)
unfolding dofs_below
below_suc m a = refl

-- an axis above 2 is none
pub no_axis : (m a : ℕ) → 3 ≤ a → is_free m a ≡ false
unfolding is_free
no_axis m a h = rw (lt-leb a 2 h)

pub below_le_axis : (m a : ℕ) → dofs_below m a ≤ a
unfolding dofs_below
below_le_axis m zero = omega arith
below_le_axis m (suc a) = omega (arith, below_le_axis m a, one_le (is_free m a))

-- beyond the three axes no more are counted
pub below_past : (m k : ℕ) → dofs_below m (suc (suc (suc k))) ≡ dofs_of m
unfolding dofs_below dofs_of
below_past m zero = refl
below_past m (suc k) = omega (arith, below_past m k, ap one (no_axis m (suc (suc (suc k))) (omega arith)))

-- ---- in all

-- a fixed root has none, a free one all
pub fixed_dofs : dofs_of 7 ≡ 0
unfolding dofs_of dofs_below is_free bit_of
fixed_dofs = refl

pub free_dofs : dofs_of 0 ≡ 3
unfolding dofs_of dofs_below is_free bit_of
free_dofs = refl

pub dofs_le : (m : ℕ) → dofs_of m ≤ 3
unfolding dofs_of
dofs_le m = below_le_axis m 3

-- a free axis' DoF is one of the mask's: it stands at the count of those below
pub below-le : (m a : ℕ) → dofs_below m a + one (is_free m a) ≤ dofs_of m
unfolding dofs_below dofs_of
below-le m zero = omega arith
below-le m (suc zero) = omega arith
below-le m (suc (suc zero)) = omega arith
below-le m (suc (suc (suc k))) = omega (arith, below_past m k, ap one (no_axis m (suc (suc (suc k))) (omega arith)))

pub below_free : (m a : ℕ) → is_free m a ≡ true → dofs_below m a < dofs_of m
below_free m a h = omega (arith, below-le m a, ap one h)

-- ---- as a loop counts them, of the three

pub below_none : (m : ℕ) → 0 ≡ dofs_below m 0
unfolding dofs_below
below_none m = refl

pub below_next : (m a count more : ℕ) → count ≡ dofs_below m a → more ≡ from_bool (is_free m a) → count + more ≡ dofs_below m (a + 1)
below_next m a count more p q = rw (add-one, below_suc m a, p, q, from_one)

-- past the three no more are counted
pub below_three : (m a k : ℕ) → k ≡ min a 3 → dofs_below m k ≡ dofs_below m a
unfolding dofs_of
below_three m a k e = elim (dec_lt a 3) [
  | yes l ↦ ap (dofs_below m) (omega arith)
  | no l ↦ let p : k ≡ 3 = omega arith in ap (dofs_below m) p ∙ past a (omega arith)
]
  where
    past : (a : ℕ) → 3 ≤ a → dofs_below m 3 ≡ dofs_below m a
    past zero h = absurd (omega arith)
    past (suc zero) h = absurd (omega arith)
    past (suc (suc zero)) h = absurd (omega arith)
    past (suc (suc (suc k))) h = sym (below_past m k)
