-- The factors of a matrix, by elimination. A matrix is n by n floats, row after row in one list.
use Rattle.std.specs.Prelude.{Bool, cond, List, [], ◌∷◌, ◌++◌, ℕ, zero, suc, ◌+◌, ◌-◌, ◌*◌, take, drop, get_or, replicate, Float}
use Rattle.std.specs.Float.{nan, binary32}
use Rattle.std.specs.Float.Ieee.{of_bits, sub, mul, div, neg, lt, eq}
use Rattle.lists.specs.Lists.{part, with_part}
use Rattle.floats.specs.Floats.{all_finite, zip_to}

-- ---- rows

-- row i
abbrev pub row : ℕ → ℕ → List Float → List Float
row n i a = part (i * n) n a

-- the entry in row i, column j
abbrev pub entry : ℕ → ℕ → ℕ → List Float → Float
entry n i j a = get_or a (i * n + j) nan

-- r for row i
abbrev pub with_row : ℕ → ℕ → List Float → List Float → List Float
with_row n i r a = with_part (i * n) n r a

-- rows i and j swapped
abbrev pub swapped : ℕ → ℕ → ℕ → List Float → List Float
swapped n i j a = with_row n i (row n j a) (with_row n j (row n i a) a)

-- ---- the pivot

abbrev pub absolute : Float → Float
absolute x = cond (lt x (of_bits binary32 0)) (neg x) x

-- of row p and the c rows from i on, the first of greatest absolute value in column k
unfoldable pub greatest : ℕ → ℕ → List Float → ℕ → ℕ → ℕ → ℕ
greatest n k a zero i p = p
greatest n k a (suc c) i p = greatest n k a c (suc i) (cond (lt (absolute (entry n p k a)) (absolute (entry n i k a))) i p)

-- the pivot's row: the first of greatest absolute value at or below the diagonal
abbrev pub pivot_row : ℕ → ℕ → List Float → ℕ
pivot_row n k a = greatest n k a (n - (k + 1)) (k + 1) k

abbrev pub is_zero : Float → Bool
is_zero x = eq x (of_bits binary32 0)

-- ---- one column

-- factor = entry / pivot
abbrev pub factor_of : ℕ → List Float → List Float → Float
factor_of k pivot r = div binary32 (get_or r k nan) (get_or pivot k nan)

-- x less f times y
abbrev pub less : Float → Float → Float → Float
less f x y = sub binary32 x (mul binary32 f y)

-- a row below the pivot row: factor · pivot row taken away right of column k, columns rising; column k keeps the factor
unfoldable pub reduced_row : ℕ → List Float → List Float → List Float
reduced_row k pivot r =
    let f = factor_of k pivot r in
    take k r ++ (f ∷ zip_to (less f) (drop (k + 1) r) (drop (k + 1) pivot))

-- so the c rows from i on
unfoldable pub reduced : ℕ → ℕ → List Float → ℕ → ℕ → List Float → List Float
reduced n k pivot zero i a = a
reduced n k pivot (suc c) i a = reduced n k pivot c (suc i) (with_row n i (reduced_row k pivot (row n i a)) a)

-- column k with its pivot in row p: the swap, then the rows below
abbrev pub column : ℕ → ℕ → ℕ → List Float → List Float
column n k p a = reduced n k (row n p a) (n - (k + 1)) (k + 1) (swapped n k p a)

-- ---- all columns

-- the trouble that was met, or 0; what the rows have become; and the row that each column swapped in
pub record Factors : Type 0 where
  pub refusal : ℕ
  pub rows : List Float
  pub swaps : List ℕ

abbrev pub factors : ℕ → List Float → List ℕ → Factors
factors k a s = record { refusal = k; rows = a; swaps = s }

-- with trouble there are no factors, but zeros
abbrev pub trouble : ℕ → ℕ → Factors
trouble n k = factors k (replicate (n * n) (of_bits binary32 0)) (replicate n 0)

-- c columns from k on, up to the first trouble: 12 once a value isn't finite, 11 at a pivot that is zero
unfoldable pub columns : ℕ → ℕ → ℕ → List Float → List ℕ → Factors
columns n zero k a s = cond (all_finite a) (factors 0 a s) (trouble n 12)
columns n (suc c) k a s =
    let p = pivot_row n k a in
    let on = columns n c (suc k) (column n k p a) (s ++ (p ∷ [])) in
    cond (all_finite a) (cond (is_zero (entry n p k a)) (trouble n 11) on) (trouble n 12)

abbrev pub factored : ℕ → List Float → Factors
factored n a = columns n n 0 a []
