-- The solve: for a matrix a and a right side b, the x with a · x = b, by the factors of a.
use Rattle.std.specs.Prelude.{cond, ◌&&◌, List, [], ◌∷◌, ◌++◌, ℕ, zero, suc, ◌+◌, ◌*◌, length, take, drop, get_or, set, leb, ltb, eqb, Float}
use Rattle.std.specs.Float.{nan, binary32}
use Rattle.std.specs.Float.Ieee.{div}
use Rattle.limits.specs.Limits.{dof_limit}
use Rattle.refusal.specs.Refusal.{lowest, unless_of}
use Rattle.floats.specs.Floats.{all_finite}
use Rattle.elimination.specs.Elimination.{row, entry, less, factored}

-- ---- the swaps

-- places p and q swapped; a place q that isn't there changes nothing
abbrev pub exchanged : ℕ → ℕ → List Float → List Float
exchanged p q b = cond (ltb q (length b)) (set (set b p (get_or b q nan)) q (get_or b p nan)) b

-- the swaps of the places from k on, in the order in which they were made
unfoldable pub permuted : ℕ → List ℕ → List Float → List Float
permuted k [] b = b
permuted k (p ∷ s) b = permuted (suc k) s (exchanged k p b)

-- ---- the substitutions

-- v less the products of a row with the places beside it, indices rising
abbrev pub less_products : Float → List Float → List Float → Float
less_products v [] xs = v
less_products v (a ∷ rs) [] = v
less_products v (a ∷ rs) (x ∷ xs) = less_products (less a v x) rs xs

-- forward: of the c places from i on each less the products left of the diagonal
unfoldable pub forward : ℕ → List Float → ℕ → ℕ → List Float → List Float
forward n a zero i x = x
forward n a (suc c) i x = forward n a c (suc i) (set x i (less_products (get_or x i nan) (take i (row n i a)) (take i x)))

-- back: of the places below i, the last first, each less the products right of the diagonal, over the diagonal
unfoldable pub backward : ℕ → List Float → ℕ → List Float → List Float
backward n a zero x = x
backward n a (suc i) x =
    let v = less_products (get_or x i nan) (drop (i + 1) (row n i a)) (drop (i + 1) x) in
    backward n a i (set x i (div binary32 v (entry n i i a)))

-- ---- the solution

-- a refusal or 0, and with 0 the result
pub record Answer : Type 0 where
  pub refusal : ℕ
  pub result : List Float

abbrev pub answer : ℕ → List Float → Answer
answer k x = record { refusal = k; result = x }

-- for one right side, by factors and swaps: 12 if a value isn't finite
unfoldable pub substituted : ℕ → List Float → List ℕ → List Float → Answer
substituted n a s b =
    let y = forward n a n 0 (permuted 0 s b) in
    let x = backward n a n y in
    cond (all_finite y && all_finite x) (answer 0 x) (answer 12 [])

-- the factors first: their trouble, 11 or 12, is met first
unfoldable pub solution : ℕ → List Float → List Float → Answer
solution n a b =
    let f = factored n a in
    cond (eqb f.refusal 0) (substituted n f.rows f.swaps b) (answer f.refusal [])

-- ---- in lent memory

-- unless k refuses: the result goes into the first n places of x; a refusal leaves x as it was
unfoldable pub into : ℕ → ℕ → Answer → List Float → Answer
into n k o x = cond (eqb k 0) (cond (eqb o.refusal 0) (answer 0 (o.result ++ drop n x)) (answer o.refusal x)) (answer k x)

-- 1: a matrix, right side or result shorter than needed; 2: n above the limit; 7: a float that is read isn't finite
abbrev pub solve_refusal : ℕ → List Float → List Float → ℕ → ℕ
solve_refusal n a b room =
    lowest
    (unless_of (leb (n * n) (length a) && leb n (length b) && leb n room) 1
    ∷ unless_of (leb n dof_limit) 2
    ∷ unless_of (all_finite (take (n * n) a) && all_finite (take n b)) 7
    ∷ [])

abbrev pub solve_of : ℕ → List Float → List Float → List Float → Answer
solve_of n a b x = into n (solve_refusal n a b (length x)) (solution n (take (n * n) a) (take n b)) x
