-- What inner functions are shown to do. No entry point's promise cites it.
-- The factors in lent memory: they go where the matrix was, and past what is needed nothing changes.
use Rattle.std.specs.Prelude.{Bool, cond, ◌&&◌, List, [], ◌∷◌, ◌++◌, ℕ, ◌*◌, length, take, drop, leb, eqb, Float}
use Rattle.limits.specs.Limits.{dof_limit}
use Rattle.refusal.specs.Refusal.{lowest, unless_of}
use Rattle.elimination.specs.Elimination.{Factors, factors, factored}

-- 1: a lent slice is too short; 2: n above the limit
unfoldable pub room_refusal : ℕ → Bool → ℕ
room_refusal n room = lowest (unless_of room 1 ∷ unless_of (leb n dof_limit) 2 ∷ [])

abbrev pub over_front : ℕ → Factors → List Float → List ℕ → Factors
over_front n f a s = factors f.refusal (f.rows ++ drop (n * n) a) (f.swaps ++ drop n s)

unfoldable pub factored_in : ℕ → List Float → List ℕ → Factors
factored_in n a s =
    let k = room_refusal n (leb (n * n) (length a) && leb n (length s)) in
    cond (eqb k 0) (over_front n (factored n (take (n * n) a)) a s) (factors k a s)
