-- What inner functions are shown to do. No entry point's promise cites it.
-- The solution in lent memory, with no test of the floats that are read.
use Rattle.std.specs.Prelude.{◌&&◌, List, ℕ, ◌*◌, length, take, leb, Float}
use Rattle.elimination.specs.Inner.{room_refusal}
use Rattle.solve.specs.Solve.{Answer, substituted, solution, into}

-- for one right side, by factors and swaps
abbrev pub substitute_of : ℕ → List Float → List ℕ → List Float → List Float → Answer
substitute_of n a s b x =
    into n (room_refusal n (leb (n * n) (length a) && leb n (length s) && leb n (length b) && leb n (length x))) (substituted n (take (n * n) a) (take n s) (take n b)) x

-- by the matrix
abbrev pub solve_any : ℕ → List Float → List Float → List Float → Answer
solve_any n a b x = into n (room_refusal n (leb (n * n) (length a) && leb n (length b) && leb n (length x))) (solution n (take (n * n) a) (take n b)) x
