-- With n = 0 the solve succeeds at once, whatever is handed in, and changes nothing.
use mathlib.Core.Path.{◌≡◌}
use mathlib.Core.List.{List}
use lib.Dec.{leb-zero}
use lib.ListN.{length}
use lib.Ieee.{Float}
use Rattle.refusal.specs.Refusal.{lower_of}
use Rattle.elimination.specs.Elimination.{columns}
use Rattle.solve.specs.Solve.{permuted, forward, backward, answer, substituted, solution, into, solve_of}

pub solve_nothing : (a b x : List Float) → solve_of 0 a b x ≡ answer 0 x
unfolding into lower_of solution substituted columns permuted forward backward
solve_nothing a b x = rw (leb-zero (length a), leb-zero (length b), leb-zero (length x))
