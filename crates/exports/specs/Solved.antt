-- The solve as a C function answers it: how many floats the lent memory then begins with, none where refused.
use Rattle.std.specs.Prelude.{ℕ, Float}
use Rattle.refusal.specs.Counted.{Outcome, out, counted_of}
use Rattle.solve.specs.Solve.{Answer}

abbrev pub solved_by : ℕ → Answer → Outcome Float
solved_by n a = out (counted_of a.refusal n) a.result
