-- `solve`: a refusal ends it; else the solve of any floats gives the solution.
use Rattle.std.proofs.Common.{sym, ◌∙◌}
use Rattle.solve.proofs.Answers.{into_exit, solve_on}
use Rattle.solve.proofs.solve.Goals as goal

pub returns-in_err-solve_refusal : goal.returns-in_err-solve_refusal
returns-in_err-solve_refusal c =
    into_exit c.in_err-solve_refusal.was c.solve_refusal.ensures c.args.n _ c.args.res.now _ c.from_residual.ensures.1

pub returns : goal.returns
returns c =
    c.solve_any.ensures ∙ solve_on c.args.n c.args.matrix.now c.args.right.now c.args.res.now (sym c.in_ok-solve_refusal.ensures)
