-- `substitute_in`: the test of the unknowns is that of all values, and the copy leaves the result past n.
use Rattle.std.proofs.Common.{sym, ◌∙◌}
use Rattle.refusal.proofs.Answers.{passed, refused}
use Rattle.refusal.proofs.Number.{number_positive}
use Rattle.solve.proofs.Answers.{substituted_good, substituted_wild, trouble_exit}
use Rattle.solve.proofs.Factors.substitute_in.Goals as goal

pub returns-in_err-unless : goal.returns-in_err-unless
returns-in_err-unless c =
    let s = c.args.self.now in
    let was = c.in_err-unless.was in
    let y = c.unknowns in
    let f = c.all_finite in
    let wild = substituted_wild s.n s.rows.now s.swaps.now c.args.right.now y.new.x y.ensures f.result f.ensures (λ z. number_positive _ (sym (refused was c.unless.ensures) ∙ z)) in
    trouble_exit was c.unless.ensures s.n _ c.args.res.now wild _ c.from_residual.ensures.1

pub returns : goal.returns
returns c =
    let s = c.args.self.now in
    let y = c.unknowns in
    let f = c.all_finite in
    substituted_good s.n s.rows.now s.swaps.now c.args.right.now y.new.x y.ensures f.result f.ensures (passed c.in_ok-unless.was c.unless.ensures) (y.auto.x ∙ c.requires.1)
    c.args.res.now c.copy.new.to c.requires.2 c.copy.ensures
