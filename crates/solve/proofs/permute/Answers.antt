use Rattle.std.proofs.Common.{◌∙◌, ◌+◌, ap, sym, drop}
use Rattle.solve.specs.Solve.{permuted}
use Rattle.solve.proofs.Substitution.{permuted_end, permuted_more}
use Rattle.solve.proofs.permute.Goals as goal

pub loop-k-preserved : goal.loop-k-preserved
loop-k-preserved c =
    let l = c.loop-k in
    let w = c.args.swaps.now in
    l.invariant ∙ permuted_more l.k w l.x c.loop-k-test.true ∙ ap (permuted (l.k + 1) (drop (l.k + 1) w)) (sym c.exchange.ensures)

pub returns : goal.returns
returns c =
    let l = c.loop-k in
    sym (l.invariant ∙ permuted_end l.k c.args.swaps.now l.x c.loop-k-test.false)
