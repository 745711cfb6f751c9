use Rattle.std.proofs.Common.{◌∙◌, sym, arith}
use lib.ListN.{length-set}
use Rattle.solve.proofs.Substitution.{backward_end, backward_more}
use Rattle.solve.proofs.Factors.backward.Goals as goal

pub loop-i-preserved : goal.loop-i-preserved
loop-i-preserved c =
    let l = c.loop-i in
    let f = c.args.self.now in
    record {
      low = omega arith;
      same = simp length-set l.invariant.same;
      done = l.invariant.done ∙ backward_more f.n f.rows.now l.i l.x _ c.loop-i-test.true l.invariant.low c.less_products-value.ensures;
    }

pub returns : goal.returns
returns c =
    let l = c.loop-i in
    let f = c.args.self.now in
    sym (l.invariant.done ∙ backward_end f.n f.rows.now l.i l.x (omega arith))
