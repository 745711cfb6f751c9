use Rattle.std.proofs.Common.{◌∙◌, sym}
use Rattle.solve.proofs.Substitution.{forward_end, forward_more}
use Rattle.solve.proofs.Factors.forward.Goals as goal

pub loop-i-preserved : goal.loop-i-preserved
loop-i-preserved c =
    let l = c.loop-i in
    let f = c.args.self.now in
    l.invariant ∙ forward_more f.n f.rows.now l.i l.x _ c.loop-i-test.true c.less_products.ensures

pub returns : goal.returns
returns c =
    let l = c.loop-i in
    let f = c.args.self.now in
    sym (l.invariant ∙ forward_end f.n f.rows.now l.i l.x c.loop-i-test.false)
