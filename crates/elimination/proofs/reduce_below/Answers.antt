use Rattle.std.proofs.Common.{◌∙◌, sym, refl}
use Rattle.elimination.proofs.Reduced.{reduced_end, reduced_more}
use Rattle.elimination.proofs.reduce_below.Goals as goal

pub loop-i-preserved : goal.loop-i-preserved
loop-i-preserved c =
    let l = c.loop-i in
    let row = c.reduce_row in
    l.invariant ∙ reduced_more c.args.n c.args.k c.args.pivot.now l.i l.rows c.loop-i-test.true _ refl row.new.row row.ensures

pub returns : goal.returns
returns c =
    let l = c.loop-i in
    sym (l.invariant ∙ reduced_end c.args.n c.args.k c.args.pivot.now l.i l.rows c.loop-i-test.false)
