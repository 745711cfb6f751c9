use Rattle.std.proofs.Common.{arith, ◌∙◌, sym, ap, ℕ, true, false}
use Rattle.elimination.specs.Elimination.{absolute, entry}
use Rattle.elimination.proofs.Pivot.{greatest_end, greatest_more}
use Rattle.elimination.proofs.pivot_row.Goals.{then-greatest-value, else-greatest-value}
use Rattle.elimination.proofs.pivot_row.Goals as goal

pub loop-i-preserved : goal.loop-i-preserved
loop-i-preserved c =
    let n = c.args.n in
    let k = c.args.k in
    let a = c.args.rows.now in
    let l = c.loop-i in
    let value = c.absolute_value-value in
    let more = greatest_more n k a l.i l.p c.loop-i-test.true l.greatest value.result l.invariant.value value.ensures in
    elim c.if-greatest-value.branch [
      | then-greatest-value w ↦ record {
        low = omega arith;
        high = omega arith;
        value = w.greatest-is ∙ value.ensures ∙ ap (λ (j : ℕ). absolute (entry n j k a)) (sym w.p-is);
        found = l.invariant.found ∙ more true c.if-greatest-value.p w.if-greatest-value.true w.p-is;
      }
      | else-greatest-value w ↦ record {
        low = omega arith;
        high = omega arith;
        value = w.greatest-is ∙ l.invariant.value ∙ ap (λ (j : ℕ). absolute (entry n j k a)) (sym w.p-is);
        found = l.invariant.found ∙ more false c.if-greatest-value.p w.if-greatest-value.false w.p-is;
      }
    ]

pub returns : goal.returns
returns c =
    let l = c.loop-i in
    (sym (l.invariant.found ∙ greatest_end c.args.n c.args.k c.args.rows.now l.i l.p c.loop-i-test.false), l.invariant.low, l.invariant.high)
