use Rattle.std.proofs.Common.{arith, ◌∙◌, ◌+◌, ◌-◌, ap, ℕ, List, take}
use lib.Seq.{take_all}
use Rattle.elimination.specs.Elimination.{columns, factors}
use Rattle.elimination.proofs.Columns.{columns_end, columns_more, columns_zero, swaps_more, tested}
use Rattle.elimination.proofs.eliminate.Goals as goal

pub returns-then-rows-p : goal.returns-then-rows-p
returns-then-rows-p c =
    let l = c.loop-k in
    let pivot = c.pivot_row-p in
    l.invariant ∙ columns_zero c.args.n l.k l.rows (take l.k l.swaps) pivot.result c.loop-k-test.true pivot.ensures.0 c.if-rows-p.true

pub loop-k-preserved : goal.loop-k-preserved
loop-k-preserved c =
    let n = c.args.n in
    let l = c.loop-k in
    let k = l.k in
    let s = l.swaps in
    let pivot = c.pivot_row-p in
    let p = pivot.result in
    let made = c.eliminate_column in
    let t = made.new.rows in
    let e = pivot.ensures in
    l.invariant
    ∙ columns_more n k l.rows (take k s) p c.loop-k-test.true e.0 t c.if-rows-p.false made.ensures e.1 e.2 (omega arith)
    ∙ ap (columns n (n - (k + 1)) (k + 1) t) (swaps_more k p s (omega arith))

pub returns : goal.returns
returns c =
    let l = c.loop-k in
    let n = c.args.n in
    l.invariant
    ∙ columns_end n l.k l.rows (take l.k l.swaps) c.loop-k-test.false
    ∙ ap (λ (s : List ℕ). tested n l.rows (factors 0 l.rows s)) (take_all l.k l.swaps (omega arith))
