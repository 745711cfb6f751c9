-- `swap_rows`: a row swapped with itself stays; else row k goes to row p, and the pivot row to row k.
use Rattle.std.proofs.Common.{sym}
use Rattle.elimination.proofs.Rows.{strictly, swapped_is, swapped_same}
use Rattle.elimination.proofs.swap_rows.Goals as goal

pub returns-then-k-p : goal.returns-then-k-p
returns-then-k-p c =
    let a = c.args in
    cc (swapped_is a.n a.p a.rows.now a.pivot.now c.requires.1 c.requires.2 c.requires.3 a.k (strictly c.requires.0 (λ e. c.if-k-p.true (sym e))) c.requires.4)

pub returns-else-k-p : goal.returns-else-k-p
returns-else-k-p c = sym (swapped_same _ _ _ _ (sym c.if-k-p.false))
