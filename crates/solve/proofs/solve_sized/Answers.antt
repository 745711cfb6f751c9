-- `solve_sized`: the matrix copied over the buffer and factored there; a trouble of the factors ends it, else the substitution does.
use Rattle.std.proofs.Common.{sym, ◌∙◌, refl, arith}
use Rattle.refusal.proofs.Answers.{passed, refused}
use Rattle.refusal.proofs.Number.{number_positive}
use Rattle.solve.proofs.Answers.{buffer_room, swaps_room, trouble_exit, solve_good, solve_trouble}
use Rattle.solve.proofs.solve_sized.Goals as goal

pub returns-in_err-factor : goal.returns-in_err-factor
returns-in_err-factor g c =
    let a = c.args in
    let f = c.factor in
    let was = c.in_err-factor.was in
    let bad = solve_trouble a.n a.matrix.now a.right.now a.res.now _ c.copy_part.new.to f.new.rows _ f.new.swaps _
    (omega arith) c.requires.2 (buffer_room a.n g.row.M _ _ c.requires.0 c.as_flattened_mut-rows.ensures.len) (swaps_room a.n g.row.M c.requires.0) c.copy_part.ensures c.copy_part.auto.to f.auto.rows f.auto.swaps f.ensures (λ z. number_positive _ (sym (refused was refl) ∙ z)) in
    trouble_exit was refl a.n _ a.res.now bad _ c.from_residual.ensures.1

pub returns : goal.returns
returns g c =
    let a = c.args in
    let f = c.factor in
    solve_good a.n a.matrix.now a.right.now a.res.now _ c.copy_part.new.to f.new.rows _ f.new.swaps _
    (omega arith) c.requires.2 (buffer_room a.n g.row.M _ _ c.requires.0 c.as_flattened_mut-rows.ensures.len) (swaps_room a.n g.row.M c.requires.0) c.copy_part.ensures c.copy_part.auto.to f.auto.rows f.auto.swaps f.ensures (passed c.in_ok-factor.was refl) c.requires.3 c.requires.4 _ c.substitute.ensures
