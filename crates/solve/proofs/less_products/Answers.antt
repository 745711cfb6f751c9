-- `less_products`: the fold over the pairs takes their products away, one after the other.
use Rattle.std.proofs.Common.{◌∙◌, Float, Bor, rules}
use Rattle.std.specs.List.{zip}
use Rattle.std.proofs.lemmas.Iterator.{YieldsList-from_slice, YieldsList-from_zip}
use Rattle.lists.proofs.Folds.{whole_items, fold_read}
use Rattle.solve.proofs.Substitution.{less_product, fold_products}
use Rattle.solve.proofs.less_products.Goals as goal

pub returns : goal.returns
returns c =
    let rs = c.args.row.now in
    let xs = c.args.x.now in
    let run = c.fold.ensures.runs in
    let read : Bor Float × Bor Float → Float × Float = λ p. (p.0.now, p.1.now) in
    run.3 (λ v p. less_product v (read p)) (λ x y r q k. search rules)
    ∙ fold_read read less_product c.args.start run.0.items (zip rs xs) (whole_items (YieldsList-from_zip (YieldsList-from_slice rs (search rules)) (YieldsList-from_slice xs (search rules))) run.0 run.1 run.2)
    ∙ fold_products c.args.start rs xs
