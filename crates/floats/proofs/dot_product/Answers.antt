-- `dot_product`: the fold over the pairs adds their products, one after the other.
use Rattle.std.proofs.Common.{◌∙◌, ap, Float, Bor, rules}
use Rattle.std.specs.List.{zip}
use Rattle.std.specs.Slice.Iter.{iter_rest}
use Rattle.std.proofs.lemmas.Iterator.{YieldsList-from_slice, YieldsList-from_zip}
use Rattle.floats.specs.Floats.{dot, zero32}
use Rattle.lists.proofs.Folds.{whole_items, fold_read}
use Rattle.floats.proofs.Folds.{add_product, fold_products}
use Rattle.floats.proofs.dot_product.Goals as goal

pub returns : goal.returns
unfolding dot
returns c =
    let xs = c.args.row.now in
    let ys = c.args.other.now in
    let run = c.fold.ensures.runs in
    let read : Bor Float × Bor Float → Float × Float = λ p. (p.0.now, p.1.now) in
    run.3 (λ v p. add_product v (read p)) (λ x y r q k. search rules)
    ∙ fold_read read add_product zero32 run.0.items (zip xs ys) (whole_items (YieldsList-from_zip (YieldsList-from_slice xs (ap iter_rest c.zip.ensures.first ∙ c.iter.ensures.rest)) (YieldsList-from_slice ys (cc))) run.0 run.1 run.2)
    ∙ fold_products zero32 xs ys
