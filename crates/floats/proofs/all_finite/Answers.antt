-- `all_finite`: the fold of a test over the floats is the test of each.
use Rattle.std.proofs.Common.{◌∙◌, Bool, true, ◌&&◌, Float, Bor, rules}
use Rattle.std.proofs.lemmas.Iterator.{YieldsList-from_slice}
use Rattle.floats.specs.Floats.{is_finite}
use Rattle.lists.proofs.Folds.{whole_items, fold_read, fold_every}
use Rattle.floats.proofs.all_finite.Goals as goal

pub returns : goal.returns
returns c =
    let s = c.args.s.now in
    let run = c.fold.ensures.runs in
    let tested = λ (ok : Bool) (x : Float). ok && is_finite x in
    run.3 (λ (ok : Bool) (x : Bor Float). tested ok x.now) (λ x y r q k. search rules)
    ∙ fold_read (λ (x : Bor Float). x.now) tested true run.0.items s (whole_items (YieldsList-from_slice s c.iter.ensures.rest) run.0 run.1 run.2)
    ∙ fold_every is_finite true s
