-- `all_masks`: the fold of a test over the bytes is the test of each.
use Rattle.std.proofs.Common.{ℕ, ◌∙◌, Bool, true, ◌&&◌, Bor, rules}
use Rattle.std.proofs.lemmas.Iterator.{YieldsList-from_slice}
use Rattle.lists.proofs.Folds.{whole_items, fold_read, fold_every}
use Rattle.masks.specs.Masks.{is_mask}
use Rattle.masks.proofs.all_masks.Goals as goal

pub returns : goal.returns
returns c =
    let ms = c.args.masks.now in
    let run = c.fold.ensures.runs in
    let tested = λ (ok : Bool) (m : ℕ). ok && is_mask m in
    run.3 (λ (ok : Bool) (m : Bor ℕ). tested ok m.now) (λ x y r q k. search rules)
    ∙ fold_read (λ (m : Bor ℕ). m.now) tested true run.0.items ms (whole_items (YieldsList-from_slice ms c.iter.ensures.rest) run.0 run.1 run.2)
    ∙ fold_every is_mask true ms
