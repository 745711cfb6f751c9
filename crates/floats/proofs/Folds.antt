-- Folds over two lists: of the products. By the list.
use Rattle.std.proofs.Common.{◌≡◌, refl, List, [], ◌∷◌, Float}
use Rattle.std.specs.List.{fold, zip}
use Rattle.floats.specs.Floats.{plus, times, sum_from}

abbrev pub add_product : Float → Float × Float → Float
add_product v p = plus v (times p.0 p.1)

pub fold_products : (v : Float) (xs ys : List Float) → fold add_product v (zip xs ys) ≡ sum_from v xs ys
fold_products v [] ys = refl
fold_products v (x ∷ xs) [] = refl
fold_products v (x ∷ xs) (y ∷ ys) = fold_products (plus v (times x y)) xs ys
