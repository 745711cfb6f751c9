-- Where a column's values are all finite, so were those that it was worked out from: a test after the last column tells of every column.
use mathlib.Core.Path.{◌≡◌, sym}
use mathlib.Core.Bool.{true}
use mathlib.Core.List.{List, [], ◌∷◌}
use mathlib.Core.Logic.{⊎_elim}
use Prim.Native.Nat.{ℕ, zero, suc, ◌+◌, ◌-◌, ◌*◌, ◌<◌, ◌≤◌}
use native.Mathlib.Numerals.{add-one}
use native.Mathlib.Nat.{eq-or-lt_of_le}
use native.Mathlib.Omega.{arith}
use lib.ListN.{length, take, drop, get_or}
use lib.Seq.{drop-drop}
use lib.Ieee.{Float, nan, binary32, mul}
use Rattle.lists.proofs.Every.{every_cut, every_left, every_right, every_take, every_drop}
use Rattle.lists.proofs.Bools.{both_hold, both}
use Rattle.lists.proofs.Parts.{part_length, block_same, block_other, block_length}
use Rattle.floats.specs.Floats.{is_finite, all_finite}
use Rattle.floats.proofs.Sticky.{finite_sub, finite_div, finite_zip}
use Rattle.elimination.specs.Elimination.{row, with_row, swapped, factor_of, less, reduced_row, reduced, column}
use Rattle.elimination.proofs.Rows.{swapped_same}

-- ---- a row

around : (k : ℕ) (r : List Float) → all_finite (take k r) ≡ true → is_finite (get_or r k nan) ≡ true → all_finite (drop (suc k) r) ≡ true → all_finite r ≡ true
around zero [] h e g = g
around zero (x ∷ xs) h e g = both e g
around (suc k) [] h e g = h
around (suc k) (x ∷ xs) h e g = both (both_hold (is_finite x) _ h).0 (around k xs (both_hold (is_finite x) _ h).1 e g)

finite_row_lem : (k : ℕ) (pivot r : List Float) → all_finite (reduced_row k pivot r) ≡ true → all_finite r ≡ true
unfolding reduced_row
finite_row_lem k pivot r h =
    let f = factor_of k pivot r in
    let t = every_right is_finite (take k r) _ h in
    let z = finite_zip (less f) (λ x y. finite_sub x (mul binary32 f y)) (drop (k + 1) r) (drop (k + 1) pivot) (both_hold (is_finite f) _ t).1 in
    around k r (every_left is_finite (take k r) _ h) (finite_div (get_or r k nan) (get_or pivot k nan) (both_hold (is_finite f) _ t).0) (rw add-one at z)

-- ---- rows

finite_with : (n i : ℕ) (r a : List Float) → (all_finite r ≡ true → all_finite (row n i a) ≡ true) → all_finite (with_row n i r a) ≡ true → all_finite a ≡ true
finite_with n i r a g h =
    let t = every_right is_finite (take (i * n) a) _ h in
    let d : all_finite (drop n (drop (i * n) a)) ≡ true = rw drop-drop (every_right is_finite r _ t) in
    every_cut is_finite (i * n) a (every_left is_finite (take (i * n) a) _ h) (every_cut is_finite n (drop (i * n) a) (g (every_left is_finite r _ t)) d)

finite_reduced : (n k : ℕ) (pivot : List Float) (c i : ℕ) (a : List Float) → all_finite (reduced n k pivot c i a) ≡ true → all_finite a ≡ true
unfolding reduced
finite_reduced n k pivot zero i a h = h
finite_reduced n k pivot (suc c) i a h =
    let r = reduced_row k pivot (row n i a) in
    finite_with n i r a (finite_row_lem k pivot (row n i a)) (finite_reduced n k pivot c (suc i) (with_row n i r a) h)

-- a swap loses no float: each of the two rows stands in the other's place
module _ (n k p : ℕ) (a : List Float) (kp : k < p) (pn : p < n) (l : length a ≡ n * n) where
  finite_swapped : all_finite (swapped n k p a) ≡ true → all_finite a ≡ true
  finite_swapped e =
      let kn : k < n = omega arith in
      let long : n * n ≤ length a = omega arith in
      let rk = row n k a in
      let rp = row n p a in
      let lk = part_length n n a long k kn in
      let lp = part_length n n a long p pn in
      let moved = with_row n p rk a in
      let still : n * n ≤ length moved = omega (arith, block_length n n a long p rk pn lk) in
      let row-of : (i : ℕ) → all_finite (row n i (swapped n k p a)) ≡ true = λ i. every_take is_finite n _ (every_drop is_finite (i * n) (swapped n k p a) e) in
      let fp : all_finite rp ≡ true = rw (block_same n n moved still k rp kn lp) at (row-of k) in
      let fk : all_finite rk ≡ true = rw (block_other n n moved still k p rp kn (λ q. omega arith) lp, block_same n n a long p rk pn lk) at (row-of p) in
      let fm = finite_with n k rp moved (λ _. rw (block_other n n a long p k rk pn (λ q. omega arith) lk) fk) e in
      finite_with n p rk a (λ _. fp) fm

pub finite_column : (n k p : ℕ) (a : List Float) → k ≤ p → p < n → length a ≡ n * n → all_finite (column n k p a) ≡ true → all_finite a ≡ true
finite_column n k p a h g l e =
    let s = finite_reduced n k (row n p a) (n - (k + 1)) (k + 1) (swapped n k p a) e in
    ⊎_elim (λ (q : k ≡ p). rw (swapped_same n k p a (sym q)) at s) (λ (q : k < p). finite_swapped n k p a q g l s) (eq-or-lt_of_le h)
