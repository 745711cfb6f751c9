-- The loops of the substitution: what is done, with what is left, is the whole; one place more, and none.
use mathlib.Core.Path.{◌≡◌, refl, sym, ap, ◌∙◌}
use mathlib.Core.List.{List, [], ◌∷◌}
use Prim.Native.Nat.{ℕ, zero, suc, ◌+◌, ◌-◌, ◌*◌, ◌<◌, ◌≤◌}
use native.Mathlib.Numerals.{add-one}
use native.Mathlib.Nat.{sub-zero}
use native.Mathlib.Omega.{arith}
use lib.ListN.{length, take, drop, get_or, set, drop_of_length-le}
use lib.Seq.{drop-cons, drop-drop, take-nil, take-take}
use lib.Ieee.{Float, nan, binary32, div}
use Rattle.std.specs.List.{fold, zip}
use Rattle.elimination.specs.Elimination.{row, entry, less}
use Rattle.lists.proofs.Lists.{tail}
use Rattle.solve.specs.Solve.{exchanged, permuted, less_products, forward, backward}

-- ---- the swaps

module _ (k : ℕ) (s : List ℕ) (x : List Float) where
  pub permuted_end : length s ≤ k → permuted k (drop k s) x ≡ x
  unfolding permuted
  permuted_end h = rw (drop_of_length-le s h)

  pub permuted_more : k < length s → permuted k (drop k s) x ≡ permuted (k + 1) (drop (k + 1) s) (exchanged k (get_or s k 0) x)
  unfolding permuted
  permuted_more h = rw (drop-cons s k 0, add-one)

-- ---- the products

-- v less the product of a pair
abbrev pub less_product : Float → Float × Float → Float
less_product v p = less p.0 v p.1

pub fold_products : (v : Float) (rs xs : List Float) → fold less_product v (zip rs xs) ≡ less_products v rs xs
fold_products v [] xs = refl
fold_products v (a ∷ rs) [] = refl
fold_products v (a ∷ rs) (x ∷ xs) = fold_products (less a v x) rs xs

-- ---- forward

module _ (n : ℕ) (a : List Float) (i : ℕ) (x : List Float) where
  pub forward_end : n ≤ i → forward n a (n - i) i x ≡ x
  unfolding forward
  forward_end h =
      let e : n - i ≡ 0 = omega arith in
      rw e

  forward_suc : i < n → forward n a (n - i) i x ≡ forward n a (n - (i + 1)) (i + 1) (set x i (less_products (get_or x i nan) (take i (row n i a)) (take i x)))
  unfolding forward
  forward_suc h =
      let g : n - i ≡ suc (n - (i + 1)) = omega arith in
      rw (g, add-one)

  -- v is what the code's parts give
  pub forward_more : (v : Float) → i < n → v ≡ less_products (get_or x i nan) (take ((i * n + i) - i * n) (drop (i * n) a)) (take i x)
      → forward n a (n - i) i x ≡ forward n a (n - (i + 1)) (i + 1) (set x i v)
  forward_more v h ev =
      let e : (i * n + i) - i * n ≡ i = omega arith in
      let t : take i (row n i a) ≡ take i (drop (i * n) a) = take-take i n (drop (i * n) a) (omega arith) in
      forward_suc h ∙ rw (ev, e, t)

-- ---- back

drop-take : {A : Type 0} (m k : ℕ) (l : List A) → drop m (take k l) ≡ take (k - m) (drop m l)
drop-take zero k l = sym (ap (λ (j : ℕ). take j l) (sub-zero k))
drop-take (suc m) zero l =
    let e : zero - suc m ≡ 0 = omega arith in
    rw e
drop-take (suc m) (suc k) [] = sym (take-nil (suc k - suc m))
drop-take (suc m) (suc k) (x ∷ xs) =
    let e : suc k - suc m ≡ k - m = omega arith in
    rw e (drop-take m k xs)

module _ (n : ℕ) (a : List Float) where
  pub backward_end : (i : ℕ) (x : List Float) → i ≤ 0 → backward n a i x ≡ x
  unfolding backward
  backward_end i x h =
      let e : i ≡ 0 = omega arith in
      rw e

  backward_suc : (i : ℕ) (x : List Float)
      → backward n a (suc i) x ≡ backward n a i (set x i (div binary32 (less_products (get_or x i nan) (drop (i + 1) (row n i a)) (drop (i + 1) x)) (entry n i i a)))
  unfolding backward
  backward_suc i x = refl

  -- v is what the code's parts give
  backward_at : (i : ℕ) (x : List Float) (v : Float) → i < n
      → v ≡ less_products (get_or x i nan) (take ((i * n + n) - ((i * n + i) + 1)) (drop ((i * n + i) + 1) a)) (take (length x - (i + 1)) (drop (i + 1) x))
      → backward n a (suc i) x ≡ backward n a i (set x i (div binary32 v (entry n i i a)))
  backward_at i x v h ev =
      let e : (i * n + n) - ((i * n + i) + 1) ≡ n - (i + 1) = omega arith in
      let f : (i * n + i) + 1 ≡ i * n + (i + 1) = omega arith in
      let r : drop (i + 1) (row n i a) ≡ take (n - (i + 1)) (drop (i * n + (i + 1)) a) = drop-take (i + 1) n (drop (i * n) a) ∙ ap (take (n - (i + 1))) (drop-drop (i + 1) (i * n) a) in
      backward_suc i x ∙ rw (ev, e, f, tail x, r)

  pub backward_more : (i : ℕ) (x : List Float) (v : Float) → 0 < i → i ≤ n
      → v ≡ less_products (get_or x (i - 1) nan) (take (((i - 1) * n + n) - (((i - 1) * n + (i - 1)) + 1)) (drop (((i - 1) * n + (i - 1)) + 1) a)) (take (length x - ((i - 1) + 1)) (drop ((i - 1) + 1) x))
      → backward n a i x ≡ backward n a (i - 1) (set x (i - 1) (div binary32 v (get_or a ((i - 1) * n + (i - 1)) nan)))
  backward_more i x v h g ev =
      let e : i ≡ suc (i - 1) = omega arith in
      ap (λ (j : ℕ). backward n a j x) e ∙ backward_at (i - 1) x v (omega arith) ev
