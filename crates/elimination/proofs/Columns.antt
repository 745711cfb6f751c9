-- The columns, one more: a column is tested by the test of the last, since what isn't finite stays so.
use mathlib.Core.Path.{◌≡◌, refl, sym, ap, ◌∙◌}
use mathlib.Core.Bool.{Bool, true, false, cond, false≢true}
use mathlib.Core.List.{List, [], ◌∷◌, ◌++◌}
use Prim.Native.Nat.{ℕ, zero, suc, ◌+◌, ◌-◌, ◌*◌, ◌<◌, ◌≤◌}
use native.Mathlib.Numerals.{add-one}
use native.Mathlib.Omega.{arith}
use lib.ListN.{length, take, set}
use lib.Seq.{take-suc-set}
use lib.Ieee.{Float}
use Rattle.floats.specs.Floats.{all_finite}
use Rattle.elimination.specs.Elimination.{entry, pivot_row, is_zero, column, Factors, factors, trouble, columns}
use Rattle.elimination.proofs.Sticky.{finite_column}

-- what the test of the rows makes of f
abbrev pub tested : ℕ → List Float → Factors → Factors
tested n a f = cond (all_finite a) f (trouble n 12)

wild : (n c k : ℕ) (a : List Float) (s : List ℕ) → all_finite a ≡ false → columns n c k a s ≡ trouble n 12
unfolding columns
wild n zero k a s h = rw h
wild n (suc c) k a s h = rw h

module _ (n k : ℕ) (a : List Float) (s : List ℕ) where
  pub columns_end : n ≤ k → columns n (n - k) k a s ≡ tested n a (factors 0 a s)
  unfolding columns
  columns_end h =
      let e : n - k ≡ 0 = omega arith in
      rw e

  module _ (p : ℕ) (h : k < n) (ep : p ≡ pivot_row n k a) where
    one_more : n - k ≡ suc (n - (k + 1))
    one_more = omega arith

    pub columns_zero : is_zero (entry n p k a) ≡ true → columns n (n - k) k a s ≡ tested n a (trouble n 11)
    unfolding columns
    columns_zero z = rw (one_more, ← ep, z)

    finite_more : (t : List Float) → is_zero (entry n p k a) ≡ false → t ≡ column n k p a → all_finite a ≡ true
        → columns n (n - k) k a s ≡ columns n (n - (k + 1)) (k + 1) t (s ++ (p ∷ []))
    unfolding columns
    finite_more t z et f = rw (one_more, ← ep, z, ← et, f, add-one)

    pub columns_more : (t : List Float) → is_zero (entry n p k a) ≡ false → t ≡ column n k p a → k ≤ p → p < n → length a ≡ n * n
        → columns n (n - k) k a s ≡ columns n (n - (k + 1)) (k + 1) t (s ++ (p ∷ []))
    columns_more t z et kp g l = go (all_finite a) refl
      where
        spoilt : all_finite a ≡ false → (b : Bool) → all_finite t ≡ b → columns n (n - k) k a s ≡ columns n (n - (k + 1)) (k + 1) t (s ++ (p ∷ []))
        spoilt f true q = absurd (false≢true (sym f ∙ finite_column n k p a kp g l (sym (ap all_finite et) ∙ q)))
        spoilt f false q = wild n (n - k) k a s f ∙ sym (wild n (n - (k + 1)) (k + 1) t (s ++ (p ∷ [])) q)

        go : (b : Bool) → all_finite a ≡ b → columns n (n - k) k a s ≡ columns n (n - (k + 1)) (k + 1) t (s ++ (p ∷ []))
        go true f = finite_more t z et f
        go false f = spoilt f (all_finite t) refl

-- one more row swapped in
pub swaps_more : (k p : ℕ) (s : List ℕ) → k < length s → take k s ++ (p ∷ []) ≡ take (k + 1) (set s k p)
swaps_more k p s h = sym (ap (λ (j : ℕ). take j (set s k p)) (add-one k) ∙ take-suc-set s k p h)
