-- The search of the pivot's row, one row more: the row of greatest value so far, with the rows that are left, gives the row asked for.
use mathlib.Core.Path.{◌≡◌, sym, ap, ◌∙◌}
use mathlib.Core.Bool.{Bool, cond}
use mathlib.Core.List.{List}
use Prim.Native.Nat.{ℕ, suc, ◌+◌, ◌-◌, ◌<◌, ◌≤◌}
use native.Mathlib.Numerals.{add-one}
use native.Mathlib.Omega.{arith}
use lib.Ieee.{Float, lt}
use Rattle.elimination.specs.Elimination.{absolute, entry, greatest}

module _ (n k : ℕ) (a : List Float) (i p : ℕ) where
  pub greatest_end : n ≤ i → greatest n k a (n - i) i p ≡ p
  unfolding greatest
  greatest_end h =
      let e : n - i ≡ 0 = omega arith in
      rw e

  -- v is the greatest value so far and w that of row i; b tells whether w is greater, and q is the row then
  module _ (h : i < n) (v w : Float) (ev : v ≡ absolute (entry n p k a)) (ew : w ≡ absolute (entry n i k a)) where
    pub greatest_more : (b : Bool) (q : ℕ) → lt v w ≡ b → q ≡ cond b i p
        → greatest n k a (n - i) i p ≡ greatest n k a (n - (i + 1)) (i + 1) q
    unfolding greatest
    greatest_more b q e f =
        let g : n - i ≡ suc (n - (i + 1)) = omega arith in
        let t : lt (absolute (entry n p k a)) (absolute (entry n i k a)) ≡ b = ap (λ (x : Float). lt x (absolute (entry n i k a))) (sym ev) ∙ ap (lt v) (sym ew) ∙ e in
        ap (λ (c : ℕ). greatest n k a c i p) g
        ∙ ap (λ (d : Bool). greatest n k a (n - (i + 1)) (suc i) (cond d i p)) t
        ∙ ap (λ (j : ℕ). greatest n k a (n - (i + 1)) j (cond b i p)) (sym (add-one i))
        ∙ ap (greatest n k a (n - (i + 1)) (i + 1)) (sym f)
