-- What an array's `map` gives: h of each, where the closure computes h and stays as it is. By the count.
use Prim.Native.Nat.{ℕ, zero, suc, ◌+◌, ◌≤◌, ◌<◌}
use mathlib.Core.Path.{◌≡◌, sym, ap, subst, ◌∙◌}
use mathlib.Core.List.{List, map}
use native.Mathlib.Omega.{arith}
use native.Mathlib.Decide.{dec_lt}
use denote.Param.Members.{Mut, Called}
use lib.ListN.{length, get_or, length-map}
use lib.Seq.{ext_get_or}
use Rattle.std.specs.Array.{MapsFrom, IsMapOf}
use Rattle.lists.proofs.Lists.{map_at}

module _ {F A B : Type 0} (g : Mut F (A × Unit {0}) B) (h : A → B) (f : F) (computes : (x : A) (y : B) (q : F) → Called g f (x, tt) y q → (q ≡ f) × (y ≡ h x)) where
  each : (xs : List A) (ys : List B) (n i : ℕ) (p : F) → p ≡ f → MapsFrom g p xs ys i n → (k : ℕ) (d : A) (e : B) → i ≤ k → k < i + n
      → get_or ys k e ≡ h (get_or xs k d)
  each xs ys zero i p same m k d e low high = absurd (omega arith)
  each xs ys (suc n) i p same (q, x, y, ex, ey, c, rest) k d e low high =
      let now = computes x y q (subst (λ (o : F). Called g o (x, tt) y q) same c) in
      elim (dec_lt i k) [
        | yes l ↦ each xs ys n (i + 1) q now.0 rest k d e (omega arith) (omega arith)
        | no l ↦
            let at : k ≡ i = omega arith in
            ap (λ (j : ℕ). get_or ys j e) at ∙ ey.1 e ∙ now.1 ∙ ap h (sym (ex.1 d)) ∙ ap (λ (j : ℕ). h (get_or xs j d)) (sym at)
      ]

  pub mapped : {n : ℕ} (xs : List A) (ys : List B) → A → length xs ≡ n → IsMapOf g f xs ys n → ys ≡ map h xs
  mapped {n = n} xs ys d w m =
      ext_get_or (h d) ys (map h xs) (m.long ∙ sym (length-map xs h ∙ w)) (λ k l.
      let below : k < n = omega (arith, m.long) in
      each xs ys n 0 f (λ i. f) m.each k d (h d) (omega arith) (omega arith) ∙ sym (map_at h xs k d (h d) (omega arith)))
