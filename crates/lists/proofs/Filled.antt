-- A loop that fills a list with one value: the first i places are filled, the rest is as it was. By the list's length.
use mathlib.Core.Path.{◌≡◌, refl, ap}
use mathlib.Core.List.{List, [], ◌∷◌, ◌++◌}
use Prim.Native.Nat.{ℕ, zero, suc, ◌+◌, ◌<◌}
use native.Mathlib.Numerals.{add-one}
use native.Mathlib.Omega.{arith}
use lib.ListN.{length, drop, set, replicate}

module _ {A : Type 0} where
  abbrev pub filled : ℕ → A → List A → List A
  filled i z s = replicate i z ++ drop i s

  filled_suc : (i : ℕ) (z : A) (s : List A) → i < length s → set (filled i z s) i z ≡ filled (suc i) z s
  filled_suc i z [] h = absurd (omega arith)
  filled_suc zero z (x ∷ xs) h = refl
  filled_suc (suc i) z (x ∷ xs) h = ap (λ (l : List A). z ∷ l) (filled_suc i z xs (omega arith))

  pub filled_more : (i : ℕ) (z : A) (s l : List A) → l ≡ filled i z s → i < length s → set l i z ≡ filled (i + 1) z s
  filled_more i z s l e h = rw (e, add-one) (filled_suc i z s h)

  pub filled_all : (i : ℕ) (z : A) (s : List A) → i ≡ length s → filled i z s ≡ replicate (length s) z
  filled_all zero z [] h = refl
  filled_all (suc i) z [] h = absurd (omega arith)
  filled_all zero z (x ∷ xs) h = absurd (omega arith)
  filled_all (suc i) z (x ∷ xs) h = ap (λ (l : List A). z ∷ l) (filled_all i z xs (omega arith))
