-- A loop that works a row in place, over any length and any function: the first entries are done, the rest is as it was. Assumes nothing.
use mathlib.Core.Path.{◌≡◌, refl, ap, ◌∙◌}
use mathlib.Core.List.{List, [], ◌∷◌, ◌++◌}
use Prim.Native.Nat.{ℕ, zero, suc, min, ◌+◌, ◌≤◌, ◌<◌}
use native.Mathlib.Numerals.{add-one}
use native.Mathlib.Omega.{arith}
use lib.ListN.{length, take, drop, get_or, set}
use lib.Seq.{take_all}
use lib.Ieee.{Float}
use Rattle.floats.specs.Inner.{second, overlaid}
use Rattle.floats.specs.Floats.{zip_to}

-- the first i entries are done
abbrev pub zipped : (Float → Float → Float) → ℕ → List Float → List Float → List Float
zipped f i d s = zip_to f (take i d) (take i s) ++ drop i d

module _ (f : Float → Float → Float) where
  -- the entry that is next is as it was
  zipped_at : (i : ℕ) (d s : List Float) (z : Float) → i < length d → i < length s → get_or (zipped f i d s) i z ≡ get_or d i z
  zipped_at i [] s z h g = absurd (omega arith)
  zipped_at i (x ∷ xs) [] z h g = absurd (omega arith)
  zipped_at zero (x ∷ xs) (y ∷ ys) z h g = refl
  zipped_at (suc i) (x ∷ xs) (y ∷ ys) z h g = zipped_at i xs ys z (omega arith) (omega arith)

  zipped_suc : (i : ℕ) (d s : List Float) (z : Float) → i < length d → i < length s
      → set (zipped f i d s) i (f (get_or d i z) (get_or s i z)) ≡ zipped f (suc i) d s
  zipped_suc i [] s z h g = absurd (omega arith)
  zipped_suc i (x ∷ xs) [] z h g = absurd (omega arith)
  zipped_suc zero (x ∷ xs) (y ∷ ys) z h g = refl
  zipped_suc (suc i) (x ∷ xs) (y ∷ ys) z h g = ap (λ (l : List Float). f x y ∷ l) (zipped_suc i xs ys z (omega arith) (omega arith))

  -- a turn of the loop: the store of the next entry
  pub zipped_more : (i : ℕ) (d s : List Float) (z : Float) (l : List Float) → l ≡ zipped f i d s → i < length d → i < length s
      → set l i (f (get_or l i z) (get_or s i z)) ≡ zipped f (i + 1) d s
  zipped_more i d s z l e h g = rw (e, zipped_at i d s z, add-one) (zipped_suc i d s z h g)

  -- its end, at the shorter of the two
  pub zipped_all : (i : ℕ) (d s : List Float) → i ≡ min (length d) (length s) → zipped f i d s ≡ zip_to f d s
  zipped_all zero [] s h = refl
  zipped_all (suc i) [] s h = absurd (omega arith)
  zipped_all zero (x ∷ xs) [] h = refl
  zipped_all (suc i) (x ∷ xs) [] h = absurd (omega arith)
  zipped_all zero (x ∷ xs) (y ∷ ys) h = absurd (omega arith)
  zipped_all (suc i) (x ∷ xs) (y ∷ ys) h = ap (λ (l : List Float). f x y ∷ l) (zipped_all i xs ys (omega arith))

  pub length-zip_to : (d s : List Float) → length (zip_to f d s) ≡ length d
  length-zip_to [] s = refl
  length-zip_to (x ∷ xs) [] = refl
  length-zip_to (x ∷ xs) (y ∷ ys) = ap suc (length-zip_to xs ys)

-- a row of the same length replaces all
pub overlaid_whole : (d s : List Float) → length d ≡ length s → zip_to second d s ≡ s
overlaid_whole [] [] e = refl
overlaid_whole [] (y ∷ ys) e = absurd (omega arith)
overlaid_whole (x ∷ xs) [] e = absurd (omega arith)
overlaid_whole (x ∷ xs) (y ∷ ys) e = ap (λ (l : List Float). y ∷ l) (overlaid_whole xs ys (omega arith))

-- laid over: the front of s, as far as d goes, then the rest of d
pub overlaid_parts : (d s : List Float) → zip_to second d s ≡ take (length d) s ++ drop (length s) d
overlaid_parts [] [] = refl
overlaid_parts [] (y ∷ ys) = refl
overlaid_parts (x ∷ xs) [] = refl
overlaid_parts (x ∷ xs) (y ∷ ys) = ap (λ (l : List Float). y ∷ l) (overlaid_parts xs ys)

-- over the front of a list that is no shorter
pub overlaid_front : (n : ℕ) (s p : List Float) → length p ≡ n → n ≤ length s → overlaid s p ≡ p ++ drop n s
overlaid_front n s p e h = overlaid_parts s p ∙ rw (take_all (length s) p (omega arith), e)

-- the same, where both are cut at the shorter length
pub overlaid_cut : (n : ℕ) (d s : List Float) → n ≡ min (length d) (length s) → take n s ++ drop n d ≡ overlaid d s
overlaid_cut zero [] s h = refl
overlaid_cut (suc n) [] s h = absurd (omega arith)
overlaid_cut zero (x ∷ xs) [] h = refl
overlaid_cut (suc n) (x ∷ xs) [] h = absurd (omega arith)
overlaid_cut zero (x ∷ xs) (y ∷ ys) h = absurd (omega arith)
overlaid_cut (suc n) (x ∷ xs) (y ∷ ys) h = ap (λ (l : List Float). y ∷ l) (overlaid_cut n xs ys (omega arith))
