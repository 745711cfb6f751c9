-- The rows below a pivot row: one row as the code's parts make it, and one row more. By arithmetic on the lengths.
use mathlib.Core.Path.{◌≡◌, sym, ap, ◌∙◌}
use mathlib.Core.List.{List, [], ◌∷◌, ◌++◌, append-nil}
use Prim.Native.Nat.{ℕ, suc, ◌+◌, ◌-◌, ◌*◌, ◌<◌, ◌≤◌}
use native.Mathlib.Numerals.{add-one}
use native.Mathlib.Omega.{arith}
use lib.ListN.{length, take, drop, set, length-set, length-drop, drop_of_length-le}
use lib.Seq.{drop-set-lt, take-suc-set, append_snoc}
use lib.Ieee.{Float}
use Rattle.lists.proofs.Lists.{tail}
use Rattle.lists.proofs.Parts.{lent_part}
use Rattle.floats.specs.Floats.{zip_to}
use Rattle.elimination.specs.Elimination.{row, with_row, less, factor_of, reduced_row, reduced}

-- r with the factor f at k; right of it a part of r is lent, and the same part of the pivot row
module _ (k : ℕ) (r pivot : List Float) (f : Float) (h : k < length r) (l : length r ≡ length pivot) where
  pub right_parts : length (take (length (set r k f) - (k + 1)) (drop (k + 1) (set r k f))) ≡ length (take (length pivot - (k + 1)) (drop (k + 1) pivot))
  right_parts = rw (tail (set r k f), tail pivot) (simp (length-drop, length-set) (ap (λ (j : ℕ). j - (k + 1)) l))

  -- y is what came back
  pub row_law : (y : List Float) → f ≡ factor_of k pivot r
      → y ≡ zip_to (less f) (take (length (set r k f) - (k + 1)) (drop (k + 1) (set r k f))) (take (length pivot - (k + 1)) (drop (k + 1) pivot))
      → take (k + 1) (set r k f) ++ (y ++ drop (length (set r k f) - (k + 1)) (drop (k + 1) (set r k f))) ≡ reduced_row k pivot r
  unfolding reduced_row
  row_law y ef e =
      let none : length (drop (k + 1) (set r k f)) ≤ length (set r k f) - (k + 1) = simp length-drop (omega arith) in
      let front : take (k + 1) (set r k f) ≡ take k r ++ (f ∷ []) = rw add-one (take-suc-set r k f h) in
      let rest : y ≡ zip_to (less f) (drop (k + 1) r) (drop (k + 1) pivot) = e ∙ rw (tail (set r k f), tail pivot, drop-set-lt (k + 1) r k f (omega arith)) in
      rw (drop_of_length-le (drop (k + 1) (set r k f)) none, append-nil, front, append_snoc, rest, ef)

module _ (n k : ℕ) (pivot : List Float) (i : ℕ) (a : List Float) where
  pub reduced_end : n ≤ i → reduced n k pivot (n - i) i a ≡ a
  unfolding reduced
  reduced_end h =
      let e : n - i ≡ 0 = omega arith in
      rw e

  module _ (h : i < n) where
    reduced_suc : reduced n k pivot (n - i) i a ≡ reduced n k pivot (n - (i + 1)) (i + 1) (with_row n i (reduced_row k pivot (row n i a)) a)
    unfolding reduced
    reduced_suc =
        let g : n - i ≡ suc (n - (i + 1)) = omega arith in
        rw (g, add-one)

    -- the row was lent from `at` on, and y came back
    module _ (at : ℕ) (ea : at ≡ i * n) where
      lent_row : take ((at + n) - at) (drop at a) ≡ row n i a
      lent_row =
          let e : (at + n) - at ≡ n = omega arith in
          rw (e, ea)

      pub reduced_more : (y : List Float) → y ≡ reduced_row k pivot (take ((at + n) - at) (drop at a))
          → reduced n k pivot (n - i) i a ≡ reduced n k pivot (n - (i + 1)) (i + 1) (take at a ++ (y ++ drop ((at + n) - at) (drop at a)))
      reduced_more y ey = reduced_suc ∙ ap (reduced n k pivot (n - (i + 1)) (i + 1)) (sym (lent_part at n a y ∙ rw (ey, lent_row, ea)))
