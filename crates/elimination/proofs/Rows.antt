-- Where the rows of an n by n matrix lie in its list; a row read, a row put where it is, two rows swapped. By arithmetic on i · n.
use mathlib.Core.Path.{◌≡◌, sym, ◌∙◌}
use mathlib.Core.List.{List}
use mathlib.Core.Logic.{⊎_elim}
use Prim.Native.Nat.{ℕ, ◌+◌, ◌*◌, ◌<◌, ◌≤◌}
use native.Mathlib.Nat.{mul-le-mul_right, mul-le-mul_left, le_trans, eq-or-lt_of_le}
use native.Mathlib.Omega.{arith}
use lib.ListN.{length, drop, take-append-drop}
use lib.Seq.{drop-drop}
use lib.Ieee.{Float}
use Rattle.lists.proofs.Parts.{room, part_length, block_length}
use Rattle.floats.specs.Inner.{copied_part, moved_part}
use Rattle.floats.proofs.Parts.{copied_whole, copied_over, moved_fits}
use Rattle.elimination.specs.Elimination.{row, with_row, swapped}

-- ---- places

pub inside : {i n : ℕ} → i < n → i * n + n ≤ n * n
inside {n = n} h = room n h

-- the entry in row i, column j
pub at_inside : {i j n : ℕ} → i < n → j < n → i * n + j < n * n
at_inside h g = let l = inside h in omega arith

pub square_mono : {n c : ℕ} → n ≤ c → n * n ≤ c * c
square_mono {n} {c} h = le_trans (mul-le-mul_right n h) (mul-le-mul_left c h)

pub strictly : {k p : ℕ} → k ≤ p → (p ≡ k → ⊥) → k < p
strictly {k} {p} h g = ⊎_elim (λ (e : k ≡ p). absurd (g (sym e))) (λ (l : k < p). l) (eq-or-lt_of_le h)

-- ---- rows

row_same : (n i : ℕ) (a : List Float) → with_row n i (row n i a) a ≡ a
row_same n i a = rw (← drop-drop, take-append-drop n (drop (i * n) a), take-append-drop (i * n) a)

pub swapped_same : (n k p : ℕ) (a : List Float) → p ≡ k → swapped n k p a ≡ a
swapped_same n k p a e = rw (e, row_same, row_same)

module _ (n p : ℕ) (a pivot : List Float) (h : p < n) (l : length a ≡ n * n) (g : length pivot ≡ n) where
  -- row p copied over a list of its length
  pub row_read : copied_part 0 (p * n) n pivot a ≡ row n p a
  row_read = copied_over (p * n) n pivot a g (omega (arith, inside h))

  -- a row moved over row p, and in its place what row p was
  pub swapped_is : (k : ℕ) → k < p → pivot ≡ row n p a → copied_part (k * n) 0 n (moved_part (k * n) (p * n) n a) pivot ≡ swapped n k p a
  swapped_is k q e =
      let moved = moved_fits (k * n) (p * n) n a (room n q) (omega (arith, inside h)) in
      let same = block_length n n a (omega arith) p (row n k a) h (part_length n n a (omega arith) k (omega arith)) in
      rw moved (copied_whole (k * n) n (with_row n p (row n k a) a) pivot (omega (arith, room n q, inside h)) g ∙ rw e)
