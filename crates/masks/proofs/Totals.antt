-- Starts in a list of masks of any length: each is the one before it and that one's DoFs, and all of them lie within the total. Assumes nothing.
use Prim.Native.Nat.{ℕ, zero, suc, ◌+◌, ◌*◌, ◌≤◌, ◌<◌}
use mathlib.Core.Path.{◌≡◌, refl, ap, ◌∙◌}
use mathlib.Core.Logic.{inl, inr}
use mathlib.Core.List.{List, [], ◌∷◌, ◌++◌}
use native.Mathlib.Nat.{eq-or-lt_of_le}
use native.Mathlib.Omega.{arith}
use native.Mathlib.Numerals.{add-one}
use lib.ListN.{length, take, get_or, length-append, get_or-append}
use lib.Seq.{take-suc, take_all, get_or_at}
use Rattle.masks.specs.Masks.{dofs_of}
use Rattle.masks.specs.Starts.{total_of, start_of, starts_to}
use Rattle.masks.proofs.Laws.{dofs_le}

pub total_join : (xs ys : List ℕ) → total_of (xs ++ ys) ≡ total_of xs + total_of ys
unfolding total_of
total_join [] ys = omega arith
total_join (x ∷ xs) ys = omega (arith, total_join xs ys)

pub total_snoc : (ms : List ℕ) (m : ℕ) → total_of (ms ++ (m ∷ [])) ≡ total_of ms + dofs_of m
unfolding total_of
total_snoc ms m = omega (arith, total_join ms (m ∷ []))

-- at most three for each mask
pub total_le : (ms : List ℕ) → total_of ms ≤ 3 * length ms
unfolding total_of
total_le [] = omega arith
total_le (m ∷ ms) = omega (arith, dofs_le m, total_le ms)

-- one mask more: the next start lies its DoFs further on
pub start_next : (ms : List ℕ) (i d : ℕ) → i < length ms → start_of ms (i + 1) ≡ start_of ms i + dofs_of (get_or ms i d)
unfolding start_of
start_next ms i d h = rw (add-one, take-suc ms i d) (total_snoc (take i ms) (get_or ms i d))

-- past the last, all are counted
pub start_all : (ms : List ℕ) (i : ℕ) → length ms ≤ i → start_of ms i ≡ total_of ms
unfolding start_of
start_all ms i h = ap total_of (take_all i ms h)

pub start_le : (ms : List ℕ) (i : ℕ) → start_of ms i ≤ 3 * i
unfolding start_of total_of
start_le ms zero = omega arith
start_le [] (suc i) = omega arith
start_le (m ∷ ms) (suc i) = omega (arith, dofs_le m, start_le ms i)

-- a mask's DoFs end where a later one's start, or earlier
pub start_room : (ms : List ℕ) (i j d : ℕ) → i < length ms → i < j → start_of ms i + dofs_of (get_or ms i d) ≤ start_of ms j
unfolding start_of total_of
start_room [] i j d h l = absurd (omega arith)
start_room (m ∷ ms) i zero d h l = absurd (omega arith)
start_room (m ∷ ms) zero (suc j) d h l = omega arith
start_room (m ∷ ms) (suc i) (suc j) d h l = omega (arith, start_room ms i j d (omega arith) (omega arith))

-- and within the total
pub start_in : (ms : List ℕ) (i d : ℕ) → i < length ms → start_of ms i + dofs_of (get_or ms i d) ≤ total_of ms
start_in ms i d h = omega (arith, start_room ms i (length ms) d h h, start_all ms (length ms) (omega arith))

pub length-starts_to : (ms : List ℕ) (i : ℕ) → length (starts_to ms i) ≡ i
unfolding starts_to
length-starts_to ms zero = refl
length-starts_to ms (suc i) = simp length-append (omega (arith, length-starts_to ms i))

same : {i n : ℕ} → suc i ≡ suc n → i ≡ n
same e = omega arith

-- the entry of mask i is its start
pub starts_at : (ms : List ℕ) (n i d : ℕ) → i < n → get_or (starts_to ms n) i d ≡ start_of ms i
unfolding starts_to
starts_at ms zero i d h = absurd (omega arith)
starts_at ms (suc n) i d h = elim (eq-or-lt_of_le h) [
  | inl e ↦ rw (same e, get_or_at (starts_to ms n) (start_of ms n) [] d n (length-starts_to ms n))
  | inr l ↦ get_or-append (starts_to ms n) (start_of ms n ∷ []) d i (omega (arith, length-starts_to ms n)) ∙ starts_at ms n i d (omega arith)
]
