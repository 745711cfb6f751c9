-- Floats written as bytes: those of the floats so far are laid over the front of the memory, four for each.
use Prim.Native.Nat.{ℕ, ◌+◌, ◌*◌, ◌≤◌, ◌<◌}
use mathlib.Core.Path.{◌≡◌, refl, sym, ap, ◌∙◌}
use mathlib.Core.List.{List, [], ◌∷◌, ◌++◌, append_assoc, append-nil}
use native.Mathlib.Omega.{arith}
use native.Mathlib.Numerals.{add-one}
use lib.ListN.{length, take, drop, get_or, length-append}
use lib.Seq.{take-suc, take_at, drop_at, drop-drop, take_all, length-take-le}
use lib.Ieee.{Float, nan, binary32, to_bits}
use Rattle.lists.specs.Lists.{laid}
use Rattle.numerals.specs.Written.{Written as Writing, written as writing, bytes_written}
use Rattle.numerals.specs.Bytes.{little_endian}
use Rattle.numerals.proofs.Storing.{room}
use Rattle.numerals.proofs.Bytes.{as_wide}
use Rattle.plugin.specs.Bytes.{bytes_of}

pub length_bytes : (xs : List Float) → length (bytes_of xs) ≡ 4 * length xs
unfolding bytes_of
length_bytes [] = refl
length_bytes (x ∷ xs) = length-append (little_endian 4 (to_bits binary32 x)) (bytes_of xs) ∙ omega (arith, as_wide 4 (to_bits binary32 x), length_bytes xs)

bytes_append : (xs ys : List Float) → bytes_of (xs ++ ys) ≡ bytes_of xs ++ bytes_of ys
unfolding bytes_of
bytes_append [] ys = refl
bytes_append (x ∷ xs) ys = rw (bytes_append xs ys) (sym (append_assoc (little_endian 4 (to_bits binary32 x)) (bytes_of xs) (bytes_of ys)))

bytes_snoc : (xs : List Float) (x : Float) → bytes_of (xs ++ (x ∷ [])) ≡ bytes_of xs ++ little_endian 4 (to_bits binary32 x)
unfolding bytes_of
bytes_snoc xs x = bytes_append xs (x ∷ []) ∙ ap (λ (r : List ℕ). bytes_of xs ++ r) (append-nil (little_endian 4 (to_bits binary32 x)))

-- bytes written behind those that are laid are laid with them
laid_run : (p v old l new : List ℕ) (at : ℕ) → l ≡ laid p old → length p ≡ at → new ≡ take at l ++ v ++ drop (at + length v) l
    → new ≡ laid (p ++ v) old
laid_run p v old l new at e n q =
    let front : take at l ≡ p = ap (take at) e ∙ take_at p _ at n in
    let behind : drop at l ≡ drop at old = ap (drop at) e ∙ drop_at p _ at n ∙ ap (λ (k : ℕ). drop k old) n in
    let rest : drop (at + length v) l ≡ drop (at + length v) old =
    sym (drop-drop (length v) at l) ∙ ap (drop (length v)) behind ∙ drop-drop (length v) at old in
    q ∙ rw (front, rest, length-append p v, n, append_assoc)

-- the first i floats are written, and the position is behind them
pub record Written (row : List Float) (old : List ℕ) (i at : ℕ) (l : List ℕ) : Type 0 where
  pub same_length : length l ≡ length old
  pub behind : at ≡ 4 * i
  pub front : l ≡ laid (bytes_of (take i row)) old

pub written_none : (row : List Float) (old : List ℕ) → Written row old 0 0 old
unfolding bytes_of
written_none row old = record { same_length = refl; behind = refl; front = refl }

module _ (row : List Float) (old : List ℕ) (i at : ℕ) (l : List ℕ) (w : Written row old i at l) (h : i < length row) where
  here : length (bytes_of (take i row)) ≡ 4 * i
  here = length_bytes (take i row) ∙ ap (λ (n : ℕ). 4 * n) (length-take-le i row (omega arith))

  one_more : bytes_of (take (i + 1) row) ≡ bytes_of (take i row) ++ little_endian 4 (to_bits binary32 (get_or row i nan))
  one_more = ap (λ (k : ℕ). bytes_of (take k row)) (add-one i) ∙ ap bytes_of (take-suc row i nan h) ∙ bytes_snoc (take i row) (get_or row i nan)

  pub written_more : (b next : ℕ) (new : List ℕ) → b ≡ to_bits binary32 (get_or row i nan) → length new ≡ length l → 4 * length row ≤ length old
      → writing next new ≡ bytes_written (writing at l) (little_endian 4 b) → Written row old (i + 1) next new
  written_more b next new e s fit q =
      let wide : length (little_endian 4 b) ≡ 4 = as_wide 4 b in
      let same = w.same_length in
      let behind = w.behind in
      let there : writing next new ≡ writing (4 * i + length (little_endian 4 b)) (take (4 * i) l ++ little_endian 4 b ++ drop (4 * i + length (little_endian 4 b)) l) =
      q ∙ ap (λ (k : ℕ). bytes_written (writing k l) (little_endian 4 b)) behind ∙ room l (4 * i) (little_endian 4 b) (omega arith) in
      let position : next ≡ 4 * i + length (little_endian 4 b) = ap (λ (w : Writing). w.next) there in record {
        same_length = s ∙ w.same_length;
        behind = omega arith;
        front = laid_run (bytes_of (take i row)) (little_endian 4 b) old l new (4 * i) w.front here (ap (λ (w : Writing). w.buffer) there)
            ∙ ap (λ (r : List ℕ). laid r old) (ap (λ (k : ℕ). bytes_of (take i row) ++ little_endian 4 k) e ∙ sym one_more);
      }

pub written_all : (row : List Float) (old : List ℕ) (i at : ℕ) (l : List ℕ) → Written row old i at l → length row ≤ i → l ≡ laid (bytes_of row) old
written_all row old i at l w h = w.front ∙ ap (λ (r : List Float). laid (bytes_of r) old) (take_all i row h)
