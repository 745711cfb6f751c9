-- Bytes written into a buffer, where they fit and where they do not; and the digits of a number, put in place from the last on. Assumes nothing.
use mathlib.Core.Path.{◌≡◌, refl, sym, ap, ◌∙◌}
use mathlib.Core.Bool.{Bool, true, false, ◌&&◌}
use mathlib.Core.Logic.{◌⊎◌, inl, inr}
use mathlib.Core.List.{List, [], ◌∷◌, ◌++◌, append_assoc}
use Prim.Native.Nat.{ℕ, zero, suc, ◌+◌, ◌-◌, ◌/◌, ◌%◌, ◌≤◌, ◌<◌}
use native.Mathlib.Numerals.{add-one}
use native.Mathlib.Omega.{arith}
use borrow.Author.Tests.{le-leb, lt-leb, lt-ltb, le-ltb, ltb-true, ltb-false}
use borrow.Author.Rules.{part_to_end}
use lib.Dec.{ltb}
use lib.ListN.{length, take, drop, set}
use lib.Seq.{take-length}
use borrow.Rule.Slice.PartMut.{put_mid}
use Rattle.std.proofs.lemmas.Slice.{put_mid-paste}
use Rattle.lists.proofs.Bools.{both_hold}
use Rattle.numerals.specs.Written.{written, bytes_written}
use Rattle.numerals.specs.Decimal.{digit, digits_of, decimal}

module _ (out : List ℕ) (at : ℕ) (bytes : List ℕ) where
  pub no_room : length out < at + length bytes → bytes_written (written at out) bytes ≡ written at out
  unfolding bytes_written
  no_room h = rw (lt-leb (at + length bytes) (length out) h)

  pub room : at + length bytes ≤ length out
      → bytes_written (written at out) bytes ≡ written (at + length bytes) (take at out ++ bytes ++ drop (at + length bytes) out)
  unfolding bytes_written
  room h = rw (le-leb (at + length bytes) (length out) h)

  -- the bytes copied into their part of the buffer
  pub all_copied : at + length bytes ≤ length out → (new : List ℕ) → new ≡ bytes
      → written (at + length bytes) (put_mid at (at + length bytes - at) out new) ≡ bytes_written (written at out) bytes
  all_copied h new e =
      rw (put_mid-paste at (at + length bytes - at) out new bytes (length bytes) e (omega arith) refl, take-length bytes) (sym (room h))

-- ---- decimal digits

drop-set : (l : List ℕ) (i v : ℕ) → i < length l → drop i (set l i v) ≡ v ∷ drop (suc i) l
drop-set [] i v h = absurd (omega arith)
drop-set (x ∷ xs) zero v h = refl
drop-set (x ∷ xs) (suc i) v h = drop-set xs i v (omega arith)

alone : (i n : ℕ) → (n ≤ 9) ⊎ (i ≡ 0) → digits_of i n ≡ digit (n % 10) ∷ []
unfolding digits_of
alone zero n e = refl
alone (suc i) n (inl l) = rw (lt-ltb n 10 (omega arith))
alone (suc i) n (inr z) = absurd (omega arith)

-- the last digit, with those that follow it
last_digit : (i n : ℕ) (l : List ℕ) → i < length l → (n ≤ 9) ⊎ (i ≡ 0) → digits_of i n ++ drop (i + 1) l ≡ drop i (set l i (digit (n % 10)))
last_digit i n l h e = rw (drop-set l i (digit (n % 10)) h, add-one, alone i n e)

-- one digit more
pub next_digit : (i n : ℕ) (l : List ℕ) → i < length l → 9 < n → 0 < i
    → digits_of i n ++ drop (i + 1) l ≡ digits_of (i - 1) (n / 10) ++ drop ((i - 1) + 1) (set l i (digit (n % 10)))
unfolding digits_of
next_digit zero n l h k p = absurd (omega arith)
next_digit (suc i) n l h k p =
    let e : suc i - 1 ≡ i = omega arith in
    rw (e, add-one i, drop-set l (suc i) (digit (n % 10)) h, add-one (suc i), le-ltb n 10 (omega arith))
    (append_assoc (digits_of i (n / 10)) (digit (n % 10) ∷ []) (drop (suc (suc i)) l))

-- ---- when a digit is the last

pub more_digits : (n i : ℕ) → (ltb 9 n && ltb 0 i) ≡ true → (9 < n) × (0 < i)
more_digits n i e =
    let p = both_hold (ltb 9 n) (ltb 0 i) e in
    (ltb-true 9 n p.0, ltb-true 0 i p.1)

no_more : (n i : ℕ) → (ltb 9 n && ltb 0 i) ≡ false → (n ≤ 9) ⊎ (i ≡ 0)
no_more n i e = go (ltb 9 n) refl
  where
    go : (b : Bool) → ltb 9 n ≡ b → (n ≤ 9) ⊎ (i ≡ 0)
    go true t = inr (let l = ltb-false 0 i (rw t at e) in omega arith)
    go false t = inl (ltb-false 9 n t)

-- all digits of a number, from the first that was put in place
pub all_digits : (number first n : ℕ) (l : List ℕ) → length l ≡ 10 → first ≤ 9 → (ltb 9 n && ltb 0 first) ≡ false
    → decimal number ≡ digits_of first n ++ drop (first + 1) l → drop first (set l first (digit (n % 10))) ≡ decimal number
all_digits number first n l e h t i = sym (i ∙ last_digit first n l (omega arith) (no_more n first t))

-- the part of ten places from the first on
pub rest_of : (l : List ℕ) (first : ℕ) → length l ≡ 10 → take (10 - first) (drop first l) ≡ drop first l
rest_of l first e = ap (λ (k : ℕ). take (k - first) (drop first l)) (sym e) ∙ part_to_end l first
