-- The count of quarter turns. However many thresholds there are, if they rise, those at most a are the first ones: one test says whether the count comes to its
-- number. Assumes nothing.
use mathlib.Core.Path.{◌≡◌, refl, sym, ◌∙◌, subst}
use mathlib.Core.Logic.{inl, inr}
use mathlib.Core.Bool.{Bool, true, false, cond, ◌&&◌}
use Prim.Native.Nat.{ℕ, zero, suc, ◌≤◌, ◌<◌, zero-le}
use native.Mathlib.Nat.{le_refl, eq-or-lt_of_le}
use native.Mathlib.Omega.{arith}
use borrow.Author.Tests.{leb-true, le-leb, lt-leb}
use lib.Dec.{T, leb}
use lib.Ieee.{Float, le, mul, of_int, of_bits}
use lib.Ieee.Fits.{and_l, and_r}
use Rattle.planar.specs.Rotation.{threshold, count_to, quarter_turns}
use Rattle.std.proofs.lemmas.Float.{le_trans, T_from_true}

one_at_most : (b : Bool) → cond b 1 0 ≤ 1
one_at_most true = omega arith
one_at_most false = omega arith

count_le : (n : ℕ) (a : Float) → count_to n a ≤ n
unfolding count_to
count_le zero a = zero-le
count_le (suc n) a = let h = count_le n a in let b = one_at_most (le (threshold (suc n)) a) in omega arith

pub turns_le : (a : Float) → quarter_turns a ≤ 163
unfolding quarter_turns
turns_le a = count_le 163 a

-- ---- of n thresholds that rise the j-th is at most a exactly if the count comes to j

abbrev Rising : ℕ → Type 0
Rising n = (j : ℕ) → 0 < j → j < n → T (le (threshold j) (threshold (suc j)))

abbrev Told : ℕ → Float → Type 0
Told n a = (j : ℕ) → 0 < j → j ≤ n → le (threshold j) a ≡ leb j (count_to n a)

is_true : (b : Bool) → T b → b ≡ true
is_true true t = refl
is_true false t = absurd t

-- the last one is at most a: so are all before it
all_counted : (n : ℕ) (a : Float) → Rising (suc n) → Told n a → le (threshold (suc n)) a ≡ true → n ≤ count_to n a
all_counted zero a r h e = zero-le
all_counted (suc n) a r h e =
    let rise = r (suc n) (omega arith) (omega arith) in
    let t = le_trans (threshold (suc n)) (threshold (suc (suc n))) a rise (T_from_true (le (threshold (suc (suc n))) a) e) in
    leb-true (suc n) (count_to (suc n) a) (sym (h (suc n) (omega arith) (le_refl (suc n))) ∙ is_true (le (threshold (suc n)) a) t)

one_more : (n : ℕ) (a : Float) → le (threshold (suc n)) a ≡ true → count_to (suc n) a ≡ suc (count_to n a)
unfolding count_to
one_more n a e = rw e (omega arith)

no_more : (n : ℕ) (a : Float) → le (threshold (suc n)) a ≡ false → count_to (suc n) a ≡ count_to n a
unfolding count_to
no_more n a e = rw e (omega arith)

next_told : (n : ℕ) (a : Float) → Rising (suc n) → Told n a → Told (suc n) a
next_told n a r h j p l = go (le (threshold (suc n)) a) refl
  where
    go : (b : Bool) → le (threshold (suc n)) a ≡ b → le (threshold j) a ≡ leb j (count_to (suc n) a)
    go true e =
        let f = all_counted n a r h e in
        let m = one_more n a e in
        let at_most : le (threshold j) a ≡ true = elim (eq-or-lt_of_le l) [
          | inl q ↦ rw q e
          | inr s ↦ h j p (omega arith) ∙ le-leb j (count_to n a) (omega arith)
        ] in
        at_most ∙ sym (le-leb j (count_to (suc n) a) (omega arith))
    go false e = elim (eq-or-lt_of_le l) [
      | inl q ↦ rw q (e ∙ sym (lt-leb (suc n) (count_to (suc n) a) (omega (arith, no_more n a e, count_le n a))))
      | inr s ↦ rw (no_more n a e) (h j p (omega arith))
    ]

told : (n : ℕ) → Rising n → (a : Float) → Told n a
told zero r a = λ j p l. absurd (omega arith)
told (suc n) r a = next_told n a r (told n (λ j p l. r j p (omega arith)) a)

-- ---- 163 of them rise: each is at most the next, computed

abbrev every : (ℕ → Bool) → ℕ → Bool
every f zero = true
every f (suc n) = every f n && f n

at : (f : ℕ → Bool) (n k : ℕ) → T (every f n) → k < n → T (f k)
at f zero k t h = absurd (omega arith)
at f (suc n) k t h =
    let l : k ≤ n = omega arith in
    elim (eq-or-lt_of_le l) [
      | inl e ↦ subst (λ (m : ℕ). T (f m)) (sym e) (and_r (every f n) (f n) t)
      | inr l ↦ at f n k (and_l (every f n) (f n) t) l
    ]

rises : ℕ → Bool
rises j = le (threshold (suc j)) (threshold (suc (suc j)))

all_rise : T (every rises 162)
unfolding rises threshold mul of_int of_bits le
all_rise = tt

rising : Rising 163
unfolding rises
rising zero p l = absurd (omega arith)
rising (suc j) p l = at rises 162 j all_rise (omega arith)

pub passed : (a : Float) (j : ℕ) → 0 < j → j ≤ 163 → le (threshold j) a ≡ leb j (quarter_turns a)
unfolding quarter_turns
passed a = told 163 rising a
