-- The decimal digits of a number, over their length: how many they are, and that they give the number back. Assumes nothing.
use mathlib.Core.Path.{◌≡◌, refl, sym, ap, ◌∙◌}
use mathlib.Core.Bool.{Bool, true, false, cond, false≢true}
use mathlib.Core.List.{List, [], ◌∷◌, ◌++◌}
use Prim.Native.Nat.{ℕ, zero, suc, ◌+◌, ◌-◌, ◌*◌, ◌/◌, ◌%◌, ◌^◌, ◌≤◌, ◌<◌}
use native.Mathlib.Nat.{mod-lt, mod-eq_of_lt, div-add-mod', div-lt_iff_lt-mul, pow-suc}
use native.Mathlib.Omega.{arith}
use borrow.Author.Tests.{le-leb, ltb-true}
use lib.Dec.{ltb}
use lib.ListN.{length, drop, length-append, length-drop}
use Rattle.lists.proofs.Bools.{both_hold, both}
use Rattle.numerals.specs.Decimal.{digit, digits_of, digit_count, decimal, decimal_count, is_digit, are_digits, value_from}

-- ---- how many

pub count_is_length : (k n : ℕ) → length (digits_of k n) ≡ digit_count k n
unfolding digits_of digit_count
count_is_length zero n = refl
count_is_length (suc k) n = length-append (cond (ltb n 10) [] (digits_of k (n / 10))) (digit (n % 10) ∷ []) ∙ ap (λ (c : ℕ). c + 1) (go (ltb n 10) (count_is_length k (n / 10)))
  where
    go : (b : Bool) → length (digits_of k (n / 10)) ≡ digit_count k (n / 10) → length (cond b [] (digits_of k (n / 10))) ≡ cond b 0 (digit_count k (n / 10))
    go true e = refl
    go false e = e

pub at_least_one : (k n : ℕ) → 0 < digit_count k n
unfolding digit_count
at_least_one zero n = omega arith
at_least_one (suc k) n = omega arith

pub at_most : (k n : ℕ) → digit_count k n ≤ k + 1
unfolding digit_count
at_most zero n = omega arith
at_most (suc k) n = go (ltb n 10) (at_most k (n / 10))
  where
    go : (b : Bool) → digit_count k (n / 10) ≤ k + 1 → cond b 0 (digit_count k (n / 10)) + 1 ≤ suc k + 1
    go true l = omega arith
    go false l = omega arith

-- those from the first on, in ten places
pub counted : (n first : ℕ) (places : List ℕ) → first ≤ 9 → length places ≡ 10 → drop first places ≡ decimal n → 10 - first ≡ decimal_count n
counted n first places h l e =
    let d : length (drop first places) ≡ length places - first = length-drop first places in
    let c : length (drop first places) ≡ decimal_count n = ap length e ∙ count_is_length 9 n in
    omega arith

-- ---- each is a digit

is_digit_lem : (n : ℕ) → is_digit (digit (n % 10)) ≡ true
is_digit_lem n =
    let l = mod-lt n {m = 10} (omega arith) in
    both (le-leb 48 (48 + n % 10) (omega arith)) (le-leb (48 + n % 10) 57 (omega arith))

digits_snoc : (xs : List ℕ) (b : ℕ) → are_digits xs ≡ true → is_digit b ≡ true → are_digits (xs ++ (b ∷ [])) ≡ true
unfolding are_digits
digits_snoc [] b e d = both d refl
digits_snoc (x ∷ xs) b e d =
    let p = both_hold (is_digit x) (are_digits xs) e in
    both p.0 (digits_snoc xs b p.1 d)

pub are_digits_lem : (k n : ℕ) → are_digits (digits_of k n) ≡ true
unfolding digits_of are_digits
are_digits_lem zero n = digits_snoc [] (digit (n % 10)) refl (is_digit_lem n)
are_digits_lem (suc k) n = digits_snoc (cond (ltb n 10) [] (digits_of k (n / 10))) (digit (n % 10)) (go (ltb n 10) (are_digits_lem k (n / 10))) (is_digit_lem n)
  where
    go : (b : Bool) → are_digits (digits_of k (n / 10)) ≡ true → are_digits (cond b [] (digits_of k (n / 10))) ≡ true
    go true e = refl
    go false e = e

-- ---- back

value_snoc : (v : ℕ) (xs : List ℕ) (d : ℕ) → value_from v (xs ++ (digit d ∷ [])) ≡ value_from v xs * 10 + d
unfolding value_from
value_snoc v [] d = omega arith
value_snoc v (x ∷ xs) d = value_snoc (v * 10 + (x - 48)) xs d

one_digit : (n : ℕ) → n < 10 → value_from 0 (digit (n % 10) ∷ []) ≡ n
unfolding value_from
one_digit n h = rw (mod-eq_of_lt h) (omega arith)

tenth : (n k : ℕ) → n < 10 ^ suc (suc k) → n / 10 < 10 ^ suc k
tenth n k h = (div-lt_iff_lt-mul {k = 10} {x = n} {y = 10 ^ suc k} (omega arith)).1 (rw pow-suc at h)

-- the digits read back give the number
pub number_back : (k n : ℕ) → n < 10 ^ suc k → value_from 0 (digits_of k n) ≡ n
unfolding digits_of
number_back zero n h = one_digit n (omega arith)
number_back (suc k) n h = go (ltb n 10) refl (number_back k (n / 10) (tenth n k h))
  where
    go : (b : Bool) → ltb n 10 ≡ b → value_from 0 (digits_of k (n / 10)) ≡ n / 10 → value_from 0 (digits_of (suc k) n) ≡ n
    go true e r = rw e (one_digit n (ltb-true n 10 e))
    go false e r = rw e (value_snoc 0 (digits_of k (n / 10)) (n % 10) ∙ rw r (div-add-mod' n 10))

-- so two numbers with the same digits are the same
pub same_digits : (k m n : ℕ) → m < 10 ^ suc k → n < 10 ^ suc k → digits_of k m ≡ digits_of k n → m ≡ n
same_digits k m n h l e = sym (number_back k m h) ∙ ap (value_from 0) e ∙ number_back k n l

-- ---- where a text goes on behind them

no_digit_there : (b : ℕ) (bs : List ℕ) (x : ℕ) → is_digit x ≡ false → are_digits (b ∷ bs) ≡ true → b ≡ x → ⊥
unfolding are_digits
no_digit_there b bs x d e q = false≢true (sym d ∙ ap is_digit (sym q) ∙ (both_hold (is_digit b) (are_digits bs) e).0)

head_of : ℕ → List ℕ → ℕ
head_of d [] = d
head_of d (x ∷ xs) = x

tail_of : List ℕ → List ℕ
tail_of [] = []
tail_of (x ∷ xs) = xs

module _ (x y : ℕ) (xs ys : List ℕ) (p : is_digit x ≡ false) (q : is_digit y ≡ false) where
  -- digits end where no digit stands
  pub digits_end : (ds es : List ℕ) → are_digits ds ≡ true → are_digits es ≡ true → ds ++ (x ∷ xs) ≡ es ++ (y ∷ ys)
      → (ds ≡ es) × (x ∷ xs ≡ y ∷ ys)
  unfolding are_digits head_of tail_of
  digits_end [] [] p₁ p₂ s = (refl, s)
  digits_end [] (b ∷ es) p₁ p₂ s = absurd (no_digit_there b es x p p₂ (sym (ap (head_of 0) s)))
  digits_end (a ∷ ds) [] p₁ p₂ s = absurd (no_digit_there a ds y q p₁ (ap (head_of 0) s))
  digits_end (a ∷ ds) (b ∷ es) p₁ p₂ s =
      let r = digits_end ds es (both_hold (is_digit a) (are_digits ds) p₁).1 (both_hold (is_digit b) (are_digits es) p₂).1 (ap tail_of s) in
      let first : a ≡ b = ap (head_of 0) s in
      (rw (first, r.0), r.1)

  -- so a text that begins with a number's digits says the number, and the rest
  pub first_number : (k m n : ℕ) → m < 10 ^ suc k → n < 10 ^ suc k → digits_of k m ++ (x ∷ xs) ≡ digits_of k n ++ (y ∷ ys)
      → (m ≡ n) × (x ∷ xs ≡ y ∷ ys)
  first_number k m n h l e =
      let r = digits_end (digits_of k m) (digits_of k n) (are_digits_lem k m) (are_digits_lem k n) e in
      (same_digits k m n h l r.0, r.1)
