-- A number in decimal: its digits, how many they are, and the number that digits stand for.
use Rattle.std.specs.Prelude.{ℕ, zero, suc, ◌+◌, ◌-◌, ◌*◌, ◌/◌, ◌%◌, Bool, true, cond, ◌&&◌, List, [], ◌∷◌, ◌++◌, ltb, leb}

-- the digit of a number below ten, `0` to `9`
abbrev pub digit : ℕ → ℕ
digit d = 48 + d

-- a number of at most k + 1 digits: the last, after those of a tenth of it, if it has more
unfoldable pub digits_of : ℕ → ℕ → List ℕ
digits_of zero n = digit (n % 10) ∷ []
digits_of (suc k) n = cond (ltb n 10) [] (digits_of k (n / 10)) ++ (digit (n % 10) ∷ [])

-- how many digits that are
unfoldable pub digit_count : ℕ → ℕ → ℕ
digit_count zero n = 1
digit_count (suc k) n = cond (ltb n 10) 0 (digit_count k (n / 10)) + 1

-- a number of 32 bits has at most ten
abbrev pub decimal : ℕ → List ℕ
decimal n = digits_of 9 n

abbrev pub decimal_count : ℕ → ℕ
decimal_count n = digit_count 9 n

-- ---- back

abbrev pub is_digit : ℕ → Bool
is_digit b = leb 48 b && leb b 57

unfoldable pub are_digits : List ℕ → Bool
are_digits [] = true
are_digits (b ∷ bs) = is_digit b && are_digits bs

-- the number of digits that go on from n
unfoldable pub value_from : ℕ → List ℕ → ℕ
value_from n [] = n
value_from n (b ∷ bs) = value_from (n * 10 + (b - 48)) bs
