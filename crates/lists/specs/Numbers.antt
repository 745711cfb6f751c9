-- Tests, values and counts of the first n numbers, and a number in a list.
use Rattle.std.specs.Prelude.{ℕ, zero, suc, Bool, true, false, cond, ◌&&◌, ◌||◌, List, [], ◌∷◌, ◌++◌, eqb}

-- f 0, f 1, .. , n of them
unfoldable pub each : {A : Type 0} → ℕ → (ℕ → A) → List A
each zero f = []
each (suc n) f = each n f ++ (f n ∷ [])

-- does each of the first n pass?
unfoldable pub all_below : ℕ → (ℕ → Bool) → Bool
all_below zero test = true
all_below (suc n) test = all_below n test && test n

-- one more, if so
abbrev pub one_more : Bool → ℕ → ℕ
one_more true n = suc n
one_more false n = n

-- how many of the first n pass
unfoldable pub count_below : ℕ → (ℕ → Bool) → ℕ
count_below zero test = 0
count_below (suc n) test = one_more (test n) (count_below n test)

-- does x stand in the list?
unfoldable pub stands_in : ℕ → List ℕ → Bool
stands_in x [] = false
stands_in x (y ∷ ys) = eqb y x || stands_in x ys

-- the last of a list that passes, d where none does
unfoldable pub last_that : (ℕ → Bool) → ℕ → List ℕ → ℕ
last_that test d [] = d
last_that test d (x ∷ xs) = last_that test (cond (test x) x d) xs

-- what each of the first n gives, rising, one list behind the other
unfoldable pub gathered : {A : Type 0} → ℕ → (ℕ → List A) → List A
gathered zero f = []
gathered (suc j) f = gathered j f ++ f j

-- f of each of the first n that passes, rising
abbrev pub chosen : {A : Type 0} → ℕ → (ℕ → Bool) → (ℕ → A) → List A
chosen n test f = gathered n (λ j. cond (test j) (f j ∷ []) [])
