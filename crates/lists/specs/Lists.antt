-- Parts of a list, what is laid over its front, and one of its elements changed.
use Rattle.std.specs.Prelude.{ℕ, zero, suc, ◌+◌, List, [], ◌∷◌, ◌++◌, length, take, drop}

-- the n entries from `at` on
abbrev pub part : {A : Type 0} → ℕ → ℕ → List A → List A
part at n s = take n (drop at s)

-- the list with those replaced by p
abbrev pub with_part : {A : Type 0} → ℕ → ℕ → List A → List A → List A
with_part at n p s = take at s ++ (p ++ drop (at + n) s)

-- a row laid over the front of a list; what lies past it stays
abbrev pub laid : {A : Type 0} → List A → List A → List A
laid row list = row ++ drop (length row) list

-- f of the i-th; past the end nothing changes
unfoldable pub modify : {A : Type 0} → (A → A) → ℕ → List A → List A
modify f i [] = []
modify f zero (x ∷ xs) = f x ∷ xs
modify f (suc i) (x ∷ xs) = x ∷ modify f i xs
