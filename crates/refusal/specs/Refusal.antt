-- Refusal numbers, where 0 is none.
use Rattle.std.specs.Prelude.{ℕ, zero, suc, min, ◌≤◌, ◌≡◌, Bool, true, false, ◌⊎◌, List, [], ◌∷◌, Result, Ok, Err}
use Rattle.refusal.specs.declared.Refusal.{Refusal}
use Rattle.refusal.specs.declared.Refusal.TheVariants.{Memory, Limit, Tag, Link, Mask, Locked, NotFinite, NotATurn, Beyond, Reversed, Singular, Overflow}

-- a rule's number
abbrev pub number : Refusal → ℕ
number Memory = 1
number Limit = 2
number Tag = 3
number Link = 4
number Mask = 5
number Locked = 6
number NotFinite = 7
number NotATurn = 8
number Beyond = 9
number Reversed = 10
number Singular = 11
number Overflow = 12

-- the number of what refuses a call, 0 where nothing does
abbrev pub code : {A : Type 0} → Result A Refusal → ℕ
code (Ok x) = 0
code (Err r) = number r

-- k, unless the test holds
abbrev pub unless_of : Bool → ℕ → ℕ
unless_of true k = 0
unless_of false k = k

-- the lower of two
unfoldable pub lower_of : ℕ → ℕ → ℕ
lower_of zero b = b
lower_of (suc a) zero = suc a
lower_of (suc a) (suc b) = min (suc a) (suc b)

-- the lowest of a list
abbrev pub lowest : List ℕ → ℕ
lowest [] = 0
lowest (k ∷ []) = k
lowest (k ∷ j ∷ ks) = lower_of k (lowest (j ∷ ks))

-- k stands in the list
abbrev pub In : ℕ → List ℕ → Type 0
In k [] = ⊥
In k (j ∷ ks) = (k ≡ j) ⊎ In k ks

-- r is the lowest of those given: none where none is, else one of them, and none is lower
pub record Lowest (ks : List ℕ) (r : ℕ) : Type 0 where
  pub none : r ≡ 0 → (k : ℕ) → In k ks → k ≡ 0
  pub given : (r ≡ 0 → ⊥) → In r ks
  pub least : (k : ℕ) → In k ks → (k ≡ 0 → ⊥) → r ≤ k
