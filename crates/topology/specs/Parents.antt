-- Parents as a list, link j's at place j.
use Rattle.std.specs.Prelude.{ℕ, zero, suc, Bool, cond, List, [], ◌∷◌, ◌++◌, length, get_or, eqb, ltb}
use Rattle.lists.specs.Numbers.{each, all_below, stands_in}
use Rattle.limits.specs.Limits.{link_limit}

-- the parent of link j
abbrev pub parent_in : List ℕ → ℕ → ℕ
parent_in ps j = get_or ps j 0

-- rule 4 for link j of parent p: a first link's parent is 0, a later link's is earlier
unfoldable pub parent_fits : ℕ → ℕ → Bool
parent_fits zero p = eqb p 0
parent_fits (suc j) p = ltb p (suc j)

-- rule 4 for every link of a list
unfoldable pub parents_fit : List ℕ → Bool
parents_fit ps = all_below (length ps) (λ j. parent_fits j (parent_in ps j))

-- the links met on the way up from link j, the highest first: at most k steps, and none where the parent isn't earlier
unfoldable pub way_to : List ℕ → ℕ → ℕ → List ℕ
way_to ps zero j = j ∷ []
way_to ps (suc k) j = cond (ltb (parent_in ps j) j) (way_to ps k (parent_in ps j)) [] ++ (j ∷ [])

-- from the root to link j, which is j steps at most; nothing for a number that isn't below the count
unfoldable pub branch : List ℕ → ℕ → List ℕ
unfolding way_to
branch ps j = cond (ltb j (length ps)) (way_to ps j j) []

-- is link j at or below link i? where i stands on j's branch
unfoldable pub at_or_below : List ℕ → ℕ → ℕ → Bool
at_or_below ps i j = stands_in i (branch ps j)

-- the marks of link i, one for each link that an arm may have
unfoldable pub marks : List ℕ → ℕ → List Bool
marks ps i = each link_limit (at_or_below ps i)
